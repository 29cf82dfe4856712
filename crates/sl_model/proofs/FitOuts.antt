-- What an expression leaves is of its type: what follows a value, a number, operands, a call of the library and the place of a left side.
use Rattle.std.proofs.Common.{◌≡◌, ℕ, Bool, true, false, List, [], ◌∷◌, Option, Some, None, length, sym, ap, ◌∙◌}
use Rattle.std.specs.Prelude.{ℤ, pos, slice_get}
use Rattle.sl_base.specs.declared.place.Place.{Place}
use Rattle.sl_base.specs.declared.form.Form.{Form}
use Rattle.sl_typing.specs.declared.expr_type.ExprType.{ExprType}
use Rattle.sl_typing.specs.declared.expr_type.ExprType.TheVariants as types
use Rattle.sl_typing.specs.Types.{has_type, only}
use Rattle.sl_model.specs.Numbers.{Answer, value, fault}
use Rattle.sl_syntax.specs.declared.typed.head.Head.{Head}
use Rattle.sl_syntax.specs.declared.typed.step.Fix.{Fix}
use Rattle.sl_syntax.specs.declared.typed.step.Fix.TheVariants.{Prefix, Postfix}
use Rattle.sl_model.specs.Memory.Containers.{Memory}
use Rattle.sl_model.specs.LibraryCalls.Values.{Value, number, iterator, pair, two, scalar_at, container_at, element_at, LibOut, trapped, thrown}
use Rattle.sl_model.specs.LibraryCalls.Values.{faulted, gives, unbuilt}
use Rattle.sl_model.specs.Runs.State.{State, scalar_value}
use Rattle.sl_model.specs.Runs.Eval.{Out, Gives, Stops, Outs, AllGive, OneStops, then_eval, with_number, then_number, add_value, then_rest, then_call}
use Rattle.sl_model.specs.Runs.Eval.{branch, answered, if_set, read_at, settle_call, moved_to, chosen, first_of, second_of}
use Rattle.sl_model.specs.Typing.Shapes.{Gift}
use Rattle.sl_model.specs.Typing.WellTypedExpressions.{only_value, handed, type_of_first, type_of_second}
use Rattle.sl_model.proofs.Fitting.{forms_of, StampFits, IsNumber, IsIteratorOf, IsPairOf, AreTwoOf, Fits, AllFit, IsGiven, IsMeant}
use Rattle.sl_model.proofs.Levels.{Level, Now}
use Rattle.sl_model.proofs.Gifts.{Gave, OutAt, AllGave, OutsAt}
use Rattle.sl_model.proofs.StackTypes.{form_known, iterator_of, Stack, FormsGoOn, StacksFit, HasMeaning, fits_later, memory-fits, set_iterator-fits}
use Rattle.sl_model.proofs.StackTypes.{from_now, then-fits, ContFits}
use Rattle.sl_model.proofs.StackScopes.{IsNumberType}

-- what an expression leaves: a value of which this holds in the memory behind it, with stacks that fit, or an end that has a meaning
abbrev pub OutHas : (Memory → Value → Type 0) → Stack → Out → Type 0
OutHas P d (Gives v s) = P s.memory v × StacksFit d s
OutHas P d (Stops e s) = HasMeaning e

-- a value is of a type
abbrev pub Of : ExprType → Memory → Value → Type 0
Of u m v = Fits m u v

-- a value is a number
abbrev pub ANumber : Memory → Value → Type 0
ANumber m v = IsNumber v

-- it is a place that may be read
abbrev pub IsPlace : Value → Type 0
IsPlace (scalar_at l) = Unit {0}
IsPlace (element_at j k part) = Unit {0}
IsPlace v = ⊥

-- in each memory
abbrev pub APlace : Memory → Value → Type 0
APlace m v = IsPlace v

-- what an expression leaves is of a type
abbrev pub OutFits : Stack → ExprType → Out → Type 0
OutFits d u o = OutHas (Of u) d o

-- what operands leave is of these types
abbrev pub OutsFit : Stack → List ExprType → Outs → Type 0
OutsFit d us (AllGive vs s) = AllFit s.memory us vs × StacksFit d s
OutsFit d us (OneStops e s) = HasMeaning e

-- what holds of a value lets something else hold of it
pub out_as : (P Q : Memory → Value → Type 0) (d : Stack) (o : Out) → ((m : Memory) (v : Value) → P m v → Q m v) → OutHas P d o → OutHas Q d o
out_as P Q d (Gives v s) k h = (k s.memory v h.0, h.1)
out_as P Q d (Stops e s) k h = h

-- what fits a type fits it behind a condition that holds
pub fits_only : (b : Bool) (u : ExprType) (m : Memory) (v : Value) → has_type (only b u) ≡ true → Fits m u v → Fits m (only b u) v
fits_only true u m v h fits = fits
fits_only false u m v h fits = absurd (cc)

-- a number fits the type of a number
pub number_fits : (u : ExprType) (m : Memory) (v : Value) → IsNumberType u → IsNumber v → Fits m u v
number_fits (types.Scalar s) m v h n = n
number_fits (types.Element w) m v h n = n
number_fits u m v h n = absurd h

-- what leaves a number leaves one of a type of numbers
pub numbered : (u : ExprType) (d : Stack) (o : Out) → IsNumberType u → OutHas ANumber d o → OutFits d u o
numbered u d o h i = out_as ANumber (Of u) d o (λ m v n. number_fits u m v h n) i

-- also behind a condition that holds
pub numbered_only : (b : Bool) (u : ExprType) (d : Stack) (o : Out) → has_type (only b u) ≡ true → IsNumberType u → OutHas ANumber d o
    → OutFits d (only b u) o
numbered_only b u d o t h i = out_as ANumber (Of (only b u)) d o (λ m v n. fits_only b u m v t (number_fits u m v h n)) i

-- what a call gives fits its type, where that isn't an element
pub given_value : (u : ExprType) (m : Memory) (v : Value) → has_type (only_value u) ≡ true → IsGiven m u v → Fits m (only_value u) v
given_value (types.Element w) m v t h = absurd (cc)
given_value u m v t h = h

-- a scalar variable fits the type of what is handed over
pub handed_fits : (u : ExprType) (m : Memory) (l : ℕ) → has_type (handed u) ≡ true → Fits m (handed u) (scalar_at l)
handed_fits (types.Scalar s) m l h = tt
handed_fits u m l h = absurd (cc)

-- the first part of an iterator and a bool
first_of_pair : (m : Memory) (form : Form) (v : Value) → IsPairOf m form v → IsIteratorOf m form (first_of v)
first_of_pair m form (pair stamp b) h = h
first_of_pair m form v h = absurd h

-- the first of two iterators
first_of_two : (m : Memory) (form : Form) (v : Value) → AreTwoOf m form v → IsIteratorOf m form (first_of v)
first_of_two m form (two stamp other) h = h.0
first_of_two m form v h = absurd h

-- the first part fits its type
pub first_fits : (u : ExprType) (m : Memory) (v : Value) → has_type (type_of_first u) ≡ true → Fits m u v → Fits m (type_of_first u) (first_of v)
first_fits (types.IteratorAndBool form) m v t h = first_of_pair m form v h
first_fits (types.IteratorPair b form) m v t h = first_of_two m form v h
first_fits u m v t h = absurd (cc)

-- the second part of an iterator and a bool
second_of_pair : (m : Memory) (form : Form) (v : Value) → IsPairOf m form v → IsNumber (second_of v)
second_of_pair m form (pair stamp b) h = tt
second_of_pair m form v h = absurd h

-- the second of two iterators
second_of_two : (m : Memory) (form : Form) (v : Value) → AreTwoOf m form v → IsIteratorOf m form (second_of v)
second_of_two m form (two stamp other) h = h.1
second_of_two m form v h = absurd h

-- the second part fits its type
pub second_fits : (u : ExprType) (m : Memory) (v : Value) → has_type (type_of_second u) ≡ true → Fits m u v
    → Fits m (type_of_second u) (second_of v)
second_fits (types.IteratorAndBool form) m v t h = second_of_pair m form v h
second_fits (types.IteratorPair b form) m v t h = second_of_two m form v h
second_fits u m v t h = absurd (cc)

-- a container that is where one of its form is fits its type
pub container_fits : (fs : List Form) (m : Memory) (u : ExprType) (l : ℕ)
    → ((l : ℕ) (form : Form) → slice_get fs l ≡ Some form → slice_get (forms_of m) l ≡ Some form) → ContFits fs u l → Fits m u (container_at l)
container_fits fs m (types.Container access form) l keep h = keep l form h
container_fits fs m u l keep h = absurd h

-- one of two numbers is one
pub chosen_number : (x : Fix) (y z : ℤ) → IsNumber (chosen x (number y) (number z))
chosen_number Prefix y z = tt
chosen_number Postfix y z = tt

-- one of two iterators of a form is one
chosen_iterator : (m : Memory) (form : Form) (x : Fix) (y z : ℕ) → StampFits m form y → StampFits m form z
    → IsIteratorOf m form (chosen x (iterator y) (iterator z))
chosen_iterator m form Prefix y z h k = k
chosen_iterator m form Postfix y z h k = h

-- containers keep their forms between two states of which as much is known as containers are there
forms_between : (d : Stack) (s t : State) → length d.conts ≡ length s.memory.conts → StacksFit d s
    → ((l : ℕ) (form : Form) → slice_get d.conts l ≡ Some form → slice_get (forms_of t.memory) l ≡ Some form) → FormsGoOn s.memory t.memory
forms_between d s t high h keep l form e = keep l form (form_known d s l form high h e)

module _ (L : Level) (d : Stack) where
  -- what follows a value
  pub fit_then : (e : Stack) (gift : Gift) (P Q : Memory → Value → Type 0) (o : Out) (go : Value → State → Out) → OutAt L d.used gift o
      → OutHas P d o
      → ((v : Value) (s : State) → Gave L d.used gift v s → P s.memory v → StacksFit d s → OutHas Q e (go v s)) → OutHas Q e (then_eval o go)
  fit_then e gift P Q (Gives v s) go h i k = k v s h i.0 i.1
  fit_then e gift P Q (Stops x s) go h i k = i

  -- what follows a number, where the number comes from a value
  fit_number : (Q : Memory → Value → Type 0) (go : ℤ → State → Out) (v : Value) (s : State) → ((z : ℤ) → OutHas Q d (go z s))
      → OutHas Q d (with_number go v s)
  fit_number Q go (number z) s k = k z
  fit_number Q go v s k = k (pos 0)

  -- what follows a number
  pub fit_then_number : (gift : Gift) (P Q : Memory → Value → Type 0) (o : Out) (go : ℤ → State → Out) → OutAt L d.used gift o → OutHas P d o
      → ((z : ℤ) (s : State) → Now L d.used s → StacksFit d s → OutHas Q d (go z s)) → OutHas Q d (then_number o go)
  fit_then_number gift P Q o go h i k =
      fit_then d gift P Q o (with_number go) h i (λ v s j p f. fit_number Q go v s (λ z. k z s j.now f))

  -- what follows all operands
  pub fit_call : (gifts : List Gift) (us : List ExprType) (Q : Memory → Value → Type 0) (o : Outs) (go : List Value → State → Out)
      → OutsAt L d.used gifts o → OutsFit d us o
      → ((vs : List Value) (s : State) → AllGave L d.used gifts vs s → AllFit s.memory us vs → StacksFit d s → OutHas Q d (go vs s))
      → OutHas Q d (then_call o go)
  fit_call gifts us Q (AllGive vs s) go h i k = k vs s h i.0 i.1
  fit_call gifts us Q (OneStops e s) go h i k = i

  -- an operand before the others
  fit_add : (gift : Gift) (u : ExprType) (us : List ExprType) (v : Value) (s : State) (o : Outs) → length d.conts ≡ L.conts
      → Gave L d.used gift v s → Fits s.memory u v → StacksFit d s → OutsFit (from_now d s) us o → OutsFit d (u ∷ us) (add_value v o)
  fit_add gift u us v s (AllGive vs t) high h fits f i = (
    (fits_later s.memory.fresh s.memory t.memory u v i.1.fit (forms_between d s t high_here f i.1.conts) h.used fits, i.0),
    then-fits d s t
        h.now.later f i.1,
  )
    where
      high_here : length d.conts ≡ length s.memory.conts
      high_here = high ∙ sym (ap (λ (l : Level). l.conts) h.now.level)
  fit_add gift u us v s (OneStops e t) high h fits f i = i

  -- the operands behind the first one
  pub fit_rest : (gift : Gift) (u : ExprType) (us : List ExprType) (o : Out) (go : State → Outs) → length d.conts ≡ L.conts
      → OutAt L d.used gift o → OutFits d u o
      → ((v : Value) (s : State) → Gave L d.used gift v s → StacksFit d s → OutsFit (from_now d s) us (go s))
      → OutsFit d (u ∷ us) (then_rest o go)
  fit_rest gift u us (Gives v s) go high h i k = fit_add gift u us v s (go s) high h i.0 i.1 (k v s h i.1)
  fit_rest gift u us (Stops e s) go high h i k = i

  -- an operator's answer
  pub fit_answer : (at : Place) (a : Answer) (s : State) → StacksFit d s → OutHas ANumber d (answered at a s)
  fit_answer at (value z) s f = (tt, f)
  fit_answer at (fault w) s f = tt

  -- one of two ways
  pub fit_branch : (Q : Memory → Value → Type 0) (b : Bool) (p q : State → Out) (s : State) → OutHas Q d (p s) → OutHas Q d (q s)
      → OutHas Q d (branch b p q s)
  fit_branch Q true p q s h k = h
  fit_branch Q false p q s h k = k

  -- reading a variable
  fit_if_set : (at : Place) (z : Option ℤ) (s : State) → StacksFit d s → OutHas ANumber d (if_set at z s)
  fit_if_set at (Some z) s f = (tt, f)
  fit_if_set at None s f = tt

  -- reading a place
  pub fit_read : (at : Place) (v : Value) (s : State) → IsPlace v → StacksFit d s → OutHas ANumber d (read_at at v s)
  fit_read at (scalar_at l) s h f = fit_if_set at (scalar_value s l) s f
  fit_read at (element_at j k part) s h f = (tt, f)
  fit_read at v s h f = absurd h

  -- a call of the library
  pub fit_settle : (u : ExprType) (hd : Head) (vs : List Value) (o : LibOut) (s : State) → Now L d.used s → StacksFit d s
      → IsMeant [] s.memory u o → OutHas (λ m v. IsGiven m u v) d (settle_call hd vs o s)
  fit_settle u hd vs (trapped kind a) s h f i = tt
  fit_settle u hd vs thrown s h f i = tt
  fit_settle u hd vs (faulted w) s h f i = tt
  fit_settle u hd vs (gives v m picks) s h f i = (i.given, memory-fits d [] s m h.good h.later i.kept f)
  fit_settle u hd vs unbuilt s h f i = absurd i

  -- an iterator variable takes the stamp that a call gave, and what is given is the variable's or the new one, or nothing is asked of it
  pub fit_moved : (x : Fix) (l old : ℕ) (form : Form) (v : Value) (s : State) → slice_get d.iters l ≡ Some (iterator_of form)
      → StampFits s.memory form old → IsIteratorOf s.memory form v → StacksFit d s → OutHas (λ m w. IsIteratorOf m form w) d (moved_to x l old v s)
  fit_moved x l old form (iterator new) s there before h f =
      (chosen_iterator s.memory form x old new before h, set_iterator-fits d s.memory s.iters l new form there h f)
  fit_moved x l old form v s there before h f = absurd h
