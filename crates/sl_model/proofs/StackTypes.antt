-- What lies on the stacks of a run is of its type: at each location of a container that is known stands one of its form, at each of an iterator an
-- iterator of its form, at each of a reference a reference; and what is in scope is where its type says. Each change of a state keeps it.
use Rattle.std.proofs.Common.{◌≡◌, ℕ, zero, suc, ◌<◌, ◌≤◌, List, [], ◌∷◌, ◌++◌, Option, Some, None, map, length, take, refl, sym, ap, ◌∙◌}
use Rattle.std.proofs.Common.{subst, arith}
use Rattle.std.specs.Prelude.{ℤ, slice_get}
use Rattle.std.specs.List.{slice_set}
use Rattle.std.proofs.lemmas.List.{length-map}
use Rattle.sl_base.specs.declared.form.Form.{Form}
use Rattle.sl_typing.specs.declared.expr_type.ExprType.{ExprType}
use Rattle.sl_typing.specs.declared.expr_type.ExprType.TheVariants as types
use Rattle.sl_model.specs.Memory.Containers.{Cont, Memory, write_element, end_from}
use Rattle.sl_model.specs.LibraryCalls.Values.{Value, iterator, pair, two, scalar_at, container_at, element_at}
use Rattle.sl_model.specs.Runs.Ends.{End, NoMeaning}
use Rattle.sl_model.specs.Runs.Eval.{write_at}
use Rattle.sl_model.specs.Runs.State.{Pointer, iterator_at, reference_to, State, set_scalar_at, mark_in}
use Rattle.sl_model.specs.Runs.Good.{IsGood, AreBelow}
use Rattle.sl_model.specs.Typing.WellTypedScopes.{Scope}
use Rattle.sl_model.proofs.Getting.{get_some, get_left, get_within, get_map}
use Rattle.sl_model.proofs.Fitting.{forms_of, StampFits, KeepsForms, Fits, IsIteratorOf, IsPairOf, AreTwoOf, IsContainerOf}
use Rattle.sl_model.proofs.FormsAfter.{write-forms, ended-forms, ended-fits}
use Rattle.sl_model.proofs.Gifts.{IsUsed}
use Rattle.sl_model.proofs.Levels.{Level, Now}

-- what a location on the stack of iterators is for
pub data Kind : Type 0 where
  iterator_of : Form → Kind
  a_reference : Kind

-- What is known of the stacks: the forms of the containers and the kinds of the iterators and references, from the bottom on; and a memory of
-- before with a number, of which the stamps below that number go on to fit what they fit.
pub record Stack : Type 0 where
  pub conts : List Form
  pub iters : List Kind
  pub before : Memory
  pub used : ℕ

-- what is held is of a kind
abbrev pub Holds : Memory → Kind → Option Pointer → Type 0
Holds m (iterator_of form) (Some (iterator_at stamp)) = StampFits m form stamp
Holds m a_reference (Some (reference_to refer part)) = Unit {0}
Holds m k p = ⊥

-- the stamps below a number fit in a later memory what they fit before
abbrev pub StampsGoOn : ℕ → Memory → Memory → Type 0
StampsGoOn n m later = (form : Form) (stamp : ℕ) → stamp < n → StampFits m form stamp → StampFits later form stamp

-- the containers that are there keep their forms
abbrev pub FormsGoOn : Memory → Memory → Type 0
FormsGoOn m later = (l : ℕ) (form : Form) → slice_get (forms_of m) l ≡ Some form → slice_get (forms_of later) l ≡ Some form

-- the stacks hold what is known of them
pub record Lies (d : Stack) (m : Memory) (held : List Pointer) : Type 0 where
  pub conts : (l : ℕ) (form : Form) → slice_get d.conts l ≡ Some form → slice_get (forms_of m) l ≡ Some form
  pub iters : (l : ℕ) (k : Kind) → slice_get d.iters l ≡ Some k → Holds m k (slice_get held l)
  pub fit : StampsGoOn d.used d.before m

-- the stacks of a state do
abbrev pub StacksFit : Stack → State → Type 0
StacksFit d s = Lies d s.memory s.iters

-- the end of a run is not for want of a meaning
abbrev pub HasMeaning : End → Type 0
HasMeaning (NoMeaning at) = ⊥
HasMeaning e = Unit {0}

-- each of these is the type of a number
abbrev pub AreNumbers : List ExprType → Type 0
AreNumbers [] = Unit {0}
AreNumbers (types.Scalar s ∷ us) = AreNumbers us
AreNumbers (u ∷ us) = ⊥

-- a container of a type has its form where it is
abbrev pub ContFits : List Form → ExprType → ℕ → Type 0
ContFits fs (types.Container access form) l = slice_get fs l ≡ Some form
ContFits fs u l = ⊥

-- each of these containers does
abbrev pub ContsFit : List Form → List ExprType → List ℕ → Type 0
ContsFit fs [] [] = Unit {0}
ContsFit fs (u ∷ us) (l ∷ ls) = ContFits fs u l × ContsFit fs us ls
ContsFit fs us ls = ⊥

-- an iterator or a reference of a type is where one of its kind is
abbrev pub IterFits : List Kind → ExprType → ℕ → Type 0
IterFits ks (types.Iterator b form) l = slice_get ks l ≡ Some (iterator_of form)
IterFits ks (types.IntReference w) l = slice_get ks l ≡ Some a_reference
IterFits ks (types.EntryReference w) l = slice_get ks l ≡ Some a_reference
IterFits ks u l = ⊥

-- each of these is
abbrev pub ItersFit : List Kind → List ExprType → List ℕ → Type 0
ItersFit ks [] [] = Unit {0}
ItersFit ks (u ∷ us) (l ∷ ls) = IterFits ks u l × ItersFit ks us ls
ItersFit ks us ls = ⊥

-- what is in scope at a level is where its type says, and the stacks are known up to their heights
pub record ScopeFits (L : Level) (g : Scope) (fs : List Form) (ks : List Kind) : Type 0 where
  pub scalars : AreNumbers g.scalars
  pub conts_high : length fs ≡ L.conts
  pub iters_high : length ks ≡ L.iters
  pub containers : ContsFit fs g.containers L.frame.conts
  pub iterators : ItersFit ks g.iterators L.frame.iters

-- what is below another index is taken
get_taken : {A : Type 0} (n : ℕ) (xs : List A) (k : ℕ) → k < n → slice_get (take n xs) k ≡ slice_get xs k
get_taken zero xs k h = absurd (omega arith)
get_taken (suc n) [] k h = refl
get_taken (suc n) (x ∷ xs) zero h = refl
get_taken (suc n) (x ∷ xs) (suc k) h = get_taken n xs k (omega arith)

-- containers that keep their forms, beside new ones
pub forms_go_on : (more : List Form) (m later : Memory) → KeepsForms more m later → FormsGoOn m later
forms_go_on more m later h l form e = subst (λ (fs : List Form). slice_get fs l ≡ Some form) (sym h.forms)
    (get_left (forms_of m) more l (get_within (forms_of m) l form e) ∙ e)

-- an iterator goes on to be of its form
iterator_later : (n : ℕ) (m later : Memory) (form : Form) (v : Value) → StampsGoOn n m later → IsUsed n v → IsIteratorOf m form v
    → IsIteratorOf later form v
iterator_later n m later form (iterator stamp) keep used h = keep form stamp used h
iterator_later n m later form v keep used h = h

-- so does one with a bool
pair_later : (n : ℕ) (m later : Memory) (form : Form) (v : Value) → StampsGoOn n m later → IsUsed n v → IsPairOf m form v → IsPairOf later form v
pair_later n m later form (pair stamp b) keep used h = keep form stamp used h
pair_later n m later form v keep used h = h

-- so do two
two_later : (n : ℕ) (m later : Memory) (form : Form) (v : Value) → StampsGoOn n m later → IsUsed n v → AreTwoOf m form v → AreTwoOf later form v
two_later n m later form (two stamp other) keep used h = (keep form stamp used.0 h.0, keep form other used.1 h.1)
two_later n m later form v keep used h = h

-- a container keeps its form
container_later : (m later : Memory) (form : Form) (v : Value) → FormsGoOn m later → IsContainerOf m form v → IsContainerOf later form v
container_later m later form (container_at j) keep h = keep j form h
container_later m later form v keep h = h

-- what fits a type goes on to fit it
pub fits_later : (n : ℕ) (m later : Memory) (u : ExprType) (v : Value) → StampsGoOn n m later → FormsGoOn m later → IsUsed n v → Fits m u v
    → Fits later u v
fits_later n m later types.Nothing v keep forms used h = h
fits_later n m later (types.Scalar s) v keep forms used h = h
fits_later n m later (types.Element w) v keep forms used h = h
fits_later n m later (types.Iterator b form) v keep forms used h = iterator_later n m later form v keep used h
fits_later n m later (types.IteratorAndBool form) v keep forms used h = pair_later n m later form v keep used h
fits_later n m later (types.IteratorPair b form) v keep forms used h = two_later n m later form v keep used h
fits_later n m later (types.Container access form) v keep forms used h = container_later m later form v forms h
fits_later n m later (types.Handed s) v keep forms used h = h
fits_later n m later u v keep forms used h = h

-- what is held goes on to be of its kind, where the stamp that is held goes on to fit
holds_later : (m later : Memory) (k : Kind) (p : Option Pointer)
    → ((form : Form) (stamp : ℕ) → p ≡ Some (iterator_at stamp) → StampFits m form stamp → StampFits later form stamp) → Holds m k p
    → Holds later k p
holds_later m later (iterator_of form) (Some (iterator_at stamp)) keep h = keep form stamp refl h
holds_later m later (iterator_of form) (Some (reference_to refer part)) keep h = h
holds_later m later (iterator_of form) None keep h = h
holds_later m later a_reference (Some (iterator_at stamp)) keep h = h
holds_later m later a_reference (Some (reference_to refer part)) keep h = h
holds_later m later a_reference None keep h = h

-- the stacks are known in a later memory
pub lies_later : (d : Stack) (m later : Memory) (held : List Pointer) → AreBelow (map mark_in held) m.fresh → d.used ≤ m.fresh
    → StampsGoOn m.fresh m later → FormsGoOn m later → Lies d m held → Lies d later held
lies_later d m later held below less keep forms h = record {
  conts = λ l form e. forms l form (h.conts l form e);
  iters = λ l k e. holds_later m later k (slice_get held l)
      (λ form stamp there fits. keep form stamp (below l stamp (get_map mark_in held l (iterator_at stamp) there)) fits) (h.iters l k e);
  fit = λ form stamp low fits. keep form stamp (let r : stamp < d.used = low in omega arith) (h.fit form stamp low fits);
}

-- memory is a later one in which what fits goes on to fit
pub memory-fits : (d : Stack) (more : List Form) (s : State) (later : Memory) → IsGood s → d.used ≤ s.memory.fresh
    → KeepsForms more s.memory later → StacksFit d s → Lies d later s.iters
memory-fits d more s later good less keeps h =
    lies_later d s.memory later s.iters good.held less keeps.stamps_fit (forms_go_on more s.memory later keeps) h

-- a scalar takes a number
pub set_scalar-fits : (d : Stack) (l : ℕ) (z : ℤ) (s : State) → StacksFit d s → StacksFit d (set_scalar_at l z s)
set_scalar-fits d l z s h =
    elim (slice_get s.scalars l) as (λ o. StacksFit d
    (elim o as (λ _. State) [ None ↦ s | Some x ↦ record s { scalars = slice_set s.scalars l (record x { value = Some z }) } ])) [
      | None ↦ h
      | Some x ↦ h
    ]

-- a number is written at a place
pub write-fits : (d : Stack) (v : Value) (z : ℤ) (s : State) → IsGood s → d.used ≤ s.memory.fresh → StacksFit d s
    → StacksFit d (write_at v z s)
write-fits d (scalar_at l) z s good less h = set_scalar-fits d l z s h
write-fits d (element_at i k p) z s good less h =
    memory-fits d [] s (write_element s.memory i k p z) good less (write-forms s.memory i k p z) h
write-fits d v z s good less h = h

-- what is held where one is written
held_set : (m : Memory) (held : List Pointer) (l j : ℕ) (p : Pointer) (k : Kind) → (j ≡ l → Holds m k (Some p)) → Holds m k (slice_get held j)
    → Holds m k (slice_get (slice_set held l p) j)
held_set m [] l j p k new h = h
held_set m (q ∷ held) zero zero p k new h = new refl
held_set m (q ∷ held) zero (suc j) p k new h = h
held_set m (q ∷ held) (suc l) zero p k new h = h
held_set m (q ∷ held) (suc l) (suc j) p k new h = held_set m held l j p k (λ e. new (ap suc e)) h

-- an iterator takes a stamp that fits
pub set_iterator-fits : (d : Stack) (m : Memory) (held : List Pointer) (l stamp : ℕ) (form : Form) → slice_get d.iters l ≡ Some (iterator_of form)
    → StampFits m form stamp → Lies d m held → Lies d m (slice_set held l (iterator_at stamp))
set_iterator-fits d m held l stamp form there fits h = record {
  conts = h.conts;
  iters = λ j k e. held_set m held l j (iterator_at stamp) k (λ same. new j k e same) (h.iters j k e);
  fit = h.fit;
}
  where
    new : (j : ℕ) (k : Kind) → slice_get d.iters j ≡ Some k → j ≡ l → Holds m k (Some (iterator_at stamp))
    new j k e same = let q : iterator_of form ≡ k = same_kind k (sym there ∙ (ap (slice_get d.iters) (sym same) ∙ e)) in
        subst (λ (x : Kind). Holds m x (Some (iterator_at stamp))) q fits
      where
        same_kind : (x : Kind) → Some (iterator_of form) ≡ Some x → iterator_of form ≡ x
        same_kind x r = cc

-- what is held where one more is
held_more : (m : Memory) (ks : List Kind) (held : List Pointer) (k : Kind) (p : Pointer) (j : ℕ) (x : Kind) → length ks ≡ length held
    → Holds m k (Some p) → ((j : ℕ) (x : Kind) → slice_get ks j ≡ Some x → Holds m x (slice_get held j))
    → slice_get (ks ++ k ∷ []) j ≡ Some x → Holds m x (slice_get (held ++ p ∷ []) j)
held_more m [] [] k p zero x high new h e = let q : k ≡ x = cc in subst (λ (y : Kind). Holds m y (Some p)) q new
held_more m [] [] k p (suc j) x high new h e = absurd (cc)
held_more m [] (q ∷ held) k p j x high new h e = absurd (omega arith)
held_more m (y ∷ ks) [] k p j x high new h e = absurd (omega arith)
held_more m (y ∷ ks) (q ∷ held) k p zero x high new h e = h zero x e
held_more m (y ∷ ks) (q ∷ held) k p (suc j) x high new h e =
    held_more m ks held k p j x (omega arith) new (λ i z there. h (suc i) z there) e

-- what is known with one iterator or reference more
abbrev pub one_iter : Kind → Stack → Stack
one_iter k d = record d { iters = d.iters ++ k ∷ [] }

-- with one container more
abbrev pub one_cont : Form → Stack → Stack
one_cont form d = record d { conts = d.conts ++ form ∷ [] }

-- a new iterator or reference of a kind
pub new_pointer-fits : (d : Stack) (m : Memory) (held : List Pointer) (k : Kind) (p : Pointer) → length d.iters ≡ length held → Holds m k (Some p)
    → Lies d m held → Lies (one_iter k d) m (held ++ p ∷ [])
new_pointer-fits d m held k p high new h = record {
  conts = h.conts;
  iters = λ j x e. held_more m d.iters held k p j x high new h.iters e;
  fit = h.fit;
}

-- what stands where one more does
stands_more : (fs gs : List Form) (form : Form) (l : ℕ) (x : Form) → length fs ≡ length gs
    → ((l : ℕ) (x : Form) → slice_get fs l ≡ Some x → slice_get gs l ≡ Some x) → slice_get (fs ++ form ∷ []) l ≡ Some x
    → slice_get (gs ++ form ∷ []) l ≡ Some x
stands_more [] [] form l x high h e = e
stands_more [] (g ∷ gs) form l x high h e = absurd (omega arith)
stands_more (f ∷ fs) [] form l x high h e = absurd (omega arith)
stands_more (f ∷ fs) (g ∷ gs) form zero x high h e = h zero x e
stands_more (f ∷ fs) (g ∷ gs) form (suc l) x high h e =
    stands_more fs gs form l x (omega arith) (λ i y there. h (suc i) y there) e

-- there are as many forms as containers
pub length-forms : (m : Memory) → length (forms_of m) ≡ length m.conts
length-forms m = length-map m.conts (λ (c : Cont). c.form)

-- a new container of a form
pub new_container-fits : (d : Stack) (form : Form) (s : State) (later : Memory) → IsGood s → d.used ≤ s.memory.fresh
    → length d.conts ≡ length s.memory.conts → KeepsForms (form ∷ []) s.memory later → StacksFit d s → Lies (one_cont form d) later s.iters
new_container-fits d form s later good less high keeps h = with_more (memory-fits d (form ∷ []) s later good less keeps h)
  where
    with_more : Lies d later s.iters → Lies (one_cont form d) later s.iters
    with_more i = record {
      conts = λ l x e. subst (λ (fs : List Form). slice_get fs l ≡ Some x) (sym keeps.forms)
          (stands_more d.conts (forms_of s.memory) form l x (high ∙ sym (length-forms s.memory)) h.conts e);
      iters = i.iters;
      fit = i.fit;
    }

-- the containers from a height on end, and what is held above another height goes
pub end-fits : (d : Stack) (site a b : ℕ) (m : Memory) (held : List Pointer) → length d.conts ≡ a → length d.iters ≡ b
    → Lies d m held → Lies d (end_from site a m) (take b held)
end-fits d site a b m held conts_high iters_high h = record {
  conts = λ l form e. subst (λ (fs : List Form). slice_get fs l ≡ Some form) (sym (ended-forms site a m))
      (get_taken a (forms_of m) l (let r = get_within d.conts l form e in omega arith) ∙ h.conts l form e);
  iters = λ l k e. subst (λ (p : Option Pointer). Holds (end_from site a m) k p)
      (sym (get_taken b held l (let r = get_within d.iters l k e in omega arith)))
      (holds_later m (end_from site a m) k (slice_get held l) (λ form stamp there fits. ended-fits site a m form stamp fits) (h.iters l k e));
  fit = λ form stamp low fits. ended-fits site a m form stamp (h.fit form stamp low fits);
}

-- what is known of the stacks, with the memory of a state as that of before
abbrev pub from_now : Stack → State → Stack
from_now d s = record d { before = s.memory; used = s.memory.fresh }

-- the stacks of that state fit
pub now-fits : (d : Stack) (s : State) → StacksFit d s → StacksFit (from_now d s) s
now-fits d s h = record { conts = h.conts; iters = h.iters; fit = λ form stamp low fits. fits }

-- and what fits from that state on fits from before
pub then-fits : (d : Stack) (s t : State) → d.used ≤ s.memory.fresh → StacksFit d s → StacksFit (from_now d s) t → StacksFit d t
then-fits d s t less h i = record {
  conts = i.conts;
  iters = i.iters;
  fit = λ form stamp low fits. i.fit form stamp (let r : stamp < d.used = low in omega arith) (h.fit form stamp low fits);
}

-- the form of a container that is there is known, where as much is known as is there
pub form_known : (d : Stack) (s : State) (l : ℕ) (form : Form) → length d.conts ≡ length s.memory.conts → StacksFit d s
    → slice_get (forms_of s.memory) l ≡ Some form → slice_get d.conts l ≡ Some form
form_known d s l form high h e = by_known (get_some d.conts l (low (get_within (forms_of s.memory) l form e) (length-forms s.memory)))
  where
    low : l < length (forms_of s.memory) → length (forms_of s.memory) ≡ length s.memory.conts → l < length d.conts
    low p q = omega arith

    by_known : (x : Form) × (slice_get d.conts l ≡ Some x) → slice_get d.conts l ≡ Some form
    by_known r = r.1 ∙ (sym (h.conts l r.0 r.1) ∙ e)

-- as many iterators are known at a level as there are
pub iters_here : (L : Level) (g : Scope) (d : Stack) (n : ℕ) (s : State) → ScopeFits L g d.conts d.iters → Now L n s
    → length d.iters ≡ length s.iters
iters_here L g d n s q h = q.iters_high ∙ sym (ap (λ (l : Level). l.iters) h.level)

-- and as many containers
pub conts_here : (L : Level) (g : Scope) (d : Stack) (n : ℕ) (s : State) → ScopeFits L g d.conts d.iters → Now L n s
    → length d.conts ≡ length s.memory.conts
conts_here L g d n s q h = q.conts_high ∙ sym (ap (λ (l : Level). l.conts) h.level)
