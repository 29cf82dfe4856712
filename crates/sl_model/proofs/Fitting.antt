-- What fits a type in a memory, and what a library gives where its operands fit: of each typed call, a value that fits its type. A stamp fits a
-- form where it stands in containers of that form alone, so a stamp that stands nowhere fits each form.
use Rattle.std.proofs.Common.{◌≡◌, ℕ, ◌<◌, true, false, List, [], ◌∷◌, ◌++◌, map, Option, Some, None}
use Rattle.std.specs.List.{slice_get}
use Rattle.sl_base.specs.declared.form.Form.{Form}
use Rattle.sl_base.specs.declared.scalar.Scalar.TheVariants as t
use Rattle.sl_syntax.specs.declared.operator.Comparison.TheVariants as c
use Rattle.sl_syntax.specs.declared.typed.callee.Callee.{Callee}
use Rattle.sl_syntax.specs.declared.typed.callee.Callee.TheVariants as callees
use Rattle.sl_syntax.specs.declared.typed.operator.Operator.TheVariants as operators
use Rattle.sl_typing.specs.declared.expr_type.ExprType.{ExprType}
use Rattle.sl_typing.specs.declared.expr_type.ExprType.TheVariants as types
use Rattle.sl_typing.specs.Types.{has_type, is_iterator}
use Rattle.sl_model.specs.Memory.Containers.{Cont, Memory, stamps, refers, cont_at}
use Rattle.sl_model.specs.LibraryCalls.Values.{Value, number, iterator, pair, two, scalar_at, container_at, element_at, Args, LibOut, trapped, thrown}
use Rattle.sl_model.specs.LibraryCalls.Values.{faulted, gives, unbuilt, Lib}
use Rattle.sl_model.specs.Runs.Good.{IsSound}
use Rattle.sl_model.specs.Typing.WellTypedScopes.{Scope, variable_type}
use Rattle.sl_model.specs.Typing.WellTypedCalls.{call_type, is_moving}
use Rattle.sl_model.specs.Typing.WellTypedStatements.{is_making}
use Rattle.sl_model.proofs.Gifts.{AllUsed}

-- the forms of the containers, in their order
abbrev pub forms_of : Memory → List Form
forms_of m = map (λ (c : Cont). c.form) m.conts

-- wherever a stamp stands, it stands in a container of a form
abbrev pub StampFits : Memory → Form → ℕ → Type 0
StampFits m form stamp = (j k : ℕ) (c : Cont) → slice_get m.conts j ≡ Some c → slice_get (stamps c) k ≡ Some stamp → c.form ≡ form

-- each container keeps its form, and these are new; what stamps fit that were used, they fit
pub record KeepsForms (more : List Form) (m later : Memory) : Type 0 where
  pub forms : forms_of later ≡ forms_of m ++ more
  pub stamps_fit : (form : Form) (stamp : ℕ) → stamp < m.fresh → StampFits m form stamp → StampFits later form stamp

-- a value is a number
abbrev pub IsNumber : Value → Type 0
IsNumber (number z) = Unit {0}
IsNumber v = ⊥

-- an iterator of a form
abbrev pub IsIteratorOf : Memory → Form → Value → Type 0
IsIteratorOf m form (iterator stamp) = StampFits m form stamp
IsIteratorOf m form v = ⊥

-- an iterator of a form, with a bool
abbrev pub IsPairOf : Memory → Form → Value → Type 0
IsPairOf m form (pair stamp b) = StampFits m form stamp
IsPairOf m form v = ⊥

-- two iterators of a form
abbrev pub AreTwoOf : Memory → Form → Value → Type 0
AreTwoOf m form (two stamp other) = StampFits m form stamp × StampFits m form other
AreTwoOf m form v = ⊥

-- a container of a form
abbrev pub IsContainerOf : Memory → Form → Value → Type 0
IsContainerOf m form (container_at j) = slice_get (forms_of m) j ≡ Some form
IsContainerOf m form v = ⊥

-- a scalar variable
abbrev pub IsScalarAt : Value → Type 0
IsScalarAt (scalar_at l) = Unit {0}
IsScalarAt v = ⊥

-- what an expression of a type gives; an element is read where it is one
abbrev pub Fits : Memory → ExprType → Value → Type 0
Fits m types.Nothing v = Unit {0}
Fits m (types.Scalar s) v = IsNumber v
Fits m (types.Element w) v = IsNumber v
Fits m (types.Iterator b form) v = IsIteratorOf m form v
Fits m (types.IteratorAndBool form) v = IsPairOf m form v
Fits m (types.IteratorPair b form) v = AreTwoOf m form v
Fits m (types.Container access form) v = IsContainerOf m form v
Fits m (types.Handed s) v = IsScalarAt v
Fits m u v = ⊥

-- what expressions of these types give
abbrev pub AllFit : Memory → List ExprType → List Value → Type 0
AllFit m [] [] = Unit {0}
AllFit m (u ∷ us) (v ∷ vs) = Fits m u v × AllFit m us vs
AllFit m us vs = ⊥

-- a number of an element that is there
abbrev pub IsElement : Memory → Value → Type 0
IsElement m (element_at j k part) = (refer : ℕ) × (slice_get (refers (cont_at m j)) k ≡ Some refer)
IsElement m v = ⊥

-- what a call of a type gives: an element is a place, which is there
abbrev pub IsGiven : Memory → ExprType → Value → Type 0
IsGiven m (types.Element w) v = IsElement m v
IsGiven m u v = Fits m u v

-- a call gives what is of its type, and new containers of these forms
pub record Answers (more : List Form) (m : Memory) (u : ExprType) (v : Value) (later : Memory) : Type 0 where
  pub kept : KeepsForms more m later
  pub given : IsGiven later u v

-- where it gives something; a call without a meaning does not
abbrev pub IsMeant : List Form → Memory → ExprType → LibOut → Type 0
IsMeant more m u (gives v later picks) = Answers more m u v later
IsMeant more m u (trapped kind a) = Unit {0}
IsMeant more m u thrown = Unit {0}
IsMeant more m u (faulted w) = Unit {0}
IsMeant more m u unbuilt = ⊥

-- the object of a call is there where it has one, and is of the type of its variable
abbrev pub ObjectFits : Memory → Scope → Option ℕ → Option ℕ → Type 0
ObjectFits m g None None = Unit {0}
ObjectFits m g (Some x) (Some j) = Fits m (variable_type g.containers x) (container_at j)
ObjectFits m g object given = ⊥

-- operands of these types in a sound memory, with stamps that were used
pub record OperandsFit (m : Memory) (us : List ExprType) (vs : List Value) : Type 0 where
  pub sound : IsSound m
  pub used : AllUsed m.fresh vs
  pub fit : AllFit m us vs

-- a library gives what is of the type of each typed call, whatever the picks
pub record FitsTypes (l : Lib) : Type 0 where
  -- a call that moves no variable
  pub calls : (g : Scope) (callee : Callee) (object : Option ℕ) (us : List ExprType) (a : Args) (m : Memory) (picks : List ℕ)
      → is_moving callee ≡ false → has_type (call_type g callee object us) ≡ true → ObjectFits m g object a.object → OperandsFit m us a.values
      → IsMeant [] m (call_type g callee object us) (l callee a m picks)
  -- what moves a variable begins with it
  pub moving : (g : Scope) (callee : Callee) (object : Option ℕ) (u : ExprType) (us : List ExprType) → is_moving callee ≡ true
      → has_type (call_type g callee object (u ∷ us)) ≡ true → is_iterator u ≡ true
  -- and gives where the variable then stands
  pub moves : (g : Scope) (callee : Callee) (object : Option ℕ) (u : ExprType) (us : List ExprType) (a : Args) (m : Memory) (picks : List ℕ)
      → is_moving callee ≡ true → has_type (call_type g callee object (u ∷ us)) ≡ true → ObjectFits m g object a.object
      → OperandsFit m (u ∷ us) a.values → IsMeant [] m u (l callee a m picks)
  -- a call that makes a container
  pub makes : (form : Form) (callee : Callee) (object : Option ℕ) (us : List ExprType) (a : Args) (m : Memory) (picks : List ℕ)
      → is_making form callee object us ≡ true → a.object ≡ None → OperandsFit m us a.values
      → IsMeant (form ∷ []) m types.Nothing (l callee a m picks)
  -- what a range-for asks by itself
  pub compares : (form : Form) (v w : Value) (a : Args) (m : Memory) (picks : List ℕ) → a.object ≡ None → a.values ≡ v ∷ w ∷ [] → IsSound m
      → AllUsed m.fresh a.values → IsIteratorOf m form v → IsIteratorOf m form w
      → IsMeant [] m (types.Scalar t.Bool) (l (callees.Hidden (operators.Compare c.NotEqual)) a m picks)
  pub reads : (form : Form) (v : Value) (a : Args) (m : Memory) (picks : List ℕ) → a.object ≡ None → a.values ≡ v ∷ [] → IsSound m
      → AllUsed m.fresh a.values → IsIteratorOf m form v → IsMeant [] m (types.Element false) (l (callees.Hidden operators.Dereference) a m picks)
  pub steps : (form : Form) (v : Value) (a : Args) (m : Memory) (picks : List ℕ) → a.object ≡ None → a.values ≡ v ∷ [] → IsSound m
      → AllUsed m.fresh a.values → IsIteratorOf m form v
      → IsMeant [] m (types.Iterator false form) (l (callees.Hidden operators.Increment) a m picks)
