-- The fact rule `call` of a call of a function of the text: it needs the facts of the function's entry, drops those on what the
-- function may change, and gives those of its exit, on the variables that are bound to its parameters by reference.
--
-- Restates ISO/IEC 14882:2017, [expr.call] and [dcl.init.ref] (a parameter by reference is the variable itself).
-- Chosen here: a variable, or a fresh one, that is handed by value to a parameter of its own type brings its facts; an iterator that
-- is handed to a const_iterator brings none. An iterator that is no const_iterator lets the call write elements of each container of
-- its form. A container that is handed for elements alone counts as not handed over.
use Rattle.std.specs.Prelude.{ℕ, ◌+◌, ◌==◌, Bool, true, false, not, ◌&&◌, ◌||◌, List, [], ◌∷◌, filter_map, slice_get}
use Rattle.std.specs.Prelude.{Option, Some, None, option_map, if◌then◌else◌}
use Rattle.sl_base.specs.declared.form.Form.{Form}
use Rattle.sl_specs.specs.Forms.{same_form}
use Rattle.sl_syntax.specs.declared.operator.Access.{Access}
use Rattle.sl_syntax.specs.declared.operator.Access.TheVariants as access
use Rattle.sl_syntax.specs.declared.typed.parameter.ParameterKind.{ParameterKind}
use Rattle.sl_syntax.specs.declared.typed.parameter.ParameterKind.TheVariants as parameter
use Rattle.sl_syntax.specs.Typed.{Expr, iterator, move, call, own_call, first, second, container, handed_scalar, Operands, none, with, Typed}
use Rattle.sl_model.specs.Outlines.Facts.{Fact, Facts, inside, before, behind, size_at_least, spare_at_least, sorted, lower_bound, upper_bound, up_to_size}
use Rattle.sl_model.specs.Outlines.Facts.{below_size, alive, given_by, is_on_container}
use Rattle.sl_model.specs.Outlines.FactOperands.{FactScope, IteratorSort, const_iterator, ContainerSort, scalar_of}
use Rattle.sl_model.specs.Outlines.FactOperands.{iterator_of, form_at}

-- an iterator variable of this sort is a const_iterator
abbrev pub is_const_sort : Option IteratorSort → Bool
is_const_sort (Some const_iterator) = true
is_const_sort k = false

-- a container of this sort may not be changed
abbrev pub is_const_container : Option ContainerSort → Bool
is_const_container None = false
is_const_container (Some k) = k.is_const

-- a result is a const_iterator
abbrev pub is_const_result : Option ParameterKind → Bool
is_const_result (Some (parameter.Iterator is_const form)) = is_const
is_const_result k = false

-- the function with a number gives a const_iterator
abbrev pub gives_const : Typed → ℕ → Bool
gives_const p f = elim (slice_get p.functions f) [ None ↦ false | Some h ↦ is_const_result h.result ]

abbrev mutual
  -- an operand is a const_iterator
  pub is_const_value : FactScope → Expr → Bool
  is_const_value s (iterator x) = is_const_sort (slice_get s.iterators x)
  is_const_value s (move fix x h ops) = is_const_sort (slice_get s.iterators x)
  is_const_value s (call h ops) = elim h.object [ Some x ↦ is_const_container (slice_get s.containers x) | None ↦ first_is_const s ops ]
  is_const_value s (own_call f at ops) = gives_const s.text f
  is_const_value s (first at a) = is_const_value s a
  is_const_value s (second at a) = is_const_value s a
  is_const_value s e = false

  -- the first operand is one
  pub first_is_const : FactScope → Operands → Bool
  first_is_const s none = false
  first_is_const s (with a rest) = is_const_value s a

-- What the parameters of each sort stand for in the caller: a variable, a fresh one, or nothing that has facts. With `back` for those by
-- reference alone.
pub record Bindings : Type 0 where
  pub scalars : List (Option ℕ)
  pub containers : List (Option ℕ)
  pub iterators : List (Option ℕ)
  pub scalars_back : List (Option ℕ)

-- no parameters
abbrev pub no_bindings : Bindings
no_bindings = record { scalars = []; containers = []; iterators = []; scalars_back = [] }

-- the container that an operand is
abbrev pub handed_container : Expr → Option ℕ
handed_container (container x) = Some x
handed_container e = None

-- the scalar variable that is handed by reference
abbrev pub handed_variable : Expr → Option ℕ
handed_variable (handed_scalar x) = Some x
handed_variable e = None

-- the iterator that brings its facts to a parameter: a const_iterator gets none of one that writes
abbrev pub brought_iterator : FactScope → ℕ → Bool → Expr → Option ℕ
brought_iterator s t is_const e = if is_const && not (is_const_value s e) then None else Some (iterator_of s t e)

-- one parameter more, in front of others, with its operand, which is read as the t-th
abbrev pub bound_to : FactScope → ℕ → ParameterKind → Expr → Bindings → Bindings
bound_to s t (parameter.Value ty) e b = record b { scalars = scalar_of s t e ∷ b.scalars; scalars_back = None ∷ b.scalars_back }
bound_to s t (parameter.Reference ty) e b =
    record b { scalars = handed_variable e ∷ b.scalars; scalars_back = handed_variable e ∷ b.scalars_back }
bound_to s t (parameter.Container a form) e b = record b { containers = handed_container e ∷ b.containers }
bound_to s t (parameter.Iterator is_const form) e b = record b { iterators = brought_iterator s t is_const e ∷ b.iterators }

-- what parameters stand for, with their operands, of which the first is read as the t-th
abbrev pub bindings : FactScope → ℕ → List ParameterKind → Operands → Bindings
bindings s t (k ∷ ks) (with a rest) = bound_to s t k a (bindings s (t + 1) ks rest)
bindings s t ks ops = no_bindings

-- the variable that a parameter stands for
abbrev pub stands_for : List (Option ℕ) → ℕ → Option ℕ
stands_for vs n = elim (slice_get vs n) [ None ↦ None | Some v ↦ v ]

-- a fact on two variables, where both stand for something
abbrev pub fact_on : (ℕ → ℕ → Fact) → Option ℕ → Option ℕ → Option Fact
fact_on fact (Some x) (Some y) = Some (fact x y)
fact_on fact x y = None

-- a fact on parameters as one on what they stand for: scalars, containers and iterators
abbrev pub renamed : List (Option ℕ) → List (Option ℕ) → List (Option ℕ) → Fact → Option Fact
renamed xs cs is (inside i c) = fact_on inside (stands_for is i) (stands_for cs c)
renamed xs cs is (before i c) = fact_on before (stands_for is i) (stands_for cs c)
renamed xs cs is (behind i c) = fact_on behind (stands_for is i) (stands_for cs c)
renamed xs cs is (size_at_least c k) = option_map (λ d. size_at_least d k) (stands_for cs c)
renamed xs cs is (spare_at_least c k) = option_map (λ d. spare_at_least d k) (stands_for cs c)
renamed xs cs is (sorted c) = option_map sorted (stands_for cs c)
renamed xs cs is (lower_bound x k) = option_map (λ y. lower_bound y k) (stands_for xs x)
renamed xs cs is (upper_bound x k) = option_map (λ y. upper_bound y k) (stands_for xs x)
renamed xs cs is (up_to_size x c) = fact_on up_to_size (stands_for xs x) (stands_for cs c)
renamed xs cs is (below_size x c) = fact_on below_size (stands_for xs x) (stands_for cs c)
renamed xs cs is (alive r c) = None

-- a fact of an entry is given where the function is called
abbrev pub is_given_at : Bindings → Facts → Fact → Bool
is_given_at b F f = elim (renamed b.scalars b.containers b.iterators f) [ None ↦ false | Some g ↦ F g ]

-- each fact of an entry's list is given
abbrev pub enters_with : Bindings → Facts → List Fact → Bool
enters_with b F [] = true
enters_with b F (f ∷ l) = is_given_at b F f && enters_with b F l

-- the facts of an exit's list on what is bound by reference
abbrev pub brought_back : Bindings → List Fact → List Fact
brought_back b l = filter_map (renamed b.scalars_back b.containers []) l

-- a call may change this container as a whole
abbrev pub changes_whole : Access → Bool
changes_whole access.Whole = true
changes_whole a = false

-- the fact is on this scalar
abbrev pub is_on_scalar : ℕ → Fact → Bool
is_on_scalar x (lower_bound y k) = y == x
is_on_scalar x (upper_bound y k) = y == x
is_on_scalar x (up_to_size y d) = y == x
is_on_scalar x (below_size y d) = y == x
is_on_scalar x f = false

-- the fact says that the elements of a container of this form ascend
abbrev pub is_order_of : FactScope → Form → Fact → Bool
is_order_of s form (sorted d) = elim (form_at s d) [ None ↦ false | Some g ↦ same_form g form ]
is_order_of s form f = false

-- what a call drops by one parameter and its operand
abbrev pub drops_by : FactScope → ParameterKind → Expr → Fact → Bool
drops_by s (parameter.Value ty) e f = false
drops_by s (parameter.Reference ty) e f = elim (handed_variable e) [ None ↦ false | Some x ↦ is_on_scalar x f ]
drops_by s (parameter.Container a form) e f =
    elim (handed_container e) [ None ↦ false | Some x ↦ changes_whole a && is_on_container x f ]
drops_by s (parameter.Iterator is_const form) e f = not is_const && is_order_of s form f

-- what it drops by all of them
abbrev pub drops_by_all : FactScope → List ParameterKind → Operands → Fact → Bool
drops_by_all s (k ∷ ks) (with a rest) f = drops_by s k a f || drops_by_all s ks rest f
drops_by_all s ks ops f = false

-- what is given behind a call: what it doesn't drop, and the facts of its exit
abbrev pub given_behind : FactScope → List ParameterKind → Operands → List Fact → Facts → Facts
given_behind s ks ops exit F f = (not (drops_by_all s ks ops f) && F f) || given_by exit f
