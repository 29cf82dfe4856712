-- What is in scope for facts, and which facts are of variables in scope and of the sorts that they need.
--
-- Restates ISO/IEC 14882:2017, [basic.scope.declarative], [basic.scope.block], [stmt.for] and [stmt.ranged] (the end of a block, of a
-- `for` and of a function ends what is declared there).
-- Chosen here: facts on what ends are dropped. `spare` is of a vector. The exit of a function speaks of its parameters by reference.
use Rattle.std.specs.Prelude.{ℕ, ◌+◌, nat_lt, Bool, true, false, not, ◌&&◌, List, [], ◌∷◌, ◌++◌, length, slice_get, ℤ, int_le, Option, Some, None}
use Rattle.std.specs.Prelude.{if◌then◌else◌}
use Rattle.std.specs.List.{list_any}
use Rattle.sl_base.specs.declared.form.Form.{Form}
use Rattle.sl_base.specs.declared.form.Form.TheVariants as f
use Rattle.sl_syntax.specs.declared.typed.element.Taken.{Taken}
use Rattle.sl_syntax.specs.declared.typed.element.Taken.TheVariants as taken
use Rattle.sl_syntax.specs.declared.typed.parameter.ParameterKind.{ParameterKind}
use Rattle.sl_syntax.specs.declared.typed.parameter.ParameterKind.TheVariants as parameter
use Rattle.sl_syntax.specs.Typed.{Declaration, unset_scalar, set_scalar, set_iterator, binds_reference, makes, First, no_first, declares_first}
use Rattle.sl_syntax.specs.Typed.{does_first, Stmt, declares, Typed}
use Rattle.sl_model.specs.Outlines.Facts.{Fact, Facts, inside, before, behind, size_at_least, spare_at_least, sorted, lower_bound, upper_bound, up_to_size}
use Rattle.sl_model.specs.Outlines.Facts.{below_size, alive}
use Rattle.sl_model.specs.Outlines.FactOperands.{FactScope, IteratorSort, writing_iterator, const_iterator, element_reference, form_at}
use Rattle.sl_model.specs.Outlines.FactOperands.{container_count, is_const_access}
use Rattle.sl_model.specs.Outlines.FactsOfFunctions.{is_const_value, is_const_container}

-- nothing is in scope
abbrev pub no_scope : Typed → FactScope
no_scope p = record { text = p; scalars = 0; containers = []; iterators = [] }

-- one scalar more
abbrev pub scalar_more : FactScope → FactScope
scalar_more s = record s { scalars = s.scalars + 1 }

-- one container more
abbrev pub container_more : Form → Bool → FactScope → FactScope
container_more form is_const s = record s { containers = s.containers ++ (record { form = form; is_const = is_const } ∷ []) }

-- one iterator more, or one reference
abbrev pub iterator_more : IteratorSort → FactScope → FactScope
iterator_more k s = record s { iterators = s.iterators ++ (k ∷ []) }

-- the sort of an iterator that is one of a const container, or isn't
abbrev pub sort_by : Bool → IteratorSort
sort_by is_const = if is_const then const_iterator else writing_iterator

-- what is in scope after a declaration
abbrev pub after_declaration : Declaration → FactScope → FactScope
after_declaration (unset_scalar ty) s = scalar_more s
after_declaration (set_scalar ty a) s = scalar_more s
after_declaration (set_iterator a) s = iterator_more (sort_by (is_const_value s a)) s
after_declaration (binds_reference h ops) s = iterator_more element_reference s
after_declaration (makes form h ops) s = container_more form false s

-- what is in scope after the first part of a `for`
abbrev pub after_first : First → FactScope → FactScope
after_first no_first s = s
after_first (declares_first d) s = after_declaration d s
after_first (does_first e) s = s

-- what is in scope after a statement
abbrev pub after_stmt : Stmt → FactScope → FactScope
after_stmt (declares d) s = after_declaration d s
after_stmt a s = s

-- the element of a range-for comes into scope
abbrev pub after_taken : Taken → FactScope → FactScope
after_taken taken.Value s = scalar_more s
after_taken taken.Reference s = iterator_more element_reference s

-- what is in scope in the body of a range-for over x: two hidden iterators, and then the element
abbrev pub in_range_for : Taken → ℕ → FactScope → FactScope
in_range_for k x s =
    let hidden = sort_by (is_const_container (slice_get s.containers x)) in
    after_taken k (iterator_more hidden (iterator_more hidden s))

-- what is in scope after a parameter
abbrev pub after_parameter : ParameterKind → FactScope → FactScope
after_parameter (parameter.Value ty) s = scalar_more s
after_parameter (parameter.Reference ty) s = scalar_more s
after_parameter (parameter.Container a form) s = container_more form (is_const_access a) s
after_parameter (parameter.Iterator is_const form) s = iterator_more (sort_by is_const) s

-- what is in scope after parameters
abbrev pub after_parameters : List ParameterKind → FactScope → FactScope
after_parameters [] s = s
after_parameters (k ∷ ks) s = after_parameters ks (after_parameter k s)

-- a container is in scope
abbrev pub has_container : FactScope → ℕ → Bool
has_container s c = nat_lt c (container_count s)

-- a scalar is in scope
abbrev pub has_scalar : FactScope → ℕ → Bool
has_scalar s x = nat_lt x s.scalars

-- an iterator, or a reference, is in scope
abbrev pub has_iterator : FactScope → ℕ → Bool
has_iterator s i = nat_lt i (length s.iterators)

-- the variables of a fact are in scope
abbrev pub is_in_scope : FactScope → Fact → Bool
is_in_scope s (inside i c) = has_iterator s i && has_container s c
is_in_scope s (before i c) = has_iterator s i && has_container s c
is_in_scope s (behind i c) = has_iterator s i && has_container s c
is_in_scope s (size_at_least c k) = has_container s c
is_in_scope s (spare_at_least c k) = has_container s c
is_in_scope s (sorted c) = has_container s c
is_in_scope s (lower_bound x k) = has_scalar s x
is_in_scope s (upper_bound x k) = has_scalar s x
is_in_scope s (up_to_size x c) = has_scalar s x && has_container s c
is_in_scope s (below_size x c) = has_scalar s x && has_container s c
is_in_scope s (alive r c) = has_iterator s r && has_container s c

-- the facts on what is in scope stay: what a scope ends, and fresh variables, are dropped
abbrev pub within : FactScope → Facts → Facts
within s F f = is_in_scope s f && F f

-- it is a reference
abbrev pub is_reference : Option IteratorSort → Bool
is_reference (Some element_reference) = true
is_reference k = false

-- the container is a vector
abbrev pub is_vector : Option Form → Bool
is_vector (Some f.Vector) = true
is_vector form = false

-- a number is one of the constants
abbrev pub is_constant : List ℤ → ℤ → Bool
is_constant constants k = list_any (λ m. int_le m k && int_le k m) constants

-- The sorts of a fact's variables are those that it needs, and its number is a constant of the text.
abbrev pub has_right_sorts : FactScope → Fact → Bool
has_right_sorts s (inside i c) = not (is_reference (slice_get s.iterators i))
has_right_sorts s (before i c) = not (is_reference (slice_get s.iterators i))
has_right_sorts s (behind i c) = not (is_reference (slice_get s.iterators i))
has_right_sorts s (size_at_least c k) = is_constant s.text.constants k
has_right_sorts s (spare_at_least c k) = is_vector (form_at s c) && is_constant s.text.constants k
has_right_sorts s (sorted c) = true
has_right_sorts s (lower_bound x k) = is_constant s.text.constants k
has_right_sorts s (upper_bound x k) = is_constant s.text.constants k
has_right_sorts s (up_to_size x c) = true
has_right_sorts s (below_size x c) = true
has_right_sorts s (alive r c) = is_reference (slice_get s.iterators r)

-- a list speaks of variables in scope, of the sorts that its facts need, and of constants
abbrev pub speaks : FactScope → List Fact → Bool
speaks s [] = true
speaks s (f ∷ l) = is_in_scope s f && has_right_sorts s f && speaks s l

-- a parameter that is a scalar is one by reference
abbrev pub scalars_by_reference : List ParameterKind → List Bool
scalars_by_reference [] = []
scalars_by_reference (parameter.Value ty ∷ ks) = false ∷ scalars_by_reference ks
scalars_by_reference (parameter.Reference ty ∷ ks) = true ∷ scalars_by_reference ks
scalars_by_reference (parameter.Container a form ∷ ks) = scalars_by_reference ks
scalars_by_reference (parameter.Iterator is_const form ∷ ks) = scalars_by_reference ks

-- the scalar with this number is a parameter by reference
abbrev pub is_by_reference : List ParameterKind → ℕ → Bool
is_by_reference ks x = elim (slice_get (scalars_by_reference ks) x) [ None ↦ false | Some b ↦ b ]

-- the fact speaks of parameters by reference alone: containers are handed so, iterators aren't
abbrev pub is_of_references : List ParameterKind → Fact → Bool
is_of_references ks (inside i c) = false
is_of_references ks (before i c) = false
is_of_references ks (behind i c) = false
is_of_references ks (alive r c) = false
is_of_references ks (lower_bound x k) = is_by_reference ks x
is_of_references ks (upper_bound x k) = is_by_reference ks x
is_of_references ks (up_to_size x c) = is_by_reference ks x
is_of_references ks (below_size x c) = is_by_reference ks x
is_of_references ks f = true

-- each fact of a list does
abbrev pub all_of_references : List ParameterKind → List Fact → Bool
all_of_references ks [] = true
all_of_references ks (f ∷ l) = is_of_references ks f && all_of_references ks l
