-- The rule on types: an operand, an argument or a left side that doesn't fit.
--
-- Restates ISO/IEC 14882:2017, [expr] and its sections, [over.match.viable] and [conv], for the types that are here.
-- Chosen here: constness and the strength of iterators have rules of their own, and aren't looked at but where types are to be one. `++` and `--` of a
-- bool are wrong, and so is `a.assign(n, x)` where x looks as an element of a may, and what isn't a plain name where one is asked: before a call of a
-- member and `->`, in `std::advance`, and for a reference. The element of a range-for over a map stands before `.first` and `.second` alone, and so does
-- a call of `equal_range`.
use Rattle.std.specs.Prelude.{ℕ, Bool, true, false, not, ◌&&◌, ◌||◌, List, ◌∷◌, Option, Some, None, is_none, codes}
use Rattle.std.specs.List.{list_any}
use Rattle.std.specs.Str.{bytes_eq}
use Rattle.sl_base.specs.declared.form.Form.{Form}
use Rattle.sl_base.specs.declared.scalar.Scalar.{Scalar}
use Rattle.sl_base.specs.declared.scalar.Scalar.TheVariants as t
use Rattle.sl_syntax.specs.declared.operator.Arithmetic.{Arithmetic}
use Rattle.sl_syntax.specs.declared.operator.Arithmetic.TheVariants as o
use Rattle.sl_syntax.specs.declared.operator.Assignment.{Assignment}
use Rattle.sl_syntax.specs.declared.operator.Assignment.TheVariants as a
use Rattle.sl_syntax.specs.declared.operator.BinaryOperator.{BinaryOperator}
use Rattle.sl_syntax.specs.declared.operator.BinaryOperator.TheVariants as b
use Rattle.sl_syntax.specs.declared.operator.PrefixOperator.{PrefixOperator}
use Rattle.sl_syntax.specs.declared.operator.PrefixOperator.TheVariants as p
use Rattle.sl_syntax.specs.declared.operator.Selector.{Selector}
use Rattle.sl_syntax.specs.declared.operator.Selector.TheVariants as l
use Rattle.sl_syntax.specs.declared.typed.parameter.ParameterKind.{ParameterKind}
use Rattle.sl_syntax.specs.declared.typed.parameter.ParameterKind.TheVariants as parameters
use Rattle.sl_syntax.specs.Tree as s
use Rattle.sl_syntax.specs.Tree.{Expr, Exprs}
use Rattle.sl_typing.specs.declared.expr_type.ExprType.{ExprType}
use Rattle.sl_typing.specs.declared.expr_type.ExprType.TheVariants as types
use Rattle.sl_typing.specs.declared.scope.FunctionHead.{FunctionHead}
use Rattle.sl_typing.specs.declared.scope.Scope.{Scope}
use Rattle.sl_typing.specs.declared.standing.Standing.{Standing}
use Rattle.sl_typing.specs.declared.standing.Standing.TheVariants as standing
use Rattle.sl_typing.specs.Types.{same_scalar, is_scalar, is_number, is_element, is_iterator, is_iterator_of, is_int_iterator, is_map_iterator}
use Rattle.sl_typing.specs.Types.{same_iterators, same_iterator_forms, goes_into, is_container, is_container_of, same_containers}
use Rattle.sl_typing.specs.Candidates.{member_row, algorithm_row}
use Rattle.sl_typing.specs.Scopes.{type_of_name, function_named, is_among}
use Rattle.sl_typing.specs.TypeOf.{appends, is_part_name, type_of, types_of}
use Rattle.sl_typing.specs.Looks.{is_plain, bare_name, is_left_side}

-- it stands directly before `.first` or `.second`
abbrev pub is_before_part : Standing → Bool
is_before_part standing.Pair = true
is_before_part how = false

-- the element of a range-for over a map
abbrev pub is_entry : ExprType → Bool
is_entry (types.EntryReference w) = true
is_entry u = false

-- a pair of iterators
abbrev pub is_iterator_pair : ExprType → Bool
is_iterator_pair (types.IteratorPair b form) = true
is_iterator_pair u = false

-- `++` and `--` take a number that isn't a bool, or an iterator
abbrev pub can_step : ExprType → Bool
can_step u = (is_number u && not (is_scalar t.Bool u)) || is_iterator u

-- `++` and `--` stand at what they can't step
abbrev pub wrong_step : Scope → Expr → Bool
wrong_step g x = not (is_left_side g x && can_step (type_of g x))

-- an operator before its operand
abbrev pub wrong_prefix : Scope → PrefixOperator → Expr → Bool
wrong_prefix g p.Not x = not (is_number (type_of g x))
wrong_prefix g p.Negate x = not (is_number (type_of g x))
wrong_prefix g p.Dereference x = not (is_int_iterator (type_of g x))
wrong_prefix g p.Increment x = wrong_step g x
wrong_prefix g p.Decrement x = wrong_step g x

-- two numbers
abbrev pub both_numbers : ExprType → ExprType → Bool
both_numbers u v = is_number u && is_number v

-- an iterator and a number, for `+` and `-`, or two iterators of one form, for `-`
abbrev pub fits_iterator_operator : Arithmetic → ExprType → ExprType → Bool
fits_iterator_operator o.Add u v = is_iterator u && is_number v
fits_iterator_operator o.Subtract u v = (is_iterator u && is_number v) || same_iterator_forms u v
fits_iterator_operator op u v = false

-- an operator between two operands
abbrev pub fits_binary : BinaryOperator → ExprType → ExprType → Bool
fits_binary b.Or u v = both_numbers u v
fits_binary b.And u v = both_numbers u v
fits_binary (b.Comparison c) u v = both_numbers u v || same_iterators u v
fits_binary (b.Arithmetic op) u v = both_numbers u v || fits_iterator_operator op u v

-- a reference to an int
abbrev pub is_int_reference : ExprType → Bool
is_int_reference (types.IntReference w) = true
is_int_reference u = false

-- By its look, an expression may be an element of the container of this name and form: `*` of an iterator of that form, a reference to an int, or
-- `[ ]`, `at`, `front` or `back` of the container itself; also in parentheses, and behind `++` or `--`.
unfoldable pub may_be_element : Scope → List (List ℕ) → Form → Expr → Bool
may_be_element g names form (s.name x) = is_int_reference (type_of_name g x.name)
may_be_element g names form (s.parentheses at x) = may_be_element g names form x
may_be_element g names form (s.prefix p.Increment at x) = may_be_element g names form x
may_be_element g names form (s.prefix p.Decrement at x) = may_be_element g names form x
may_be_element g names form (s.prefix p.Dereference at x) = is_iterator_of form (type_of g x)
may_be_element g names form (s.index x at y) = list_any (λ n. is_among n names) (bare_name x)
may_be_element g names form (s.member_call x f xs) = is_element (type_of g (s.member_call x f xs)) && list_any (λ n. is_among n names) (bare_name x)
may_be_element g names form e = false

-- the second of these may be
abbrev pub second_may_be_element : Scope → List (List ℕ) → Form → Exprs → Bool
second_may_be_element g names form (s.with n (s.with x rest)) = may_be_element g names form x
second_may_be_element g names form xs = false

-- a member call: its object is a plain name of a container, its arguments fit, and `assign` isn't given an element of the object
abbrev pub fits_member : Scope → ExprType → Expr → List ℕ → Exprs → Bool
fits_member g (types.Container access form) x name xs =
    is_plain x && not (is_none (member_row form name (types_of g xs)))
    && not (bytes_eq name (codes "assign") && second_may_be_element g (bare_name x) form xs)
fits_member g u x name xs = false

-- the first of these is a plain name
abbrev pub first_is_plain : Exprs → Bool
first_is_plain s.none = false
first_is_plain (s.with x xs) = is_plain x

-- an algorithm's arguments fit, and `advance` moves a plain name
abbrev pub fits_algorithm : Scope → List ℕ → Exprs → Bool
fits_algorithm g name xs =
    not (is_none (algorithm_row (appends name xs) name (types_of g xs))) && not (bytes_eq name (codes "advance") && not (first_is_plain xs))

-- a scalar variable of this type
abbrev pub is_exactly : Scalar → ExprType → Bool
is_exactly s (types.Scalar r) = same_scalar s r
is_exactly s u = false

-- an argument fits a parameter: what is bound to a reference is a plain name of its own type
abbrev pub fits_parameter : Scope → ParameterKind → Expr → Bool
fits_parameter g (parameters.Value s) e = is_number (type_of g e)
fits_parameter g (parameters.Reference s) e = is_plain e && is_exactly s (type_of g e)
fits_parameter g (parameters.Container access form) e = is_plain e && is_container_of form (type_of g e)
fits_parameter g (parameters.Iterator b form) e = goes_into b form (type_of g e)

-- each argument fits its parameter
abbrev pub fit_parameters : Scope → List ParameterKind → Exprs → Bool
fit_parameters g (k ∷ ks) (s.with e es) = fits_parameter g k e && fit_parameters g ks es
fit_parameters g ks es = true

-- the arguments of a call of the program's own fit, if it is known
abbrev pub fits_call : Scope → Option FunctionHead → Exprs → Bool
fits_call g None xs = true
fits_call g (Some h) xs = fit_parameters g h.parameters xs

-- a member call, by its look
abbrev pub is_member_call : Expr → Bool
is_member_call (s.member_call x f xs) = true
is_member_call e = false

-- what `.first` and `.second` stand on: a call that gives a pair, or the element of a range-for over a map
abbrev pub has_parts : Expr → ExprType → Bool
has_parts x (types.IteratorAndBool form) = is_member_call x
has_parts x (types.IteratorPair b form) = is_member_call x
has_parts x (types.EntryReference w) = is_plain x
has_parts x u = false

-- a piece `.x` or `->x`, of an expression of this type; `->` stands on the plain name of an iterator
abbrev pub fits_selector : Selector → Expr → ExprType → List ℕ → Bool
fits_selector l.Dot x u name = is_part_name name && has_parts x u
fits_selector l.Arrow x u name = is_part_name name && is_plain x && is_map_iterator u

-- the rule at a node of an expression that stands so
unfoldable pub wrong_type : Scope → Standing → Expr → Bool
wrong_type g how (s.name x) = is_entry (type_of_name g x.name) && not (is_before_part how)
wrong_type g how (s.call f xs) = not (fits_call g (function_named g f.name) xs)
wrong_type g how (s.library_call f xs) = not (fits_algorithm g f.name xs)
wrong_type g how (s.prefix op at x) = wrong_prefix g op x
wrong_type g how (s.binary x op at y) = not (fits_binary op (type_of g x) (type_of g y))
wrong_type g how (s.postfix x op at) = wrong_step g x
wrong_type g how (s.index x at y) = not (is_container (type_of g x) && is_number (type_of g y))
wrong_type g how (s.member_call x f xs) =
    not (fits_member g (type_of g x) x f.name xs) || (is_iterator_pair (type_of g (s.member_call x f xs)) && not (is_before_part how))
wrong_type g how (s.member x selector at f) = not (fits_selector selector x (type_of g x) f.name)
wrong_type g how e = false

-- `+` and `-`
abbrev pub is_sum : Arithmetic → Bool
is_sum o.Add = true
is_sum o.Subtract = true
is_sum op = false

-- what a left side of a type takes by `=`, and by `+=` and its like
abbrev pub takes_value : Assignment → ExprType → ExprType → Bool
takes_value a.Set u v = both_numbers u v || same_iterators u v || same_containers u v
takes_value (a.Update op) u v = both_numbers u v || (is_iterator u && is_number v && is_sum op)

-- the rule at an assignment
unfoldable pub wrong_assignment : Scope → Expr → Assignment → Expr → Bool
wrong_assignment g x op y = not (is_left_side g x && takes_value op (type_of g x) (type_of g y))
