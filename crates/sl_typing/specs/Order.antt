-- The rule on the order of effects: two parts of an expression whose order the standard leaves open, and could matter.
--
-- Restates ISO/IEC 14882:2017, [intro.execution] (operands and arguments are unsequenced, or indeterminately sequenced). The object of a member
-- call, and what `[ ]` stands on, are evaluated first ([expr.call], [expr.sub]), and the elements of a list in braces in their order
-- ([dcl.init.list]); `||` and `&&` evaluate their left operand first ([expr.log.or], [expr.log.and]).
-- Chosen here: the rule itself, which is wider than what the standard calls undefined. A change is `++`, `--`, a member call or `[ ]` that changes its
-- container, a call of the program's own, `std::advance`, or an algorithm that appends; an element write is another algorithm that writes.
use Rattle.std.specs.Prelude.{ℕ, Bool, true, false, not, ◌&&◌, ◌||◌, List, [], ◌∷◌, ◌++◌, Option, Some, None, codes, if◌then◌else◌}
use Rattle.std.specs.List.{list_any}
use Rattle.std.specs.Str.{bytes_eq}
use Rattle.sl_specs.specs.declared.letter.Letter.{Letter}
use Rattle.sl_specs.specs.declared.letter.Letter.TheVariants as l
use Rattle.sl_syntax.specs.declared.operator.Access.TheVariants as a
use Rattle.sl_syntax.specs.declared.operator.BinaryOperator.{BinaryOperator}
use Rattle.sl_syntax.specs.declared.operator.BinaryOperator.TheVariants as b
use Rattle.sl_syntax.specs.declared.operator.PrefixOperator.{PrefixOperator}
use Rattle.sl_syntax.specs.declared.operator.PrefixOperator.TheVariants as p
use Rattle.sl_syntax.specs.declared.typed.parameter.ParameterKind.{ParameterKind}
use Rattle.sl_syntax.specs.declared.typed.parameter.ParameterKind.TheVariants as parameters
use Rattle.sl_syntax.specs.Tree as s
use Rattle.sl_syntax.specs.Tree.{Expr, Exprs}
use Rattle.sl_typing.specs.declared.expr_type.ExprType.{ExprType}
use Rattle.sl_typing.specs.declared.expr_type.ExprType.TheVariants as types
use Rattle.sl_typing.specs.declared.scope.FunctionHead.{FunctionHead}
use Rattle.sl_typing.specs.declared.scope.Scope.{Scope}
use Rattle.sl_typing.specs.Types.{is_number, is_container}
use Rattle.sl_typing.specs.Candidates.{has_row, is_candidate, form_subscript_changes, form_member_changes}
use Rattle.sl_typing.specs.Scopes.{type_of_name, function_named, is_among}
use Rattle.sl_typing.specs.TypeOf.{size, appends, type_of}
use Rattle.sl_typing.specs.Looks.{bare_name}
use Rattle.sl_typing.specs.WrongType.{is_int_reference}

-- what a part does: whether it holds a change, the variables that it changes, and whether it holds an element write
pub record Deeds : Type 0 where
  pub changes : Bool
  pub changed : List (List ℕ)
  pub writes : Bool

-- no change and no write
abbrev pub nothing_done : Deeds
nothing_done = record { changes = false; changed = []; writes = false }

-- a change of these variables
abbrev pub changing : List (List ℕ) → Deeds
changing names = record { changes = true; changed = names; writes = false }

-- a write of elements alone
abbrev pub writing : Deeds
writing = record { changes = false; changed = []; writes = true }

-- what two parts do
abbrev pub both : Deeds → Deeds → Deeds
both x y = record { changes = x.changes || y.changes; changed = x.changed ++ y.changed; writes = x.writes || y.writes }

-- the variable that `++` or `--` changes, or whose element it changes; `*it` names none
abbrev pub moved_names : Expr → List (List ℕ)
moved_names (s.index x at y) = bare_name x
moved_names (s.member_call x f xs) = bare_name x
moved_names e = bare_name e

-- the containers among arguments
abbrev pub container_names : Scope → Exprs → List (List ℕ)
container_names g s.none = []
container_names g (s.with x xs) = (if is_container (type_of g x) then bare_name x else []) ++ container_names g xs

-- a parameter of this kind is a reference that isn't const
abbrev pub changes_argument : ParameterKind → Bool
changes_argument (parameters.Reference s) = true
changes_argument (parameters.Container a.Whole form) = true
changes_argument k = false

-- the variables that are bound to references which aren't const
abbrev pub handed_names : List ParameterKind → Exprs → List (List ℕ)
handed_names (k ∷ ks) (s.with y ys) = (if changes_argument k then bare_name y else []) ++ handed_names ks ys
handed_names ks ys = []

-- the parameters of a function, if it is known
abbrev pub parameters_of : Option FunctionHead → List ParameterKind
parameters_of None = []
parameters_of (Some h) = h.parameters

-- the arguments of the call that stands last
abbrev pub last_arguments : Exprs → Exprs
last_arguments s.none = s.none
last_arguments (s.with (s.library_call f xs) s.none) = xs
last_arguments (s.with x xs) = last_arguments xs

-- the name of the first argument
abbrev pub first_name : Exprs → List (List ℕ)
first_name s.none = []
first_name (s.with x xs) = bare_name x

-- arguments of this letter are written through
abbrev pub is_written_letter : Letter → Bool
is_written_letter l.WrittenRange = true
is_written_letter l.RandomAccessRange = true
is_written_letter l.Output = true
is_written_letter letter = false

-- an algorithm of a name and number of arguments writes elements
abbrev pub writes_elements : List ℕ → ℕ → Bool
writes_elements name n = has_row (λ r. is_candidate None name n r && list_any is_written_letter r.letters)

-- what an algorithm does by itself: `advance` changes its variable, one that appends changes the container, another one that writes writes elements
abbrev pub algorithm_deeds : List ℕ → Exprs → Deeds
algorithm_deeds name xs =
    if bytes_eq name (codes "advance") then changing (first_name xs)
    else if appends name xs then changing (first_name (last_arguments xs))
    else if writes_elements name (size xs) then writing
    else nothing_done

-- `++` and `--`
abbrev pub prefix_deeds : PrefixOperator → Expr → Deeds
prefix_deeds p.Increment x = changing (moved_names x)
prefix_deeds p.Decrement x = changing (moved_names x)
prefix_deeds op x = nothing_done

-- `[ ]` of a form puts in a key that isn't there
abbrev pub subscript_changes : ExprType → Bool
subscript_changes (types.Container access form) = form_subscript_changes form
subscript_changes u = false

-- what `[ ]` does by itself
abbrev pub subscript_deeds : Scope → Expr → Deeds
subscript_deeds g x = if subscript_changes (type_of g x) then changing (bare_name x) else nothing_done

-- a member call of a name and so many arguments changes its object
abbrev pub member_changes : ExprType → List ℕ → ℕ → Bool
member_changes (types.Container access form) name n = form_member_changes form name n
member_changes u name n = false

-- a member call that changes its object changes the containers that it is given too
abbrev pub member_deeds : Scope → Expr → List ℕ → Exprs → Deeds
member_deeds g x name xs = if member_changes (type_of g x) name (size xs) then changing (bare_name x ++ container_names g xs) else nothing_done

unfoldable mutual
  -- what an expression does
  pub deeds : Scope → Expr → Deeds
  deeds g (s.call f xs) = both (changing (handed_names (parameters_of (function_named g f.name)) xs)) (deeds_of_all g xs)
  deeds g (s.library_call f xs) = both (algorithm_deeds f.name xs) (deeds_of_all g xs)
  deeds g (s.parentheses at x) = deeds g x
  deeds g (s.prefix op at x) = both (prefix_deeds op x) (deeds g x)
  deeds g (s.binary x op at y) = both (deeds g x) (deeds g y)
  deeds g (s.postfix x op at) = both (changing (moved_names x)) (deeds g x)
  deeds g (s.index x at y) = both (subscript_deeds g x) (both (deeds g x) (deeds g y))
  deeds g (s.member_call x f xs) = both (member_deeds g x f.name xs) (both (deeds g x) (deeds_of_all g xs))
  deeds g (s.member x selector at f) = deeds g x
  deeds g e = nothing_done

  -- what arguments do
  pub deeds_of_all : Scope → Exprs → Deeds
  deeds_of_all g s.none = nothing_done
  deeds_of_all g (s.with x xs) = both (deeds g x) (deeds_of_all g xs)

-- `begin`, `end`, `size` or `empty`
abbrev pub is_quiet : List ℕ → Bool
is_quiet name = is_among name (codes "begin" ∷ codes "end" ∷ codes "size" ∷ codes "empty" ∷ [])

-- Only literals, operators on numbers and names that aren't among these and are no references; where the answer says so, also the calls above on
-- names.
unfoldable pub is_still : Scope → List (List ℕ) → Bool → Expr → Bool
is_still g names calls (s.number at n) = true
is_still g names calls (s.truth at x) = true
is_still g names calls (s.name x) = not (is_among x.name names) && not (is_int_reference (type_of_name g x.name))
is_still g names calls (s.parentheses at x) = is_still g names calls x
is_still g names calls (s.prefix op at x) = is_number (type_of g x) && is_still g names calls x
is_still g names calls (s.postfix x op at) = is_number (type_of g x) && is_still g names calls x
is_still g names calls (s.binary x op at y) =
    is_number (type_of g x) && is_number (type_of g y) && is_still g names calls x && is_still g names calls y
is_still g names calls (s.member_call x f xs) = calls && is_quiet f.name
is_still g names calls e = false

-- a part may stand beside one that does this, in any order
abbrev pub stands_beside : Scope → Deeds → Expr → Bool
stands_beside g d e = (not d.changes || is_still g d.changed false e) && (not d.writes || is_still g d.changed true e)

-- the order of two parts could matter
abbrev pub clash : Scope → Expr → Expr → Bool
clash g x y = not (stands_beside g (deeds g x) y && stands_beside g (deeds g y) x)

-- that of a part and one of these
abbrev pub clashes : Scope → Expr → Exprs → Bool
clashes g x s.none = false
clashes g x (s.with y ys) = clash g x y || clashes g x ys

-- that of two of these
abbrev pub some_clash : Scope → Exprs → Bool
some_clash g s.none = false
some_clash g (s.with x xs) = clashes g x xs || some_clash g xs

-- an operator evaluates its left operand first
abbrev pub is_ordered : BinaryOperator → Bool
is_ordered b.Or = true
is_ordered b.And = true
is_ordered op = false

-- the rule at a node
unfoldable pub order_matters : Scope → Expr → Bool
order_matters g (s.binary x op at y) = not (is_ordered op) && clash g x y
order_matters g (s.call f xs) = some_clash g xs
order_matters g (s.library_call f xs) = some_clash g xs
order_matters g (s.member_call x f xs) = some_clash g xs
order_matters g e = false
