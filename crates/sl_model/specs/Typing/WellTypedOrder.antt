-- Typed texts that keep a rule on what stands beside effects in an open order, and in which no variable is bound to two references of a call.
--
-- Restates ISO/IEC 14882:2017, [intro.execution] (the operands of an operator and the arguments of a call are evaluated in no order that is said),
-- [expr.log.and] and [expr.log.or] (the left operand first), [expr.ass] and [dcl.init.list] (elements in braces in their order).
-- Chosen here: the rule, which is wider than what the standard calls undefined. A change is `++`, `--`, a call of a member that changes its object, a
-- call of the text's own, `std::advance`, or an algorithm that appends; an element write is another algorithm that writes. Beside a change stand only
-- literals, operators on numbers, and names that it doesn't change; beside an element write these, and calls of `begin`, `end`, `size` and `empty`.
-- The object of a call is no argument, and an argument for a parameter for elements alone isn't looked at. No two references of a call are one
-- variable.
use Rattle.std.specs.Prelude.{ℕ, ◌==◌, Bool, true, false, not, ◌&&◌, ◌||◌, List, [], ◌∷◌, ◌++◌, flat_map, Option, Some, None, slice_get}
use Rattle.std.specs.Prelude.{if◌then◌else◌}
use Rattle.std.specs.List.{list_all, list_any}
use Rattle.sl_specs.specs.declared.call.Call.TheVariants as c
use Rattle.sl_specs.specs.declared.letter.Letter.{Letter}
use Rattle.sl_specs.specs.declared.letter.Letter.TheVariants as l
use Rattle.sl_specs.specs.Rows.{Row}
use Rattle.sl_specs.specs.Table.{same_call}
use Rattle.sl_syntax.specs.declared.operator.Access.TheVariants as a
use Rattle.sl_syntax.specs.declared.typed.callee.Callee.{Callee}
use Rattle.sl_syntax.specs.declared.typed.callee.Callee.TheVariants as callees
use Rattle.sl_syntax.specs.declared.typed.head.Head.{Head}
use Rattle.sl_syntax.specs.declared.typed.operator.Operator.{Operator}
use Rattle.sl_syntax.specs.declared.typed.operator.Operator.TheVariants as operators
use Rattle.sl_syntax.specs.declared.typed.parameter.ParameterKind.{ParameterKind}
use Rattle.sl_syntax.specs.declared.typed.parameter.ParameterKind.TheVariants as parameters
use Rattle.sl_syntax.specs.Typed.{Expr, literal, held, iterator, convert, negate, logical_not, logical_and, logical_or, arithmetic, comparison}
use Rattle.sl_syntax.specs.Typed.{increment, call, container, handed_scalar, Left, scalar, reference, element}
use Rattle.sl_syntax.specs.Typed.{Operands, none, with, Function}
use Rattle.sl_typing.specs.Signatures.{row_at, is_algorithm}
use Rattle.sl_model.specs.Typing.WellTypedCalls.{is_moving}
use Rattle.sl_model.specs.Typing.WellTypedNodes.{Node, a_call, an_own_call, an_operator, a_step, nodes_in}

-- a variable, by its sort and number
pub data Variable : Type 0 where
  the_scalar : ℕ → Variable
  the_container : ℕ → Variable
  the_iterator : ℕ → Variable

-- two variables are one
abbrev pub same_variable : Variable → Variable → Bool
same_variable (the_scalar x) (the_scalar y) = x == y
same_variable (the_container x) (the_container y) = x == y
same_variable (the_iterator x) (the_iterator y) = x == y
same_variable v w = false

-- a variable is among these
abbrev pub is_among : Variable → List Variable → Bool
is_among v vs = list_any (same_variable v) vs

-- no variable is twice among these
abbrev pub are_apart : List Variable → Bool
are_apart [] = true
are_apart (v ∷ vs) = not (is_among v vs) && are_apart vs

-- the container that an operand is, or the scalar that it hands over
abbrev pub bound_in : Expr → List Variable
bound_in (container x) = the_container x ∷ []
bound_in (handed_scalar x) = the_scalar x ∷ []
bound_in e = []

-- the container that an operand is
abbrev pub container_in : Expr → List Variable
container_in (container x) = the_container x ∷ []
container_in e = []

-- the iterator variable that an operand is
abbrev pub iterator_in : Expr → List Variable
iterator_in (iterator x) = the_iterator x ∷ []
iterator_in e = []

-- the object of a call
abbrev pub object_in : Head → List Variable
object_in h = elim h.object as (λ _. List Variable) [ None ↦ [] | Some x ↦ the_container x ∷ [] ]

-- operands as a list
abbrev pub listed : Operands → List Expr
listed none = []
listed (with e rest) = e ∷ listed rest

-- no variable is bound to two references of a call of the text's own
abbrev pub binds_apart : Node → Bool
binds_apart (an_own_call n ops) = are_apart (flat_map bound_in (listed ops))
binds_apart node = true

-- a row, if it is there, changes its object, or moves what it is handed
abbrev pub row_changes : Option Row → Bool
row_changes None = false
row_changes (Some row) = row.changes

-- a call of the library is a change
abbrev pub callee_changes : Callee → Bool
callee_changes (callees.Row n) = row_changes (row_at n) || is_moving (callees.Row n)
callee_changes (callees.Appends n) = true
callee_changes callee = is_moving callee

-- a node is a change
abbrev pub is_change : Node → Bool
is_change (a_step left) = true
is_change (a_call h ops) = callee_changes h.callee
is_change (an_own_call n ops) = true
is_change node = false

-- an expression holds a change
abbrev pub holds_change : Expr → Bool
holds_change e = list_any is_change (nodes_in e)

-- the variable that a left side is, or the container of which it is an element
abbrev pub variable_of : Left → List Variable
variable_of (scalar x at) = the_scalar x ∷ []
variable_of (reference x at name part) = the_iterator x ∷ []
variable_of (element h ops) = object_in h

-- the variable that an operand binds to a reference that isn't const
abbrev pub handed_to : ParameterKind → Expr → List Variable
handed_to (parameters.Reference s) e = bound_in e
handed_to (parameters.Container a.Whole x) e = bound_in e
handed_to k e = []

-- those that operands bind in turn
abbrev pub all_handed_to : List ParameterKind → Operands → List Variable
all_handed_to (k ∷ ks) (with e rest) = handed_to k e ++ all_handed_to ks rest
all_handed_to ks ops = []

-- the parameters of one of these functions
abbrev pub parameters_of : List Function → ℕ → List ParameterKind
parameters_of fs n = elim (slice_get fs n) as (λ _. List ParameterKind) [ None ↦ [] | Some h ↦ h.parameters ]

-- the variables that a call of the library changes: the iterator that it moves, or its object and the containers that it is handed
abbrev pub changed_by_call : Head → Operands → List Variable
changed_by_call h ops =
    if is_moving h.callee then flat_map iterator_in (listed ops)
    else if callee_changes h.callee then object_in h ++ flat_map container_in (listed ops) else []

-- the variables that a node changes
abbrev pub changed_by : List Function → Node → List Variable
changed_by fs (a_step left) = variable_of left
changed_by fs (a_call h ops) = changed_by_call h ops
changed_by fs (an_own_call n ops) = all_handed_to (parameters_of fs n) ops
changed_by fs node = []

-- those that an expression changes
abbrev pub changed_in : List Function → Expr → List Variable
changed_in fs e = flat_map (changed_by fs) (nodes_in e)

-- elements of this letter's argument are written
abbrev pub is_written_letter : Letter → Bool
is_written_letter l.WrittenRange = true
is_written_letter l.RandomAccessRange = true
is_written_letter l.Output = true
is_written_letter letter = false

-- a row, if it is there, is an algorithm that writes elements
abbrev pub row_writes : Option Row → Bool
row_writes None = false
row_writes (Some row) = is_algorithm row && list_any is_written_letter row.letters

-- a call of the library is an element write
abbrev pub callee_writes : Callee → Bool
callee_writes (callees.Row n) = row_writes (row_at n)
callee_writes callee = false

-- a node is an element write
abbrev pub is_write : Node → Bool
is_write (a_call h ops) = callee_writes h.callee
is_write node = false

-- an expression holds an element write
abbrev pub holds_write : Expr → Bool
holds_write e = list_any is_write (nodes_in e)

-- a row, if it is there, is `begin`, `end`, `size` or `empty`
abbrev pub is_quiet_row : Option Row → Bool
is_quiet_row None = false
is_quiet_row (Some row) = list_any (same_call row.call) (c.Begin ∷ c.End ∷ c.Size ∷ c.Empty ∷ [])

-- a call of one of these
abbrev pub is_quiet : Callee → Bool
is_quiet (callees.Row n) = is_quiet_row (row_at n)
is_quiet callee = false

-- only literals, operators on numbers and names that aren't among these; where the answer says so, also the calls above
unfoldable pub is_still : List Variable → Bool → Expr → Bool
is_still vs calls (literal s z) = true
is_still vs calls (convert s e) = is_still vs calls e
is_still vs calls (negate s at e) = is_still vs calls e
is_still vs calls (logical_not at e) = is_still vs calls e
is_still vs calls (logical_and at d e) = is_still vs calls d && is_still vs calls e
is_still vs calls (logical_or at d e) = is_still vs calls d && is_still vs calls e
is_still vs calls (arithmetic op s at d e) = is_still vs calls d && is_still vs calls e
is_still vs calls (comparison op at d e) = is_still vs calls d && is_still vs calls e
is_still vs calls (increment step fix s at (scalar x name)) = not (is_among (the_scalar x) vs)
is_still vs calls (call h none) = calls && is_quiet h.callee
is_still vs calls (held (scalar x at)) = not (is_among (the_scalar x) vs)
is_still vs calls (iterator x) = not (is_among (the_iterator x) vs)
is_still vs calls (container x) = not (is_among (the_container x) vs)
is_still vs calls (handed_scalar x) = not (is_among (the_scalar x) vs)
is_still vs calls e = false

-- an expression may stand beside another one, whatever that does
abbrev pub bears : List Function → Expr → Expr → Bool
bears fs d e = (not (holds_change d) || is_still (changed_in fs d) false e) && (not (holds_write d) || is_still (changed_in fs d) true e)

-- the order of two expressions doesn't matter
abbrev pub may_swap : List Function → Expr → Expr → Bool
may_swap fs d e = bears fs d e && bears fs e d

-- that of each two of these doesn't
abbrev pub may_all_swap : List Function → List Expr → Bool
may_all_swap fs [] = true
may_all_swap fs (e ∷ es) = list_all (may_swap fs e) es && may_all_swap fs es

-- a row, if it is there, takes elements in braces
abbrev pub takes_list : Option Row → Bool
takes_list None = false
takes_list (Some row) = list_any (λ letter. elim letter as (λ _. Bool) [ l.InitializerList ↦ true | k ↦ false ]) row.letters

-- `+=` and `-=` are assignments
abbrev pub is_assignment : Operator → Bool
is_assignment operators.AddAssign = true
is_assignment operators.SubtractAssign = true
is_assignment o = false

-- the operands of a call of the library: beside the call of `back_inserter`, which is no name, none may change or write anything
abbrev pub call_is_ordered : List Function → Callee → List Expr → Bool
call_is_ordered fs (callees.Row n) es = takes_list (row_at n) || may_all_swap fs es
call_is_ordered fs (callees.Appends n) es = list_all (λ e. not (holds_change e || holds_write e)) es
call_is_ordered fs (callees.Operator o) es = is_assignment o || may_all_swap fs es
call_is_ordered fs (callees.Hidden o) es = true

-- the operands that aren't for elements alone
abbrev pub but_elements : List ParameterKind → Operands → List Expr
but_elements (parameters.Container a.Elements x ∷ ks) (with e rest) = but_elements ks rest
but_elements (k ∷ ks) (with e rest) = e ∷ but_elements ks rest
but_elements ks ops = listed ops

-- at a node no order of effects matters
abbrev pub is_ordered : List Function → Node → Bool
is_ordered fs (an_operator d e) = may_swap fs d e
is_ordered fs (a_call h ops) = call_is_ordered fs h.callee (listed ops)
is_ordered fs (an_own_call n ops) = may_all_swap fs (but_elements (parameters_of fs n) ops)
is_ordered fs node = true
