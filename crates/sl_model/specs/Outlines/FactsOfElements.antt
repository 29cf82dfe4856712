-- The fact rule of each call that gives an element, of each call that moves an iterator variable, and of each test. `t` numbers the
-- fresh variable that takes a value; operands are read as those behind it.
--
-- Restates ISO/IEC 14882:2017, [sequence.reqmts] (`front`, `back`, `a[n]`, `at`), [map.access], [unord.map.elem],
-- [iterator.requirements.general] (`*it`, `it->`), [input.iterators], [bidirectional.iterators], [expr.rel] and [expr.eq].
-- Chosen here: which forms have a rule. A test of a scalar with a literal goes either way round; one of an iterator with `c.end()`
-- or `c.begin()`, and of a scalar with `c.size()`, has the container on its right side.
use Rattle.std.specs.Prelude.{ℕ, Bool, true, ℤ, Option, Some, None, false}
use Rattle.sl_base.specs.declared.form.Form.{Form}
use Rattle.sl_base.specs.declared.form.Form.TheVariants as f
use Rattle.sl_specs.specs.declared.call.Call.{Call}
use Rattle.sl_specs.specs.declared.call.Call.TheVariants as c
use Rattle.sl_specs.specs.Rows.{Row}
use Rattle.sl_syntax.specs.declared.operator.Comparison.{Comparison}
use Rattle.sl_syntax.specs.declared.operator.Comparison.TheVariants as comparisons
use Rattle.sl_syntax.specs.declared.typed.callee.Callee.{Callee}
use Rattle.sl_syntax.specs.declared.typed.callee.Callee.TheVariants as callees
use Rattle.sl_syntax.specs.declared.typed.head.Head.{Head}
use Rattle.sl_syntax.specs.declared.typed.operator.Operator.{Operator}
use Rattle.sl_syntax.specs.declared.typed.operator.Operator.TheVariants as operators
use Rattle.sl_syntax.specs.declared.typed.step.Fix.{Fix}
use Rattle.sl_syntax.specs.declared.typed.step.Fix.TheVariants as fixes
use Rattle.sl_syntax.specs.Typed.{Expr, Operands, none, with}
use Rattle.sl_model.specs.Outlines.Facts.{Facts, inside, without, no_container, forget_iterator, copy_iterator}
use Rattle.sl_model.specs.Outlines.FactRules.{FactRule, ElementRule, no_need, no_outline, no_rule, is_on_order}
use Rattle.sl_model.specs.Outlines.FactOperands.{FactScope, container_count, fresh_iterator, table_row, object_of, begin_of, end_of, size_of, literal_of}
use Rattle.sl_model.specs.Outlines.FactOperands.{variable_of, scalar_of, iterator_of}
use Rattle.sl_model.specs.Outlines.FactsOfIterators.{step_forward, step_back, access}
use Rattle.sl_model.specs.Outlines.FactsOfNumbers.{test_literal, opposite, turned, test_below_size, test_not_size, test_empty, test_not_end, test_not_begin}
use Rattle.sl_model.specs.Outlines.FactsOfContainers.{front_or_back, index_by, index_at, index_elsewhere, element_at, value_of_key}
use Rattle.sl_model.specs.Outlines.FactsOfCalls.{iterator_at}

-- an element of which nothing is known
abbrev pub element_elsewhere : ElementRule
element_elsewhere =
    record { has_rule = false; needs = no_outline; reads = λ lax F. F; writes = λ lax F. without is_on_order F; owners = λ lax F. no_container }

-- `x[e]` of a vector or deque: a literal, or a scalar that has facts
abbrev pub index : FactScope → ℕ → ℕ → Option Expr → ElementRule
index s t x None = index_elsewhere x
index s t x (Some e) = elim (literal_of e) [
  | Some k ↦ index_at s.text.constants x k
  | None ↦ elim (scalar_of s t e) [ None ↦ index_elsewhere x | Some y ↦ index_by s.text.constants x y ]
]

-- the first operand
abbrev pub first_operand : Operands → Option Expr
first_operand none = None
first_operand (with a rest) = Some a

-- `x[e]`, by the form
abbrev pub subscript : FactScope → ℕ → ℕ → Form → Operands → ElementRule
subscript s t x f.Map ops = value_of_key s.text.constants x f.Map
subscript s t x f.HashMap ops = value_of_key s.text.constants x f.HashMap
subscript s t x form ops = index s t x (first_operand ops)

-- a member call on x of a form that gives an element, by its name
abbrev pub member_element : FactScope → ℕ → ℕ → Form → Operands → Call → ElementRule
member_element s t x form ops c.Front = front_or_back s.text.constants x
member_element s t x form ops c.Back = front_or_back s.text.constants x
member_element s t x form ops c.At = element_at x
member_element s t x form ops c.Subscript = subscript s t x form ops
member_element s t x form ops name = element_elsewhere

-- a row that gives an element
abbrev pub row_element : FactScope → ℕ → Operands → Option ℕ → Option Row → ElementRule
row_element s t ops (Some x) (Some r) = elim r.form [ None ↦ element_elsewhere | Some form ↦ member_element s t x form ops r.call ]
row_element s t ops object r = element_elsewhere

-- a call that gives an element; t numbers its first operand
abbrev pub element_rule : FactScope → ℕ → Head → Operands → ElementRule
element_rule s t h ops = elim h.callee [
  | callees.Row n ↦ row_element s t ops h.object (table_row h.callee)
  | callees.Appends n ↦ element_elsewhere
  | callees.Operator o ↦ access (container_count s) (iterator_at s t ops 0)
  | callees.Hidden o ↦ element_elsewhere
]

-- an iterator variable is moved by a form that has no rule
abbrev pub moves_otherwise : ℕ → FactRule
moves_otherwise it = no_rule true (forget_iterator it)

-- an operator that moves an iterator variable: `++` and `--` before it have a rule
abbrev pub operator_moves : FactScope → ℕ → Fix → Operator → FactRule
operator_moves s it fixes.Prefix operators.Increment = step_forward (container_count s) it it
operator_moves s it fixes.Prefix operators.Decrement = step_back (container_count s) it it
operator_moves s it fix o = moves_otherwise it

-- what moves an iterator variable
abbrev pub moving_rule : FactScope → Fix → ℕ → Callee → FactRule
moving_rule s fix it (callees.Operator o) = operator_moves s it fix o
moving_rule s fix it callee = moves_otherwise it

-- and its value, which has the facts of the variable behind it
abbrev pub move_rule : FactScope → ℕ → Fix → ℕ → Callee → FactRule
move_rule s t fix it callee = record {
  has_rule = (moving_rule s fix it callee).has_rule;
  needs = (moving_rule s fix it callee).needs;
  gives = λ lax F. copy_iterator (fresh_iterator s t) it ((moving_rule s fix it callee).gives lax F);
}

-- a test: whether it has a rule, what it needs, and what it gives on either side
pub record FactTest : Type 0 where
  pub has_rule : Bool
  pub needs : Facts → Bool
  pub when_true : Facts → Facts
  pub when_false : Facts → Facts

-- a test that needs and gives nothing
abbrev pub tells_nothing : FactTest
tells_nothing = record { has_rule = true; needs = no_need; when_true = λ F. F; when_false = λ F. F }

-- a test of iterators that has no rule
abbrev pub no_test : FactTest
no_test = record { has_rule = false; needs = no_outline; when_true = λ F. F; when_false = λ F. F }

-- a test that gives something where it is true, or where it is false
abbrev pub tells_true : (Facts → Bool) → (Facts → Facts) → FactTest
tells_true needs rule = record { has_rule = true; needs = needs; when_true = rule; when_false = λ F. F }

-- the same on the other side
abbrev pub tells_false : (Facts → Bool) → (Facts → Facts) → FactTest
tells_false needs rule = record { has_rule = true; needs = needs; when_true = λ F. F; when_false = rule }

-- an iterator is compared with the end of x, or with its beginning: it has to be inside
abbrev pub compares_inside : ℕ → ℕ → (Facts → Facts) → Comparison → FactTest
compares_inside it x rule comparisons.NotEqual = tells_true (λ F. F (inside it x)) rule
compares_inside it x rule comparisons.Equal = tells_false (λ F. F (inside it x)) rule
compares_inside it x rule op = no_test

-- two iterators are compared, by what the right one ends or begins
abbrev pub compares_iterators : ℕ → Option ℕ → Option ℕ → Comparison → FactTest
compares_iterators it (Some x) starts op = compares_inside it x (test_not_end it x) op
compares_iterators it None (Some x) op = compares_inside it x (test_not_begin it x) op
compares_iterators it None None op = no_test

-- a test by an operator on iterators
abbrev pub operator_test : FactScope → ℕ → Operands → Operator → FactTest
operator_test s t (with a (with b none)) (operators.Compare op) = compares_iterators (iterator_of s t a) (end_of b) (begin_of b) op
operator_test s t ops o = no_test

-- a test by a call of the library: of iterators, or `x.empty()`; t numbers its first operand
abbrev pub call_test : FactScope → ℕ → Head → Operands → Option FactTest
call_test s t h ops = elim h.callee [
  | callees.Row n ↦ elim (object_of c.Empty (table_row h.callee) h.object) [ None ↦ None | Some x ↦ Some (tells_false no_need (test_empty x)) ]
  | callees.Appends n ↦ None
  | callees.Operator o ↦ Some (operator_test s t ops o)
  | callees.Hidden o ↦ None
]

-- a scalar is compared with a literal
abbrev pub compares_literal : ℕ → ℤ → Comparison → FactTest
compares_literal x k op = record { has_rule = true; needs = no_need; when_true = test_literal op x k; when_false = test_literal (opposite op) x k }

-- a scalar is compared with the size of c
abbrev pub compares_size : ℕ → ℕ → Comparison → FactTest
compares_size x y comparisons.Less = tells_true no_need (test_below_size x y)
compares_size x y comparisons.GreaterEqual = tells_false no_need (test_below_size x y)
compares_size x y comparisons.NotEqual = tells_true no_need (test_not_size x y)
compares_size x y comparisons.Equal = tells_false no_need (test_not_size x y)
compares_size x y op = tells_nothing

-- a scalar is compared with what the right side is
abbrev pub compares_variable : ℕ → Option ℤ → Option ℕ → Comparison → FactTest
compares_variable x (Some k) size op = compares_literal x k op
compares_variable x None (Some y) op = compares_size x y op
compares_variable x None None op = tells_nothing

-- a test of two numbers, in the type of the variable
abbrev pub comparison_test : Comparison → Expr → Expr → FactTest
comparison_test op a b = elim (variable_of a) [
  | Some x ↦ compares_variable x (literal_of b) (size_of b) op
  | None ↦ elim (variable_of b) [
    | None ↦ tells_nothing
    | Some y ↦ compares_variable y (literal_of a) None (turned op)
  ]
]
