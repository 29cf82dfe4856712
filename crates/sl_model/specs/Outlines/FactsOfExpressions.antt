-- How facts are carried through an expression, as a value and as a test. Operands come first, in the order of their evaluation, and each
-- gives its value to a fresh variable; then comes the rule of the node.
--
-- Restates ISO/IEC 14882:2017, [expr.call], [expr.log.and], [expr.log.or], [expr.unary.op] and [expr.pre.incr]: what is evaluated, and
-- when.
-- Chosen here: operands go from left to right. A comparison is a test only where its answer decides: in a condition, and as a side of
-- `&&`, `||` or `!`. As a value it has no rule. `t` numbers the fresh variable that takes the value.
use Rattle.std.specs.Prelude.{ℕ, ◌+◌, List, [], slice_get, Option, Some, None, true}
use Rattle.sl_base.specs.declared.place.Place.{Place}
use Rattle.sl_base.specs.declared.scalar.Scalar.{Scalar}
use Rattle.sl_syntax.specs.declared.typed.head.Head.{Head}
use Rattle.sl_syntax.specs.declared.typed.parameter.ParameterKind.{ParameterKind}
use Rattle.sl_syntax.specs.declared.typed.step.Fix.{Fix}
use Rattle.sl_syntax.specs.declared.typed.step.Fix.TheVariants as fixes
use Rattle.sl_syntax.specs.declared.typed.step.Step.{Step as Direction}
use Rattle.sl_syntax.specs.declared.typed.step.Step.TheVariants as steps
use Rattle.sl_syntax.specs.Typed.{Expr, literal, held, iterator, convert, negate, logical_not, logical_and, logical_or, arithmetic, comparison}
use Rattle.sl_syntax.specs.Typed.{increment, move, call, own_call, first, second, container, handed_scalar, Left, scalar, reference, element}
use Rattle.sl_syntax.specs.Typed.{Operands, none, with, Typed}
use Rattle.sl_model.specs.Outlines.Facts.{Facts, forget_iterator, forget_scalar, copy_bounds}
use Rattle.sl_model.specs.Outlines.FactRules.{FactRule, ElementRule, read_rule, write_rule}
use Rattle.sl_model.specs.Outlines.FactOperands.{FactScope, container_count, fresh_iterator, fresh_scalar}
use Rattle.sl_model.specs.Outlines.FactsOfIterators.{use_reference}
use Rattle.sl_model.specs.Outlines.FactsOfNumbers as numbers
use Rattle.sl_model.specs.Outlines.FactsOfCalls.{call_rule}
use Rattle.sl_model.specs.Outlines.FactsOfElements.{element_rule, move_rule, FactTest, call_test, comparison_test}
use Rattle.sl_model.specs.Outlines.FactsOfFunctions.{bindings, enters_with, brought_back, given_behind}
use Rattle.sl_model.specs.Outlines.FactSteps.{with_facts, needs_facts, Step, Fork, no_step, changes, rule_step, then_step, test_fork}
use Rattle.sl_model.specs.Outlines.FactSteps.{plain_fork, not_fork, and_fork, or_fork, joined_step}

-- an expression, where its value is taken and where it decides
pub record Reading : Type 0 where
  pub value : Step
  pub test : Fork

-- what tells nothing as a test
abbrev pub plain : Step → Reading
plain a = record { value = a; test = plain_fork a }

-- what is a test in values too
abbrev pub forked : Fork → Reading
forked a = record { value = joined_step a; test = a }

-- nothing is given on the t-th fresh variables
abbrev pub forget_fresh : FactScope → ℕ → Facts → Facts
forget_fresh s t F = forget_scalar (fresh_scalar s t) (forget_iterator (fresh_iterator s t) F)

-- an operand, whose value the t-th fresh variable takes
abbrev pub fresh_step : FactScope → ℕ → Step → Step
fresh_step s t a = then_step (changes (forget_fresh s t)) a

-- what an element is asked for
pub data Use : Type 0 where
  read_use : Use
  write_use : Use

-- the rule of a use
abbrev pub use_rule : Use → ElementRule → FactRule
use_rule read_use e = read_rule e
use_rule write_use e = write_rule e

-- `++` before a scalar is `increment`; any other step of it drops what is on it
abbrev pub steps_scalar : FactScope → Direction → Fix → Scalar → ℕ → Facts → Facts
steps_scalar s steps.Up fixes.Prefix ty x F = numbers.increment s.text.constants (container_count s) ty x F
steps_scalar s step fix ty x F = forget_scalar x F

-- and the value of the step has the bounds that the scalar has behind it
abbrev pub steps_value : FactScope → ℕ → Direction → Fix → Scalar → ℕ → Facts → Facts
steps_value s t step fix ty x F = copy_bounds (fresh_scalar s t) x (steps_scalar s step fix ty x F)

-- the parameters of a function
abbrev pub parameters_of : Typed → ℕ → List ParameterKind
parameters_of p f = elim (slice_get p.functions f) [ None ↦ [] | Some h ↦ h.parameters ]

-- `call`, of a function of the text, whose first operand is read as the t-th
abbrev pub function_step : FactScope → ℕ → ℕ → Operands → Step
function_step s t f ops =
    let ks = parameters_of s.text f in
    let b = bindings s t ks ops in
    record {
      allowed = λ o. true;
      needs = λ o h G. needs_facts (λ F. enters_with b F (h.entries f)) G;
      gives = λ o h G. with_facts (given_behind s ks ops (brought_back b (h.exits f))) G;
    }

-- a call of the library as a test, behind its operands
abbrev pub call_fork : Place → Step → Step → Option FactTest → Fork
call_fork at ops value None = plain_fork value
call_fork at ops value (Some r) = test_fork ops at r

-- a call of the library, behind its operands
abbrev pub call_reading : FactScope → ℕ → Head → Operands → Step → Reading
call_reading s t h ops before =
    let value = then_step before (rule_step h.place (call_rule s t h ops)) in
    record { value = value; test = call_fork h.place before value (call_test s (t + 1) h ops) }

unfoldable mutual
  -- an expression
  pub expression : FactScope → ℕ → Expr → Reading
  expression s t (literal ty z) = plain no_step
  expression s t (held l) = plain (left_side s t read_use l)
  expression s t (iterator x) = plain no_step
  expression s t (convert ty a) = plain (expression s t a).value
  expression s t (negate ty at a) = plain (expression s t a).value
  expression s t (logical_not at a) = forked (not_fork (expression s t a).test)
  expression s t (logical_and at a b) = forked (and_fork (expression s t a).test (expression s t b).test)
  expression s t (logical_or at a b) = forked (or_fork (expression s t a).test (expression s t b).test)
  expression s t (arithmetic op ty at a b) =
      plain (then_step (fresh_step s (t + 1) (expression s (t + 1) a).value) (fresh_step s (t + 2) (expression s (t + 2) b).value))
  expression s t (comparison op at a b) =
      let both = then_step (fresh_step s (t + 1) (expression s (t + 1) a).value) (fresh_step s (t + 2) (expression s (t + 2) b).value) in
      record { value = both; test = test_fork both at (comparison_test op a b) }
  expression s t (increment step fix ty at l) = plain (stepped s t step fix ty l)
  expression s t (move fix x h ops) = plain (then_step (operands s (t + 1) ops) (rule_step h.place (move_rule s t fix x h.callee)))
  expression s t (call h ops) = call_reading s t h ops (operands s (t + 1) ops)
  expression s t (own_call f at ops) = plain (then_step (operands s (t + 1) ops) (function_step s (t + 1) f ops))
  expression s t (first at a) = plain (expression s t a).value
  expression s t (second at a) = plain (expression s t a).value
  expression s t (container x) = plain no_step
  expression s t (handed_scalar x) = plain no_step

  -- a left side that is read, or written, or both
  pub left_side : FactScope → ℕ → Use → Left → Step
  left_side s t how (scalar x at) = no_step
  left_side s t how (reference r at name part) = rule_step at (use_rule how (use_reference (container_count s) r))
  left_side s t how (element h ops) = then_step (operands s (t + 1) ops) (rule_step h.place (use_rule how (element_rule s (t + 1) h ops)))

  -- `++` and `--` of a number
  pub stepped : FactScope → ℕ → Direction → Fix → Scalar → Left → Step
  stepped s t step fix ty (scalar x at) = changes (steps_value s t step fix ty x)
  stepped s t step fix ty (reference r at name part) = rule_step at (use_rule write_use (use_reference (container_count s) r))
  stepped s t step fix ty (element h ops) =
      then_step (operands s (t + 1) ops) (rule_step h.place (use_rule write_use (element_rule s (t + 1) h ops)))

  -- operands, of which the first is read as the t-th
  pub operands : FactScope → ℕ → Operands → Step
  operands s t none = no_step
  operands s t (with a rest) = then_step (fresh_step s t (expression s t a).value) (operands s (t + 1) rest)
