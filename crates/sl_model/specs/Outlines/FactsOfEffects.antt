-- How facts are carried through an effect, a declaration and a condition. Behind each of them the facts on fresh variables are dropped.
--
-- Restates ISO/IEC 14882:2017, [expr.ass] (the right side comes first), [dcl.init], [dcl.init.ref], [stmt.expr] and [istream.extractors].
-- Chosen here: an assignment first drops the facts on its left side. `x.erase(it)`, `it = x.erase(it)`, `it = x.insert(it, e)` and the
-- two forms of `erase_tail` are rules where they stand as a whole effect alone. An effect that is only a variable reads nothing.
use Rattle.std.specs.Prelude.{ℕ, ◌==◌, Bool, true, false, ◌&&◌, ◌||◌, List, [], ◌∷◌, Option, Some, None, if◌then◌else◌}
use Rattle.sl_base.specs.declared.form.Form.{Form}
use Rattle.sl_specs.specs.declared.call.Call.{Call}
use Rattle.sl_specs.specs.declared.call.Call.TheVariants as c
use Rattle.sl_specs.specs.declared.letter.Letter.{Letter}
use Rattle.sl_specs.specs.declared.letter.Letter.TheVariants as a
use Rattle.sl_specs.specs.Rows.{Row}
use Rattle.sl_specs.specs.Table.{same_call}
use Rattle.sl_syntax.specs.declared.typed.head.Head.{Head}
use Rattle.sl_syntax.specs.Typed.{Expr, held, iterator, call, Left, scalar, reference, Operands, none, with, Cond, read, not_read, test, always}
use Rattle.sl_syntax.specs.Typed.{Printed, text, endline, number as printed_number, Effect, reads, prints, evaluates, assigns, updates, moves_to}
use Rattle.sl_syntax.specs.Typed.{Declaration, unset_scalar, set_scalar, set_iterator, binds_reference, makes}
use Rattle.sl_model.specs.Outlines.Facts.{Facts, forget_scalar, copy_iterator, copy_scalar}
use Rattle.sl_model.specs.Outlines.FactRules.{FactRule, bind_reference, no_rule, drop_container}
use Rattle.sl_model.specs.Outlines.FactOperands.{FactScope, container_count, fresh_iterator, fresh_scalar, table_row, literal_of, size_of, end_of, scalar_of}
use Rattle.sl_model.specs.Outlines.FactOperands.{iterator_of, operand_count, whole_of, is_number}
use Rattle.sl_model.specs.Outlines.FactsOfNumbers.{set_literal, take_size}
use Rattle.sl_model.specs.Outlines.FactsOfContainers.{declare, erase_at, erase_at_itself, insert_at, erase_tail}
use Rattle.sl_model.specs.Outlines.FactsOfCalls.{has_needs}
use Rattle.sl_model.specs.Outlines.FactsOfElements.{element_rule}
use Rattle.sl_model.specs.Outlines.FactSteps.{Step, Fork, no_step, changes, rule_step, then_step, plain_fork, fork_behind}
use Rattle.sl_model.specs.Outlines.FactsOfExpressions.{expression, left_side, operands, fresh_step, write_use}
use Rattle.sl_model.specs.Outlines.FactScopes.{within, after_declaration}

-- an expression whose value the first fresh variable takes
abbrev pub evaluation : FactScope → Expr → Step
evaluation s e = fresh_step s 0 (expression s 0 e).value

-- nothing is given on these scalars
abbrev pub forget_scalars : List ℕ → Facts → Facts
forget_scalars [] F = F
forget_scalars (x ∷ xs) F = forget_scalars xs (forget_scalar x F)

-- a scalar takes a value: a literal, a size, or what a variable or fresh variable holds
abbrev pub takes_value : FactScope → ℕ → Expr → Facts → Facts
takes_value s x e = elim (literal_of e) [
  | Some k ↦ set_literal (container_count s) k x
  | None ↦ elim (size_of e) [
    | Some d ↦ take_size d x
    | None ↦ elim (scalar_of s 0 e) [ Some y ↦ copy_scalar x y | None ↦ forget_scalar x ]
  ]
]

-- the call is this one of its row
abbrev pub is_row_call : Call → Option Row → Bool
is_row_call name None = false
is_row_call name (Some r) = same_call r.call name

-- the only argument is a position
abbrev pub takes_position : List Letter → Bool
takes_position (a.Position ∷ []) = true
takes_position ls = false

-- the arguments are a position and an element
abbrev pub takes_position_and_element : List Letter → Bool
takes_position_and_element (a.Position ∷ a.Element ∷ []) = true
takes_position_and_element ls = false

-- the operands of `std::unique(x.begin(), x.end())` or `std::remove(x.begin(), x.end(), e)`
abbrev pub tail_of : ℕ → Expr → Option Operands
tail_of x (call h ops) =
    if (is_row_call c.Unique (table_row h.callee) || is_row_call c.Remove (table_row h.callee)) && is_number x (whole_of ops) then Some ops else None
tail_of x e = None

-- `erase_tail`, behind the operands of the inner call, or another call
abbrev pub erases_tail : FactScope → Head → ℕ → Option Operands → Bool → Step → Step
erases_tail s h x (Some ops) true otherwise = then_step (operands s 1 ops) (rule_step h.place (erase_tail s.text.constants x))
erases_tail s h x ops ends otherwise = otherwise

-- `x.erase(..)` as a whole effect: at an iterator, or of a tail
abbrev pub erases : FactScope → Head → ℕ → Row → Operands → Step → Step
erases s h x r (with p none) otherwise =
    if takes_position r.letters
    then then_step (operands s 1 (with p none)) (rule_step h.place (erase_at s.text.constants x (iterator_of s 1 p)))
    else otherwise
erases s h x r (with e (with l none)) otherwise = erases_tail s h x (tail_of x e) (is_number x (end_of l)) otherwise
erases s h x r ops otherwise = otherwise

-- a call of a row as a whole effect
abbrev pub whole_call : FactScope → Head → Operands → Option Row → Option ℕ → Step → Step
whole_call s h ops (Some r) (Some x) otherwise = if same_call r.call c.Erase then erases s h x r ops otherwise else otherwise
whole_call s h ops r object otherwise = otherwise

-- an expression as a whole effect
abbrev pub whole_expression : FactScope → Expr → Step
whole_expression s (held (scalar x at)) = no_step
whole_expression s (held (reference r at name part)) = no_step
whole_expression s (call h ops) = whole_call s h ops (table_row h.callee) h.object (evaluation s (call h ops))
whole_expression s e = evaluation s e

-- an iterator takes the value of an expression
abbrev pub takes_iterator : FactScope → ℕ → Expr → Step
takes_iterator s it e = then_step (evaluation s e) (changes (copy_iterator it (iterator_of s 0 e)))

-- `it = x.erase(it)` and `it = x.insert(it, e)`, or another call
abbrev pub takes_position_back : FactScope → ℕ → Head → Operands → ℕ → Row → Step → Step
takes_position_back s it h ops x r otherwise =
    if same_call r.call c.Erase && takes_position r.letters
    then then_step (operands s 1 ops) (rule_step h.place (erase_at_itself s.text.constants x it))
    else if same_call r.call c.Insert && takes_position_and_element r.letters
    then elim r.form [
      | None ↦ otherwise
      | Some form ↦ then_step (operands s 1 ops) (rule_step h.place (insert_at s.text.constants x form it))
    ]
    else otherwise

-- a call on an object whose first operand is the variable that takes its value
abbrev pub takes_back : FactScope → ℕ → Head → Operands → Option ℕ → Option Row → Step → Step
takes_back s it h (with (iterator jt) rest) (Some x) (Some r) otherwise =
    if jt == it then takes_position_back s it h (with (iterator jt) rest) x r otherwise else otherwise
takes_back s it h ops object r otherwise = otherwise

-- `it = e`
abbrev pub moves_step : FactScope → ℕ → Expr → Step
moves_step s it (call h ops) = takes_back s it h ops h.object (table_row h.callee) (takes_iterator s it (call h ops))
moves_step s it e = takes_iterator s it e

-- a left side takes a value
abbrev pub assigns_step : FactScope → Left → Expr → Step
assigns_step s (scalar x at) e = then_step (evaluation s e) (changes (takes_value s x e))
assigns_step s l e = then_step (evaluation s e) (left_side s 1 write_use l)

-- a left side is calculated anew
abbrev pub updates_step : FactScope → Left → Expr → Step
updates_step s (scalar x at) e = then_step (evaluation s e) (changes (forget_scalar x))
updates_step s l e = then_step (evaluation s e) (left_side s 1 write_use l)

-- the items of a print
abbrev pub prints_step : FactScope → List Printed → Step
prints_step s [] = no_step
prints_step s (text bytes ∷ ps) = prints_step s ps
prints_step s (endline ∷ ps) = prints_step s ps
prints_step s (printed_number e ∷ ps) = then_step (evaluation s e) (prints_step s ps)

-- an effect before its fresh variables are dropped
abbrev pub effect_rule : FactScope → Effect → Step
effect_rule s (reads xs) = changes (forget_scalars xs)
effect_rule s (prints ps) = prints_step s ps
effect_rule s (evaluates e) = whole_expression s e
effect_rule s (assigns l e) = assigns_step s l e
effect_rule s (updates op ty left_ty at l e) = updates_step s l e
effect_rule s (moves_to it e) = moves_step s it e

-- an effect
abbrev pub effect_step : FactScope → Effect → Step
effect_step s e = then_step (effect_rule s e) (changes (within s))

-- the elements of a new container are listed, or there are none
abbrev pub takes_list : List Letter → Bool
takes_list [] = true
takes_list (a.InitializerList ∷ []) = true
takes_list ls = false

-- a new container by the row that makes it
abbrev pub makes_rule : FactScope → Form → Operands → Option Row → FactRule
makes_rule s form ops None = no_rule true (drop_container (container_count s))
makes_rule s form ops (Some r) =
    if takes_list r.letters then declare s.text.constants (container_count s) form (operand_count ops)
    else no_rule (has_needs r.needs) (drop_container (container_count s))

-- a declaration before its fresh variables are dropped; what it declares has the number of the first fresh one
abbrev pub declaration_rule : FactScope → Declaration → Step
declaration_rule s (unset_scalar ty) = changes (forget_scalar (fresh_scalar s 0))
declaration_rule s (set_scalar ty e) = then_step (evaluation s e) (changes (takes_value s (fresh_scalar s 0) e))
declaration_rule s (set_iterator e) = takes_iterator s (fresh_iterator s 0) e
declaration_rule s (binds_reference h ops) =
    then_step (operands s 1 ops) (rule_step h.place (bind_reference (fresh_iterator s 0) (element_rule s 1 h ops)))
declaration_rule s (makes form h ops) = then_step (operands s 1 ops) (rule_step h.place (makes_rule s form ops (table_row h.callee)))

-- a declaration
abbrev pub declaration_step : FactScope → Declaration → Step
declaration_step s d = then_step (declaration_rule s d) (changes (within (after_declaration d s)))

-- no test: the side where it is false isn't reached
abbrev pub always_true : Fork
always_true = record { allowed = λ o. true; needs = λ o h G. true; when_true = λ o h G. G; when_false = λ o h G. None }

-- a condition before its fresh variables are dropped
abbrev pub condition_rule : FactScope → Cond → Fork
condition_rule s (read xs) = plain_fork (changes (forget_scalars xs))
condition_rule s (not_read xs) = plain_fork (changes (forget_scalars xs))
condition_rule s (test e) = (expression s 0 e).test
condition_rule s always = always_true

-- a condition
abbrev pub condition : FactScope → Cond → Fork
condition s k = fork_behind (within s) (condition_rule s k)
