-- An effect, a declaration or a condition to which no way comes needs nothing, and gives nothing behind it.
use Rattle.std.proofs.Common.{ℕ, Bool, true, false, [], ◌∷◌, List, Option, Some, None, refl, ap}
use Rattle.std.specs.Prelude.{◌&&◌, ◌==◌, if◌then◌else◌}
use Rattle.sl_base.specs.declared.form.Form.{Form}
use Rattle.sl_specs.specs.Rows.{Row}
use Rattle.sl_syntax.specs.declared.typed.head.Head.{Head}
use Rattle.sl_syntax.specs.Typed.{Expr, held, iterator}
use Rattle.sl_syntax.specs.Typed.{call, Left, scalar, reference, element}
use Rattle.sl_syntax.specs.Typed.{Operands, none, with, Cond, read, not_read, test, always, Printed, text, endline, number as printed_number}
use Rattle.sl_syntax.specs.Typed.{Effect, reads, prints, evaluates, assigns, updates, moves_to, Declaration, unset_scalar, set_scalar}
use Rattle.sl_syntax.specs.Typed.{set_iterator, binds_reference, makes}
use Rattle.sl_model.specs.Outlines.FactOperands.{FactScope, fresh_iterator, fresh_scalar, iterator_of, is_number, end_of, table_row}
use Rattle.sl_model.specs.Outlines.FactRules.{bind_reference}
use Rattle.sl_model.specs.Outlines.Facts.{copy_iterator, forget_scalar}
use Rattle.sl_model.specs.Outlines.FactsOfContainers.{erase_tail, erase_at, erase_at_itself, insert_at}
use Rattle.sl_model.specs.Outlines.FactsOfElements.{element_rule}
use Rattle.sl_specs.specs.declared.call.Call.TheVariants as c
use Rattle.sl_specs.specs.Table.{same_call}
use Rattle.sl_model.specs.Outlines.FactSteps.{with_facts, Step, then_step, rule_step}
use Rattle.sl_model.specs.Outlines.FactsOfExpressions.{operands, write_use}
use Rattle.sl_model.specs.Outlines.FactScopes.{within, after_declaration}
use Rattle.sl_model.specs.Outlines.FactsOfEffects.{takes_position, takes_position_and_element, makes_rule, evaluation, forget_scalars, takes_value, tail_of, erases_tail, erases, whole_call, whole_expression}
use Rattle.sl_model.specs.Outlines.FactsOfEffects.{takes_iterator, takes_position_back, takes_back, moves_step, assigns_step, updates_step, prints_step}
use Rattle.sl_model.specs.Outlines.FactsOfEffects.{effect_rule, effect_step, declaration_rule, declaration_step, condition_rule, condition}
use Rattle.sl_model.proofs.FactsIdle.{IsIdleStep, IsIdleFork, no_step_idle, changes_idle, rule_idle, then_idle, plain_idle, expression_idle}
use Rattle.sl_model.proofs.FactsIdle.{left_idle, operands_idle, fresh_idle}

-- one of two
if_idle : (b : Bool) {x y : Step} → IsIdleStep x → IsIdleStep y → IsIdleStep (if b then x else y)
if_idle true i j = i
if_idle false i j = j

pub evaluation_idle : (s : FactScope) (e : Expr) → IsIdleStep (evaluation s e)
evaluation_idle s e = fresh_idle s 0 (expression_idle s 0 e).value

tail_idle : (s : FactScope) (h : Head) (x : ℕ) (ops : Option Operands) (b : Bool) {a : Step} → IsIdleStep a → IsIdleStep (erases_tail s h x ops b a)
tail_idle s h x (Some ops) true i = then_idle (operands_idle s 1 ops) (rule_idle h.place (erase_tail s.text.constants x))
tail_idle s h x (Some ops) false i = i
tail_idle s h x None b i = i

erases_idle : (s : FactScope) (h : Head) (x : ℕ) (r : Row) (ops : Operands) {a : Step} → IsIdleStep a → IsIdleStep (erases s h x r ops a)
erases_idle s h x r none i = i
erases_idle s h x r (with p none) i = if_idle (takes_position r.letters)
    (then_idle (operands_idle s 1 (with p none)) (rule_idle h.place (erase_at s.text.constants x (iterator_of s 1 p)))) i
erases_idle s h x r (with e (with l none)) i = tail_idle s h x (tail_of x e) (is_number x (end_of l)) i
erases_idle s h x r (with e (with l (with k rest))) i = i

whole_idle : (s : FactScope) (h : Head) (ops : Operands) (r : Option Row) (x : Option ℕ) {a : Step} → IsIdleStep a → IsIdleStep (whole_call s h ops r x a)
whole_idle s h ops (Some r) (Some x) i = if_idle (same_call r.call c.Erase) (erases_idle s h x r ops i) i
whole_idle s h ops (Some r) None i = i
whole_idle s h ops None x i = i

-- a left side as a whole effect
held_idle : (s : FactScope) (l : Left) → IsIdleStep (whole_expression s (held l))
held_idle s (scalar x at) = no_step_idle
held_idle s (reference r at name part) = no_step_idle
held_idle s (element h ops) = evaluation_idle s (held (element h ops))

expression_effect_idle : (s : FactScope) (e : Expr) → IsIdleStep (whole_expression s e)
expression_effect_idle s (held l) = held_idle s l
expression_effect_idle s (call h ops) = whole_idle s h ops (table_row h.callee) h.object (evaluation_idle s (call h ops))
expression_effect_idle s e = evaluation_idle s e

takes_idle : (s : FactScope) (it : ℕ) (e : Expr) → IsIdleStep (takes_iterator s it e)
takes_idle s it e = then_idle (evaluation_idle s e) (changes_idle (copy_iterator it (iterator_of s 0 e)))

-- `it = x.insert(it, e)`, by the form
form_idle : (s : FactScope) (it : ℕ) (h : Head) (ops : Operands) (x : ℕ) (f : Option Form) {a : Step} → IsIdleStep a
    → IsIdleStep (elim f [ None ↦ a | Some form ↦ then_step (operands s 1 ops) (rule_step h.place (insert_at s.text.constants x form it)) ])
form_idle s it h ops x None i = i
form_idle s it h ops x (Some form) i = then_idle (operands_idle s 1 ops) (rule_idle h.place (insert_at s.text.constants x form it))

position_idle : (s : FactScope) (it : ℕ) (h : Head) (ops : Operands) (x : ℕ) (r : Row) {a : Step} → IsIdleStep a
    → IsIdleStep (takes_position_back s it h ops x r a)
position_idle s it h ops x r i = if_idle (same_call r.call c.Erase && takes_position r.letters)
    (then_idle (operands_idle s 1 ops) (rule_idle h.place (erase_at_itself s.text.constants x it)))
    (if_idle (same_call r.call c.Insert && takes_position_and_element r.letters) (form_idle s it h ops x r.form i) i)

back_idle : (s : FactScope) (it : ℕ) (h : Head) (ops : Operands) (x : Option ℕ) (r : Option Row) {a : Step} → IsIdleStep a
    → IsIdleStep (takes_back s it h ops x r a)
back_idle s it h (with (iterator jt) rest) (Some x) (Some r) i = if_idle (jt == it) (position_idle s it h (with (iterator jt) rest) x r i) i
back_idle s it h ops x r i = i

moves_idle : (s : FactScope) (it : ℕ) (e : Expr) → IsIdleStep (moves_step s it e)
moves_idle s it (call h ops) = back_idle s it h ops h.object (table_row h.callee) (takes_idle s it (call h ops))
moves_idle s it e = takes_idle s it e

assigns_idle : (s : FactScope) (l : Left) (e : Expr) → IsIdleStep (assigns_step s l e)
assigns_idle s (scalar x at) e = then_idle (evaluation_idle s e) (changes_idle (takes_value s x e))
assigns_idle s (reference r at name part) e = then_idle (evaluation_idle s e) (left_idle s 1 write_use (reference r at name part))
assigns_idle s (element h ops) e = then_idle (evaluation_idle s e) (left_idle s 1 write_use (element h ops))

updates_idle : (s : FactScope) (l : Left) (e : Expr) → IsIdleStep (updates_step s l e)
updates_idle s (scalar x at) e = then_idle (evaluation_idle s e) (changes_idle (forget_scalar x))
updates_idle s (reference r at name part) e = then_idle (evaluation_idle s e) (left_idle s 1 write_use (reference r at name part))
updates_idle s (element h ops) e = then_idle (evaluation_idle s e) (left_idle s 1 write_use (element h ops))

prints_idle : (s : FactScope) (ps : List Printed) → IsIdleStep (prints_step s ps)
prints_idle s [] = no_step_idle
prints_idle s (text bytes ∷ ps) = prints_idle s ps
prints_idle s (endline ∷ ps) = prints_idle s ps
prints_idle s (printed_number e ∷ ps) = then_idle (evaluation_idle s e) (prints_idle s ps)

rule_of_effect_idle : (s : FactScope) (e : Effect) → IsIdleStep (effect_rule s e)
rule_of_effect_idle s (reads xs) = changes_idle (forget_scalars xs)
rule_of_effect_idle s (prints ps) = prints_idle s ps
rule_of_effect_idle s (evaluates e) = expression_effect_idle s e
rule_of_effect_idle s (assigns l e) = assigns_idle s l e
rule_of_effect_idle s (updates op ty left_ty at l e) = updates_idle s l e
rule_of_effect_idle s (moves_to it e) = moves_idle s it e

pub effect_idle : (s : FactScope) (e : Effect) → IsIdleStep (effect_step s e)
effect_idle s e = then_idle (rule_of_effect_idle s e) (changes_idle (within s))

rule_of_declaration_idle : (s : FactScope) (d : Declaration) → IsIdleStep (declaration_rule s d)
rule_of_declaration_idle s (unset_scalar ty) = changes_idle (forget_scalar (fresh_scalar s 0))
rule_of_declaration_idle s (set_scalar ty e) = then_idle (evaluation_idle s e) (changes_idle (takes_value s (fresh_scalar s 0) e))
rule_of_declaration_idle s (set_iterator e) = takes_idle s (fresh_iterator s 0) e
rule_of_declaration_idle s (binds_reference h ops) =
    then_idle (operands_idle s 1 ops) (rule_idle h.place (bind_reference (fresh_iterator s 0) (element_rule s 1 h ops)))
rule_of_declaration_idle s (makes form h ops) = then_idle (operands_idle s 1 ops) (rule_idle h.place (makes_rule s form ops (table_row h.callee)))

pub declaration_idle : (s : FactScope) (d : Declaration) → IsIdleStep (declaration_step s d)
declaration_idle s d = then_idle (rule_of_declaration_idle s d) (changes_idle (within (after_declaration d s)))

rule_of_condition_idle : (s : FactScope) (k : Cond) → IsIdleFork (condition_rule s k)
rule_of_condition_idle s (read xs) = plain_idle (changes_idle (forget_scalars xs))
rule_of_condition_idle s (not_read xs) = plain_idle (changes_idle (forget_scalars xs))
rule_of_condition_idle s (test e) = (expression_idle s 0 e).test
rule_of_condition_idle s always = record { needs = λ o h. refl; when_true = λ o h. refl; when_false = λ o h. refl }

pub condition_idle : (s : FactScope) (k : Cond) → IsIdleFork (condition s k)
condition_idle s k =
    let i = rule_of_condition_idle s k in
    record {
      needs = i.needs;
      when_true = λ o h. ap (with_facts (within s)) (i.when_true o h);
      when_false = λ o h. ap (with_facts (within s)) (i.when_false o h);
    }
