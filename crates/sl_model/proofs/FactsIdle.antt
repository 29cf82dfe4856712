-- Where no way comes, nothing is needed and nothing is given behind it.
use Rattle.std.proofs.Common.{◌≡◌, ◌∙◌, ℕ, Bool, true, false, Option, Some, None, refl, ap}
use Rattle.std.specs.Prelude.{◌+◌, ◌||◌, ◌&&◌}
use Rattle.sl_syntax.specs.declared.typed.head.Head.{Head}
use Rattle.sl_base.specs.declared.place.Place.{Place}
use Rattle.sl_base.specs.declared.scalar.Scalar.{Scalar}
use Rattle.sl_syntax.specs.declared.typed.step.Fix.{Fix}
use Rattle.sl_syntax.specs.declared.typed.step.Step.{Step as Direction}
use Rattle.sl_syntax.specs.Typed.{Expr, literal, held, iterator, convert, negate, logical_not, logical_and, logical_or, arithmetic, comparison}
use Rattle.sl_syntax.specs.Typed.{increment, move, call, own_call, first, second, container, handed_scalar, Left, scalar, reference, element}
use Rattle.sl_syntax.specs.Typed.{Operands, none, with}
use Rattle.sl_model.specs.Outlines.Facts.{Facts}
use Rattle.sl_model.specs.Outlines.FactRules.{FactRule}
use Rattle.sl_model.specs.Outlines.FactOperands.{FactScope, container_count}
use Rattle.sl_model.specs.Outlines.FactsOfElements.{FactTest, call_test, comparison_test, element_rule, move_rule}
use Rattle.sl_model.specs.Outlines.FactsOfCalls.{call_rule}
use Rattle.sl_model.specs.Outlines.FactsOfIterators.{use_reference}
use Rattle.sl_model.specs.Outlines.FactSteps.{Given, Places, Heads, with_facts, needs_facts, meet, Step, Fork, no_step, changes, rule_step, then_step, test_fork, plain_fork, not_fork}
use Rattle.sl_model.specs.Outlines.FactSteps.{and_fork, or_fork, joined_step}
use Rattle.sl_model.specs.Outlines.FactsOfExpressions.{Reading, Use, read_use, write_use, use_rule, expression, left_side, stepped, operands}
use Rattle.sl_model.specs.Outlines.FactsOfExpressions.{fresh_step, forget_fresh, steps_value, function_step, call_fork, call_reading, plain, forked}

-- a step needs and gives nothing there
pub record IsIdleStep (a : Step) : Type 0 where
  pub needs : (o : Places) (h : Heads) → a.needs o h None ≡ true
  pub gives : (o : Places) (h : Heads) → a.gives o h None ≡ None

-- a test needs nothing there, and gives nothing on either side
pub record IsIdleFork (a : Fork) : Type 0 where
  pub needs : (o : Places) (h : Heads) → a.needs o h None ≡ true
  pub when_true : (o : Places) (h : Heads) → a.when_true o h None ≡ None
  pub when_false : (o : Places) (h : Heads) → a.when_false o h None ≡ None

-- both readings of an expression do
pub record IsIdleReading (a : Reading) : Type 0 where
  pub value : IsIdleStep a.value
  pub test : IsIdleFork a.test

-- an open node, or nothing needed
pub or_true : (b : Bool) → (b || true) ≡ true
or_true true = refl
or_true false = refl

-- two tests hold
pub both_true : {a b : Bool} → a ≡ true → b ≡ true → (a && b) ≡ true
both_true {a} {b} e f = ap (λ x. x && b) e ∙ f

pub no_step_idle : IsIdleStep no_step
no_step_idle = record { needs = λ o h. refl; gives = λ o h. refl }

pub changes_idle : (rule : Facts → Facts) → IsIdleStep (changes rule)
changes_idle rule = record { needs = λ o h. refl; gives = λ o h. refl }

pub rule_idle : (at : Place) (r : FactRule) → IsIdleStep (rule_step at r)
rule_idle at r = record { needs = λ o h. or_true (o at); gives = λ o h. refl }

pub then_idle : {a b : Step} → IsIdleStep a → IsIdleStep b → IsIdleStep (then_step a b)
then_idle {a} {b} i j = record {
  needs = λ o h. both_true (i.needs o h) (ap (λ G. b.needs o h G) (i.gives o h) ∙ j.needs o h);
  gives = λ o h. ap (λ G. b.gives o h G) (i.gives o h) ∙ j.gives o h;
}

pub plain_idle : {a : Step} → IsIdleStep a → IsIdleFork (plain_fork a)
plain_idle i = record { needs = i.needs; when_true = i.gives; when_false = i.gives }

pub test_idle : {a : Step} (at : Place) (r : FactTest) → IsIdleStep a → IsIdleFork (test_fork a at r)
test_idle {a} at r i = record {
  needs = λ o h. both_true (i.needs o h) (ap (λ G. o at || needs_facts r.needs G) (i.gives o h) ∙ or_true (o at));
  when_true = λ o h. ap (with_facts r.when_true) (i.gives o h);
  when_false = λ o h. ap (with_facts r.when_false) (i.gives o h);
}

pub not_idle : {a : Fork} → IsIdleFork a → IsIdleFork (not_fork a)
not_idle i = record { needs = i.needs; when_true = i.when_false; when_false = i.when_true }

-- two ways of which none comes
none_meet : {F G : Given} → F ≡ None → G ≡ None → meet F G ≡ None
none_meet {F} {G} e f = ap (λ x. meet x G) e ∙ f

pub and_idle : {a b : Fork} → IsIdleFork a → IsIdleFork b → IsIdleFork (and_fork a b)
and_idle {a} {b} i j = record {
  needs = λ o h. both_true (i.needs o h) (ap (λ G. b.needs o h G) (i.when_true o h) ∙ j.needs o h);
  when_true = λ o h. ap (λ G. b.when_true o h G) (i.when_true o h) ∙ j.when_true o h;
  when_false = λ o h. none_meet (i.when_false o h) (ap (λ G. b.when_false o h G) (i.when_true o h) ∙ j.when_false o h);
}

pub or_idle : {a b : Fork} → IsIdleFork a → IsIdleFork b → IsIdleFork (or_fork a b)
or_idle {a} {b} i j = record {
  needs = λ o h. both_true (i.needs o h) (ap (λ G. b.needs o h G) (i.when_false o h) ∙ j.needs o h);
  when_true = λ o h. none_meet (i.when_true o h) (ap (λ G. b.when_true o h G) (i.when_false o h) ∙ j.when_true o h);
  when_false = λ o h. ap (λ G. b.when_false o h G) (i.when_false o h) ∙ j.when_false o h;
}

pub joined_idle : {a : Fork} → IsIdleFork a → IsIdleStep (joined_step a)
joined_idle i = record { needs = i.needs; gives = λ o h. none_meet (i.when_true o h) (i.when_false o h) }

-- what is a test in values too
forked_idle : {a : Fork} → IsIdleFork a → IsIdleReading (forked a)
forked_idle i = record { value = joined_idle i; test = i }

-- what tells nothing as a test
plain_reading : {a : Step} → IsIdleStep a → IsIdleReading (plain a)
plain_reading i = record { value = i; test = plain_idle i }

-- a call of a function of the text
function_idle : (s : FactScope) (t f : ℕ) (ops : Operands) → IsIdleStep (function_step s t f ops)
function_idle s t f ops = record { needs = λ o h. refl; gives = λ o h. refl }

-- a call as a test
call_test_idle : (at : Place) {ops value : Step} (r : Option FactTest) → IsIdleStep ops → IsIdleStep value → IsIdleFork (call_fork at ops value r)
call_test_idle at None i j = plain_idle j
call_test_idle at (Some r) i j = test_idle at r i

-- a call of the library
call_idle : (s : FactScope) (t : ℕ) (h : Head) (ops : Operands) {before : Step} → IsIdleStep before → IsIdleReading (call_reading s t h ops before)
call_idle s t h ops i = record {
  value = then_idle i (rule_idle h.place (call_rule s t h ops));
  test = call_test_idle h.place (call_test s (t + 1) h ops) i (then_idle i (rule_idle h.place (call_rule s t h ops)));
}

-- an operand
pub fresh_idle : (s : FactScope) (t : ℕ) {a : Step} → IsIdleStep a → IsIdleStep (fresh_step s t a)
fresh_idle s t i = then_idle (changes_idle (forget_fresh s t)) i

mutual
  unfolding expression left_side stepped operands

  -- an expression needs nothing where no way comes
  pub expression_idle : (s : FactScope) (t : ℕ) (e : Expr) → IsIdleReading (expression s t e)
  expression_idle s t (literal ty z) = plain_reading no_step_idle
  expression_idle s t (held l) = plain_reading (left_idle s t read_use l)
  expression_idle s t (iterator x) = plain_reading no_step_idle
  expression_idle s t (convert ty a) = plain_reading (expression_idle s t a).value
  expression_idle s t (negate ty at a) = plain_reading (expression_idle s t a).value
  expression_idle s t (logical_not at a) = forked_idle (not_idle (expression_idle s t a).test)
  expression_idle s t (logical_and at a b) = forked_idle (and_idle (expression_idle s t a).test (expression_idle s t b).test)
  expression_idle s t (logical_or at a b) = forked_idle (or_idle (expression_idle s t a).test (expression_idle s t b).test)
  expression_idle s t (arithmetic op ty at a b) = plain_reading (then_idle (fresh_idle s (t + 1) (expression_idle s (t + 1) a).value)
      (fresh_idle s (t + 2) (expression_idle s (t + 2) b).value))
  expression_idle s t (comparison op at a b) =
      let both = then_idle (fresh_idle s (t + 1) (expression_idle s (t + 1) a).value) (fresh_idle s (t + 2) (expression_idle s (t + 2) b).value) in
      record { value = both; test = test_idle at (comparison_test op a b) both }
  expression_idle s t (increment step fix ty at l) = plain_reading (stepped_idle s t step fix ty l)
  expression_idle s t (move fix x h ops) = plain_reading (then_idle (operands_idle s (t + 1) ops) (rule_idle h.place (move_rule s t fix x h.callee)))
  expression_idle s t (call h ops) = call_idle s t h ops (operands_idle s (t + 1) ops)
  expression_idle s t (own_call f at ops) = plain_reading (then_idle (operands_idle s (t + 1) ops) (function_idle s (t + 1) f ops))
  expression_idle s t (first at a) = plain_reading (expression_idle s t a).value
  expression_idle s t (second at a) = plain_reading (expression_idle s t a).value
  expression_idle s t (container x) = plain_reading no_step_idle
  expression_idle s t (handed_scalar x) = plain_reading no_step_idle

  -- nor does a left side
  pub left_idle : (s : FactScope) (t : ℕ) (how : Use) (l : Left) → IsIdleStep (left_side s t how l)
  left_idle s t how (scalar x at) = no_step_idle
  left_idle s t how (reference r at name part) = rule_idle at (use_rule how (use_reference (container_count s) r))
  left_idle s t how (element h ops) = then_idle (operands_idle s (t + 1) ops) (rule_idle h.place (use_rule how (element_rule s (t + 1) h ops)))

  -- nor a step of a number
  pub stepped_idle : (s : FactScope) (t : ℕ) (step : Direction) (fix : Fix) (ty : Scalar) (l : Left) → IsIdleStep (stepped s t step fix ty l)
  stepped_idle s t step fix ty (scalar x at) = changes_idle (steps_value s t step fix ty x)
  stepped_idle s t step fix ty (reference r at name part) = rule_idle at (use_rule write_use (use_reference (container_count s) r))
  stepped_idle s t step fix ty (element h ops) =
      then_idle (operands_idle s (t + 1) ops) (rule_idle h.place (use_rule write_use (element_rule s (t + 1) h ops)))

  -- nor operands
  pub operands_idle : (s : FactScope) (t : ℕ) (ops : Operands) → IsIdleStep (operands s t ops)
  operands_idle s t none = no_step_idle
  operands_idle s t (with a rest) = then_idle (fresh_idle s t (expression_idle s t a).value) (operands_idle s (t + 1) rest)
