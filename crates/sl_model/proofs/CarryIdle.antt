-- A statement to which no way comes needs nothing, and gives nothing on any way out.
use Rattle.std.proofs.Common.{◌≡◌, ◌∙◌, ℕ, Bool, true, Option, Some, None, refl, ap}
use Rattle.sl_base.specs.declared.place.Place.{Place}
use Rattle.sl_syntax.specs.Typed.{Expr, Effect, First, no_first, declares_first, does_first, Stmt, block, declares, choice, choice_else, while}
use Rattle.sl_syntax.specs.Typed.{for, range_for, break, continue, gives_back, does, Stmts, no_more, followed}
use Rattle.sl_model.specs.Outlines.Facts.{Facts}
use Rattle.sl_model.specs.Outlines.FactOperands.{FactScope}
use Rattle.sl_model.specs.Outlines.FactSteps.{Given, Places, Heads, meet, covers, Step, Fork}
use Rattle.sl_model.specs.Outlines.FactScopes.{within, after_first, after_stmt, in_range_for}
use Rattle.sl_model.specs.Outlines.Carry.{Ways, Carry, goes_on, meet_ways, on_each_way, no_carry, step_carry, break_carry, continue_carry, return_carry}
use Rattle.sl_model.specs.Outlines.Carry.{then_ways, then_carry, leave, choice_carry, out_of_loop, loop_carry, leaves_elements, at_turn, range_carry, first_step}
use Rattle.sl_model.specs.Outlines.Carry.{last_step, result_step, carry, carry_all}
use Rattle.sl_model.proofs.FactsIdle.{IsIdleStep, IsIdleFork, or_true, both_true, no_step_idle}
use Rattle.sl_model.proofs.EffectsIdle.{evaluation_idle, effect_idle, declaration_idle, condition_idle}

-- a statement needs nothing there, and gives nothing on any way
pub record IsIdle (a : Carry) : Type 0 where
  pub needs : (o : Places) (h : Heads) → a.needs o h None ≡ true
  pub gives : (o : Places) (h : Heads) → a.gives o h None ≡ goes_on None

no_carry_idle : IsIdle no_carry
no_carry_idle = record { needs = λ o h. refl; gives = λ o h. refl }

break_idle : IsIdle break_carry
break_idle = record { needs = λ o h. refl; gives = λ o h. refl }

continue_idle : IsIdle continue_carry
continue_idle = record { needs = λ o h. refl; gives = λ o h. refl }

step_idle : {a : Step} → IsIdleStep a → IsIdle (step_carry a)
step_idle i = record { needs = i.needs; gives = λ o h. ap goes_on (i.gives o h) }

-- it returns
abbrev returns : Given → Ways
returns G = record { next = None; broke = None; continued = None; returned = G }

return_idle : {a : Step} → IsIdleStep a → IsIdle (return_carry a)
return_idle i = record { needs = i.needs; gives = λ o h. ap returns (i.gives o h) }

-- what two tests ask, where what is given is the same
then_idle : {a b : Carry} → IsIdle a → IsIdle b → IsIdle (then_carry a b)
then_idle {a} {b} i j = record {
  needs = λ o h. both_true (i.needs o h) (ap (λ (w : Ways). b.needs o h w.next) (i.gives o h) ∙ j.needs o h);
  gives = λ o h. ap (λ (w : Ways). then_ways w (b.gives o h w.next)) (i.gives o h) ∙ ap (then_ways (goes_on None)) (j.gives o h);
}

leave_idle : (s : FactScope) {a : Carry} → IsIdle a → IsIdle (leave s a)
leave_idle s i = record { needs = i.needs; gives = λ o h. ap (on_each_way (within s)) (i.gives o h) }

choice_idle : {k : Fork} {a b : Carry} → IsIdleFork k → IsIdle a → IsIdle b → IsIdle (choice_carry k a b)
choice_idle {k} {a} {b} c i j = record {
  needs = λ o h. both_true (c.needs o h) (both_true (ap (λ G. a.needs o h G) (c.when_true o h) ∙ i.needs o h)
      (ap (λ G. b.needs o h G) (c.when_false o h) ∙ j.needs o h));
  gives = λ o h.
      let e : a.gives o h (k.when_true o h None) ≡ goes_on None = ap (λ G. a.gives o h G) (c.when_true o h) ∙ i.gives o h in
      let f : b.gives o h (k.when_false o h None) ≡ goes_on None = ap (λ G. b.gives o h G) (c.when_false o h) ∙ j.gives o h in
      ap (λ w. meet_ways w (b.gives o h (k.when_false o h None))) e ∙ ap (meet_ways (goes_on None)) f;
}

loop_idle : (s : FactScope) (n : ℕ) {k : Fork} {last : Step} {a : Carry} → IsIdleFork k → IsIdleStep last → IsIdle a → IsIdle (loop_carry s n k last a)
loop_idle s n {k} {last} {a} c l i = record {
  needs = λ o h.
      let e : a.gives o h (k.when_true o h None) ≡ goes_on None = ap (λ G. a.gives o h G) (c.when_true o h) ∙ i.gives o h in
      both_true (c.needs o h) (both_true (ap (λ G. a.needs o h G) (c.when_true o h) ∙ i.needs o h)
      (both_true (ap (λ (w : Ways). last.needs o h (meet w.next w.continued)) e ∙ l.needs o h)
      (ap (λ (w : Ways). covers (last.gives o h (meet w.next w.continued)) None) e ∙ ap (λ G. covers G None) (l.gives o h))));
  gives = λ o h.
      let e : a.gives o h (k.when_true o h None) ≡ goes_on None = ap (λ G. a.gives o h G) (c.when_true o h) ∙ i.gives o h in
      ap (λ w. out_of_loop (k.when_false o h None) w) e ∙ ap (λ G. out_of_loop G (goes_on None)) (c.when_false o h);
}

range_idle : (s : FactScope) (n : ℕ) (at : Place) (stays : Bool) (start : Facts → Facts) {a : Carry} → IsIdle a → IsIdle (range_carry s n at stays start a)
range_idle s n at stays start {a} i = record {
  needs = λ o h. both_true (or_true (o at)) (both_true (i.needs o h) (ap (λ (w : Ways). covers (meet w.next w.continued) None) (i.gives o h)));
  gives = λ o h. ap (out_of_loop None) (i.gives o h);
}

first_idle : (s : FactScope) (f : First) → IsIdleStep (first_step s f)
first_idle s no_first = no_step_idle
first_idle s (declares_first d) = declaration_idle s d
first_idle s (does_first e) = effect_idle s e

last_idle : (s : FactScope) (e : Option Effect) → IsIdleStep (last_step s e)
last_idle s None = no_step_idle
last_idle s (Some e) = effect_idle s e

result_idle : (s : FactScope) (e : Option Expr) → IsIdleStep (result_step s e)
result_idle s None = no_step_idle
result_idle s (Some e) = evaluation_idle s e

mutual
  unfolding carry carry_all

  -- a statement to which no way comes
  pub carry_idle : (s : FactScope) (a : Stmt) → IsIdle (carry s a)
  carry_idle s (block site all) = leave_idle s (carry_all_idle s no_carry all no_carry_idle)
  carry_idle s (declares d) = step_idle (declaration_idle s d)
  carry_idle s (choice k a) = choice_idle (condition_idle s k) (carry_idle s a) no_carry_idle
  carry_idle s (choice_else k a b) = choice_idle (condition_idle s k) (carry_idle s a) (carry_idle s b)
  carry_idle s (while n k a) = loop_idle s n (condition_idle s k) no_step_idle (carry_idle s a)
  carry_idle s (for n head k last a) = leave_idle s (then_idle (step_idle (first_idle s head))
      (loop_idle (after_first head s) n (condition_idle (after_first head s) k) (last_idle (after_first head s) last) (carry_idle (after_first head s) a)))
  carry_idle s (range_for n k x at name a) = range_idle s n at (leaves_elements s k x a) (at_turn s k x (leaves_elements s k x a))
      (leave_idle s (carry_idle (in_range_for k x s) a))
  carry_idle s break = break_idle
  carry_idle s continue = continue_idle
  carry_idle s (gives_back e) = return_idle (result_idle s e)
  carry_idle s (does e) = step_idle (effect_idle s e)

  -- statements behind one that is read already
  pub carry_all_idle : (s : FactScope) (before : Carry) (all : Stmts) → IsIdle before → IsIdle (carry_all s before all)
  carry_all_idle s before no_more i = i
  carry_all_idle s before (followed a rest) i = carry_all_idle (after_stmt a s) (then_carry before (carry s a)) rest (then_idle i (carry_idle s a))
