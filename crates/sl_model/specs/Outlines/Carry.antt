-- How the facts of an outline are carried through the statements of a text: one reading for each statement, folded over the tree.
--
-- Restates ISO/IEC 14882:2017, [stmt.select], [stmt.while], [stmt.for], [stmt.ranged], [stmt.break], [stmt.cont] and [stmt.return]: where
-- control goes.
-- Chosen here: the facts before a loop give its head's list, and so do those behind its body and each `continue`, carried through its
-- last part; behind it stand the facts that the false test from the head and each `break` give. Where no way comes, every need is given;
-- but a form that has no rule may not stand there either.
use Rattle.std.specs.Prelude.{ℕ, ◌+◌, ◌==◌, Bool, true, false, not, ◌&&◌, ◌||◌, length, Option, Some, None}
use Rattle.sl_base.specs.declared.form.Form.{Form}
use Rattle.sl_base.specs.declared.form.Form.TheVariants as f
use Rattle.sl_base.specs.declared.place.Place.{Place}
use Rattle.sl_syntax.specs.declared.typed.element.Taken.{Taken}
use Rattle.sl_syntax.specs.declared.typed.element.Taken.TheVariants as taken
use Rattle.sl_syntax.specs.Typed.{Expr, Effect, First, no_first, declares_first, does_first, Stmt, block, declares, choice, choice_else, while}
use Rattle.sl_syntax.specs.Typed.{for, range_for, break, continue, gives_back, does, Stmts, no_more, followed}
use Rattle.sl_model.specs.Outlines.Facts.{Facts}
use Rattle.sl_model.specs.Outlines.FactRules.{bound}
use Rattle.sl_model.specs.Outlines.FactOperands.{FactScope, form_at}
use Rattle.sl_model.specs.Outlines.FactSteps.{Given, Places, Heads, with_facts, needs_facts, meet, head_list, listed, covers, Step, Fork, no_step}
use Rattle.sl_model.specs.Outlines.FactScopes.{within, after_first, after_stmt, in_range_for, speaks}
use Rattle.sl_model.specs.Outlines.FactsOfEffects.{evaluation, effect_step, declaration_step, condition}
use Rattle.sl_model.specs.Outlines.RangeUses.{leaves_in_stmt}

-- what is given on each way out of a statement
pub record Ways : Type 0 where
  pub next : Given
  pub broke : Given
  pub continued : Given
  pub returned : Given

-- What is read of a statement: whether each form in it has a rule or an open place, and the lists of its loops speak of what is in
-- scope; whether what it needs is given; and what it gives.
pub record Carry : Type 0 where
  pub allowed : Places → Heads → Bool
  pub needs : Places → Heads → Given → Bool
  pub gives : Places → Heads → Given → Ways

-- it goes on
abbrev pub goes_on : Given → Ways
goes_on G = record { next = G; broke = None; continued = None; returned = None }

-- what two statements give where their ways meet
abbrev pub meet_ways : Ways → Ways → Ways
meet_ways a b = record {
  next = meet a.next b.next;
  broke = meet a.broke b.broke;
  continued = meet a.continued b.continued;
  returned = meet a.returned b.returned;
}

-- what is given on each way changes
abbrev pub on_each_way : (Facts → Facts) → Ways → Ways
on_each_way rule a = record {
  next = with_facts rule a.next;
  broke = with_facts rule a.broke;
  continued = with_facts rule a.continued;
  returned = with_facts rule a.returned;
}

-- nothing stands in it that may be wrong
abbrev pub always_allowed : Places → Heads → Bool
always_allowed o h = true

-- nothing is done
abbrev pub no_carry : Carry
no_carry = record { allowed = always_allowed; needs = λ o h G. true; gives = λ o h G. goes_on G }

-- a step
abbrev pub step_carry : Step → Carry
step_carry a = record { allowed = λ o h. a.allowed o; needs = a.needs; gives = λ o h G. goes_on (a.gives o h G) }

-- `break`
abbrev pub break_carry : Carry
break_carry = record {
  allowed = always_allowed;
  needs = λ o h G. true;
  gives = λ o h G. record { next = None; broke = G; continued = None; returned = None };
}

-- `continue`
abbrev pub continue_carry : Carry
continue_carry = record {
  allowed = always_allowed;
  needs = λ o h G. true;
  gives = λ o h G. record { next = None; broke = None; continued = G; returned = None };
}

-- `return`, behind the value that it gives back
abbrev pub return_carry : Step → Carry
return_carry a = record {
  allowed = λ o h. a.allowed o;
  needs = a.needs;
  gives = λ o h G. record { next = None; broke = None; continued = None; returned = a.gives o h G };
}

-- one statement, whose ways out are these, and then another
abbrev pub then_ways : Ways → Ways → Ways
then_ways a b = record {
  next = b.next;
  broke = meet a.broke b.broke;
  continued = meet a.continued b.continued;
  returned = meet a.returned b.returned;
}

-- one statement and then another
abbrev pub then_carry : Carry → Carry → Carry
then_carry a b = record {
  allowed = λ o h. a.allowed o h && b.allowed o h;
  needs = λ o h G. a.needs o h G && b.needs o h (a.gives o h G).next;
  gives = λ o h G. let first = a.gives o h G in then_ways first (b.gives o h first.next);
}

-- the end of a scope: the facts on what ends are dropped on each way
abbrev pub leave : FactScope → Carry → Carry
leave s a = record { allowed = a.allowed; needs = a.needs; gives = λ o h G. on_each_way (within s) (a.gives o h G) }

-- one of two statements
abbrev pub choice_carry : Fork → Carry → Carry → Carry
choice_carry k a b = record {
  allowed = λ o h. k.allowed o && (a.allowed o h && b.allowed o h);
  needs = λ o h G. k.needs o h G && (a.needs o h (k.when_true o h G) && b.needs o h (k.when_false o h G));
  gives = λ o h G. meet_ways (a.gives o h (k.when_true o h G)) (b.gives o h (k.when_false o h G));
}

-- the ways out of a loop
abbrev pub out_of_loop : Given → Ways → Ways
out_of_loop ends turn = record { next = meet ends turn.broke; broke = None; continued = None; returned = turn.returned }

-- a loop with its number: the test from its head's list, its body, and the last part of each turn
abbrev pub loop_carry : FactScope → ℕ → Fork → Step → Carry → Carry
loop_carry s n k last a = record {
  allowed = λ o h. speaks s (h.loops n) && (k.allowed o && (last.allowed o && a.allowed o h));
  needs = λ o h G.
      let l = head_list (h.loops n) G in
      let turn = a.gives o h (k.when_true o h (listed l)) in
      covers G l && (k.needs o h (listed l) && (a.needs o h (k.when_true o h (listed l))
      && (last.needs o h (meet turn.next turn.continued) && covers (last.gives o h (meet turn.next turn.continued)) l)));
  gives = λ o h G.
      let l = head_list (h.loops n) G in
      out_of_loop (k.when_false o h (listed l)) (a.gives o h (k.when_true o h (listed l)));
}

-- the form has keys and values
abbrev pub has_values : Option Form → Bool
has_values (Some f.Map) = true
has_values (Some f.HashMap) = true
has_values (Some f.MultiMap) = true
has_values form = false

-- `[]` may stand on the container in the body
abbrev pub may_index : Taken → Option Form → Bool
may_index taken.Value form = true
may_index taken.Reference form = not (has_values form)

-- the body of a range-for over x leaves x's elements where they are
abbrev pub leaves_elements : FactScope → Taken → ℕ → Stmt → Bool
leaves_elements s k x a = leaves_in_stmt (record { container = x; text = s.text; may_index = may_index k (form_at s x) }) a

-- at the start of each turn a reference is to an element of x, if the body leaves the elements where they are
abbrev pub at_turn : FactScope → Taken → ℕ → Bool → Facts → Facts
at_turn s taken.Value x stays F = F
at_turn s taken.Reference x true F = bound (length s.iterators + 2) (λ d. d == x) F
at_turn s taken.Reference x false F = F

-- `range_for` and `range_for_reference`: the body leaves the elements where they are, or the range-for's place is open
abbrev pub range_carry : FactScope → ℕ → Place → Bool → (Facts → Facts) → Carry → Carry
range_carry s n at stays start a = record {
  allowed = λ o h. speaks s (h.loops n) && ((o at || stays) && a.allowed o h);
  needs = λ o h G.
      let l = head_list (h.loops n) G in
      let turn = a.gives o h (with_facts start (listed l)) in
      covers G l && ((o at || needs_facts (λ F. stays) G) && (a.needs o h (with_facts start (listed l)) && covers (meet turn.next turn.continued) l));
  gives = λ o h G.
      let l = head_list (h.loops n) G in
      out_of_loop (listed l) (a.gives o h (with_facts start (listed l)));
}

-- the first part of a `for`
abbrev pub first_step : FactScope → First → Step
first_step s no_first = no_step
first_step s (declares_first d) = declaration_step s d
first_step s (does_first e) = effect_step s e

-- its last part
abbrev pub last_step : FactScope → Option Effect → Step
last_step s None = no_step
last_step s (Some e) = effect_step s e

-- the value that a `return` gives back
abbrev pub result_step : FactScope → Option Expr → Step
result_step s None = no_step
result_step s (Some e) = evaluation s e

unfoldable mutual
  -- a statement, in this scope
  pub carry : FactScope → Stmt → Carry
  carry s (block site all) = leave s (carry_all s no_carry all)
  carry s (declares d) = step_carry (declaration_step s d)
  carry s (choice k a) = choice_carry (condition s k) (carry s a) no_carry
  carry s (choice_else k a b) = choice_carry (condition s k) (carry s a) (carry s b)
  carry s (while n k a) = loop_carry s n (condition s k) no_step (carry s a)
  carry s (for n head k last a) =
      let inner = after_first head s in
      leave s (then_carry (step_carry (first_step s head))
      (loop_carry inner n (condition inner k) (last_step inner last) (carry inner a)))
  carry s (range_for n k x at name a) =
      let stays = leaves_elements s k x a in
      range_carry s n at stays (at_turn s k x stays) (leave s (carry (in_range_for k x s) a))
  carry s break = break_carry
  carry s continue = continue_carry
  carry s (gives_back e) = return_carry (result_step s e)
  carry s (does e) = step_carry (effect_step s e)

  -- statements in turn, behind one that is read already
  pub carry_all : FactScope → Carry → Stmts → Carry
  carry_all s before no_more = before
  carry_all s before (followed a rest) = carry_all (after_stmt a s) (then_carry before (carry s a)) rest
