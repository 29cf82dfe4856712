-- Each statement that uses what is in scope keeps a state good, and it keeps the level, or a declaration adds what it declares.
use Rattle.std.proofs.Common.{◌≡◌, ℕ, suc, ◌+◌, ◌<◌, Some, None, length, refl, ap, sym, subst, arith}
use Rattle.std.specs.Prelude.{unwrap_or}
use Rattle.sl_base.specs.declared.scalar.Scalar.TheVariants as t
use Rattle.sl_syntax.specs.declared.typed.element.Taken.TheVariants as taken
use Rattle.sl_syntax.specs.Typed.{Stmt, block, declares, choice, choice_else, while, for, range_for, break, continue, gives_back, does, Stmts}
use Rattle.sl_syntax.specs.Typed.{no_more, followed}
use Rattle.sl_model.specs.LibraryCalls.Values.{nothing}
use Rattle.sl_model.specs.Runs.State.{State, cont_of, new_scalar}
use Rattle.sl_model.specs.Runs.Eval.{World, eval}
use Rattle.sl_model.specs.Runs.Exec.{Flow, Next, Broke, Continued, Returned, Meaning, and_then, flow_of, either_way, scoped, tested, affect, declared}
use Rattle.sl_model.specs.Runs.Exec.{begun, ended, loop, takes_number, takes_element, over_range, range_start, exec, exec_all}
use Rattle.sl_model.specs.Typing.Shapes.{Shape, a_value, Signature, HasShape, gift_of}
use Rattle.sl_model.specs.Typing.Scoped.{Counts, InCond, InLast, IsPart, with_stmt, InStmt, InStmts}
use Rattle.sl_model.proofs.Levels.{Level, counts_of, Now, Above, now_above}
use Rattle.sl_model.proofs.Gifts.{KeepsGood, OwnKeepsGood, gave_as}
use Rattle.sl_model.proofs.GoodEval.{at_eval}
use Rattle.sl_model.proofs.GoodFlow.{FlowIn, widened, flow_then, flow_value, flow_either, flow_tick, flow_turns, flow_scope}
use Rattle.sl_model.proofs.GoodEffects.{level_declared, level_begun, counts_declared, counts_begun, declared_above, begun_above, at_tested, at_affect}
use Rattle.sl_model.proofs.GoodEffects.{at_declared, at_begun, at_ended}
use Rattle.sl_model.proofs.GoodRange.{level_hidden, level_range, counts_range, hidden_above, numbered_above, range-now, numbered-now}
use Rattle.sl_model.proofs.GoodRange.{at_takes_number, at_takes_element, at_range}

-- the level after a statement
abbrev pub level_after : Stmt → Level → Level
level_after (declares d) L = level_declared d L
level_after a L = L

-- what is in scope after a statement
counts_after : (a : Stmt) (L : Level) → counts_of (level_after a L).frame ≡ with_stmt a (counts_of L.frame)
counts_after (block site all) L = refl
counts_after (declares d) L = counts_declared d L
counts_after (choice k a) L = refl
counts_after (choice_else k a b) L = refl
counts_after (while l k a) L = refl
counts_after (for l head k last a) L = refl
counts_after (range_for l how x at name a) L = refl
counts_after break L = refl
counts_after continue L = refl
counts_after (gives_back a) L = refl
counts_after (does e) L = refl

-- stacks that are as high as after a statement are as high as before it
pub after_above : (a : Stmt) (L : Level) (n : ℕ) (s : State) → Above (level_after a L) n s → Above L n s
after_above (block site all) L n s h = h
after_above (declares d) L n s h = declared_above d L n s h
after_above (choice k a) L n s h = h
after_above (choice_else k a b) L n s h = h
after_above (while l k a) L n s h = h
after_above (for l head k last a) L n s h = h
after_above (range_for l how x at name a) L n s h = h
after_above break L n s h = h
after_above continue L n s h = h
after_above (gives_back a) L n s h = h
after_above (does e) L n s h = h

-- what a statement leaves at a level
abbrev pub StmtAt : Shape → Level → ℕ → Stmt → Flow → Type 0
StmtAt shape L n a w = FlowIn shape L n (Now (level_after a L) n) (Now L n) w

-- a part of a statement stays at the level
pub part_stays : (shape : Shape) (L : Level) (n : ℕ) (a : Stmt) (w : Flow) → IsPart a → StmtAt shape L n a w → FlowIn shape L n (Now L n) (Now L n) w
part_stays shape L n (block site all) w p h = h
part_stays shape L n (declares d) w p h = absurd p
part_stays shape L n (choice k a) w p h = h
part_stays shape L n (choice_else k a b) w p h = h
part_stays shape L n (while l k a) w p h = h
part_stays shape L n (for l head k last a) w p h = h
part_stays shape L n (range_for l how x at name a) w p h = h
part_stays shape L n break w p h = h
part_stays shape L n continue w p h = h
part_stays shape L n (gives_back a) w p h = h
part_stays shape L n (does e) w p h = h

module _ (w : World) (g : Signature) (lib_keeps : KeepsGood g.shape g.makes w.lib) (own_keeps : OwnKeepsGood g w) (shape : Shape) (n : ℕ) where
  -- the end of a scope
  scope_from : (site : ℕ) (start : State) (f : Flow) (L M : Level) → ((s : State) → Above M n s → Above L n s) → Now L n start
      → FlowIn shape M n (Now M n) (Now M n) f → FlowIn shape L n (Now L n) (Now L n) (scoped site start f)
  scope_from site start f L M above h i =
      flow_scope shape L n site start f h (widened shape M L n (Now M n) (Now M n) (Above L n) (Above L n) f (λ s j. above s (now_above M n s j))
      (λ s j. above s (now_above M n s j)) above i)

  -- the first part of a `for` and its loop
  head_and_loop : (L M : Level) (f : Flow) (go : Meaning) → ((s : State) → Above M n s → Above L n s) → FlowIn shape L n (Now M n) (Now L n) f
      → ((s : State) → Now M n s → FlowIn shape M n (Now M n) (Now M n) (go s)) → FlowIn shape L n (Above L n) (Above L n) (and_then f go)
  head_and_loop L M f go above h k = flow_then shape L n (Now M n) (Above L n) (Above L n) f go
      (widened shape L L n (Now M n) (Now L n) (Now M n) (Above L n) f (λ s j. j) (λ s j. now_above L n s j) (λ s j. j) h)
      (λ s j. widened shape M L n (Now M n) (Now M n) (Above L n) (Above L n) (go s) (λ t l. above t (now_above M n t l))
      (λ t l. above t (now_above M n t l)) above (k s j))

  -- the first hidden iterator of a range-for is in scope
  pub first_hidden : (L : Level) (s : State) → Now L n s → length s.iters < (level_hidden L).iters
  first_hidden L s h = let e : length s.iters ≡ L.iters = ap (λ (l : Level). l.iters) h.level in omega arith

  -- and so is the second one
  pub second_hidden : (L : Level) (s : State) → Now L n s → length s.iters + 1 < (level_hidden L).iters
  second_hidden L s h = let e : length s.iters ≡ L.iters = ap (λ (l : Level). l.iters) h.level in omega arith

  mutual
    -- each statement
    pub at_exec : (a : Stmt) (L : Level) (s : State) → InStmt g shape (counts_of L.frame) a → Now L n s → StmtAt shape L n a (exec w a s)
    at_exec (block site all) L s i h = flow_scope shape L n (unwrap_or site 0) s (exec_all w all s) h (at_exec_all all L s i h)
    at_exec (declares d) L s i h =
        flow_tick shape L n (Now (level_declared d L) n) (Now L n) (declared w d) (λ s j. at_declared w g lib_keeps own_keeps shape L n d s i j) s h
    at_exec (choice k a) L s i h = flow_tick shape L n (Now L n) (Now L n) (λ s. tested w k s (λ v. either_way v (exec w a) Next))
        (at_tested w g lib_keeps own_keeps shape L n k i.0 (λ v. either_way v (exec w a) Next)
        (λ v. flow_either shape L n (Now L n) (Now L n) v (exec w a) Next (λ s j. part_stays shape L n a (exec w a s) i.1.0 (at_exec a L s i.1.1 j))
        (λ s j. j))) s h
    at_exec (choice_else k a b) L s i h = flow_tick shape L n (Now L n) (Now L n) (λ s. tested w k s (λ v. either_way v (exec w a) (exec w b)))
        (at_tested w g lib_keeps own_keeps shape L n k i.0 (λ v. either_way v (exec w a) (exec w b))
        (λ v. flow_either shape L n (Now L n) (Now L n) v (exec w a) (exec w b)
        (λ s j. part_stays shape L n a (exec w a s) i.1.0.0 (at_exec a L s i.1.0.1 j))
        (λ s j. part_stays shape L n b (exec w b s) i.1.1.0 (at_exec b L s i.1.1.1 j)))) s h
    at_exec (while number k a) L s i h = flow_tick shape L n (Now L n) (Now L n) (loop (tested w k) (exec w a) Next)
        (λ s j. flow_turns shape L n (suc s.steps) (tested w k) (exec w a) Next (at_tested w g lib_keeps own_keeps shape L n k i.0)
        (λ s l. part_stays shape L n a (exec w a s) i.1.0 (at_exec a L s i.1.1 l)) (λ s l. l) s j) s h
    at_exec (for number head k last a) L s i h =
        flow_tick shape L n (Now L n) (Now L n) (λ s. scoped 0 s (and_then (begun w head s) (loop (tested w k) (exec w a) (ended w last))))
        (λ s j. flow_scope shape L n 0 s (and_then (begun w head s) (loop (tested w k) (exec w a) (ended w last))) j
        (head_and_loop L (level_begun head L) (begun w head s) (loop (tested w k) (exec w a) (ended w last)) (begun_above head L n)
        (at_begun w g lib_keeps own_keeps shape L n head s i.0 j)
        (λ s l. flow_turns shape (level_begun head L) n (suc s.steps) (tested w k) (exec w a) (ended w last)
        (at_tested w g lib_keeps own_keeps shape (level_begun head L) n k (subst (λ (c : Counts). InCond g c k) (sym (counts_begun head L)) i.1.0))
        (λ s q. part_stays shape (level_begun head L) n a (exec w a s) i.1.1.1.0
        (at_exec a (level_begun head L) s (subst (λ (c : Counts). InStmt g shape c a) (sym (counts_begun head L)) i.1.1.1.1) q))
        (λ s q. at_ended w g lib_keeps own_keeps shape (level_begun head L) n last s
        (subst (λ (c : Counts). InLast g c last) (sym (counts_begun head L)) i.1.1.0) q)
        s l))) s h
    at_exec (range_for number taken.Value x at name a) L s i h =
        flow_tick shape L n (Now L n) (Now L n)
        (λ s. scoped 0 s (over_range w at name (length s.iters) (length s.iters + 1) (takes_number at (length s.scalars) (exec w a))
        (new_scalar t.Int None (range_start (cont_of s x) s))))
        (λ s j. scope_from 0 s (over_range w at name (length s.iters) (length s.iters + 1) (takes_number at (length s.scalars) (exec w a))
        (new_scalar t.Int None (range_start (cont_of s x) s))) L (level_range taken.Value L) (numbered_above L n) j
        (at_range w g lib_keeps shape (level_range taken.Value L) n at name (length s.iters) (length s.iters + 1)
        (takes_number at (length s.scalars) (exec w a)) (first_hidden L s j) (second_hidden L s j) i.1.0
        (at_takes_number shape (level_range taken.Value L) n at (length s.scalars) (exec w a)
        (λ s l. part_stays shape (level_range taken.Value L) n a (exec w a s) i.1.1.0
        (at_exec a (level_range taken.Value L) s (subst (λ (c : Counts). InStmt g shape c a) (sym (counts_range taken.Value L)) i.1.1.1) l)))
        (new_scalar t.Int None (range_start (cont_of s x) s)) (numbered-now L n x s i.0 j))) s h
    at_exec (range_for number taken.Reference x at name a) L s i h =
        flow_tick shape L n (Now L n) (Now L n)
        (λ s. scoped 0 s (over_range w at name (length s.iters) (length s.iters + 1) (takes_element at (exec w a))
        (range_start (cont_of s x) s)))
        (λ s j. scope_from 0 s (over_range w at name (length s.iters) (length s.iters + 1) (takes_element at (exec w a))
        (range_start (cont_of s x) s)) L (level_hidden L) (hidden_above L n) j
        (at_range w g lib_keeps shape (level_hidden L) n at name (length s.iters) (length s.iters + 1) (takes_element at (exec w a))
        (first_hidden L s j) (second_hidden L s j) i.1.0
        (at_takes_element shape (level_hidden L) n at (exec w a)
        (λ s l. part_stays shape (level_range taken.Reference L) n a (exec w a s) i.1.1.0
        (at_exec a (level_range taken.Reference L) s (subst (λ (c : Counts). InStmt g shape c a) (sym (counts_range taken.Reference L)) i.1.1.1) l)))
        (range_start (cont_of s x) s) (range-now L n x s i.0 j))) s h
    at_exec break L s i h = flow_tick shape L n (Now L n) (Now L n) Broke (λ s j. j) s h
    at_exec continue L s i h = flow_tick shape L n (Now L n) (Now L n) Continued (λ s j. j) s h
    at_exec (gives_back None) L s i h =
        flow_tick shape L n (Now L n) (Now L n) (Returned nothing) (λ s j. (j, (subst (λ (x : Shape). HasShape x nothing) (sym i) tt, tt))) s h
    at_exec (gives_back (Some a)) L s i h = flow_tick shape L n (Now L n) (Now L n) (λ s. flow_of (eval w a s) Returned)
        (λ s j. flow_value shape L n (Now L n) (Now L n) (gift_of g a) (eval w a s) Returned (at_eval w g lib_keeps own_keeps L a n s i.1 j)
        (λ v s l. (l.now, ((gave_as L n (gift_of g a) (a_value shape) v s i.0 l).given, l.used)))) s h
    at_exec (does e) L s i h = flow_tick shape L n (Now L n) (Now L n) (affect w e) (λ s j. at_affect w g lib_keeps own_keeps shape L n e s i j) s h

    -- statements in turn
    pub at_exec_all : (all : Stmts) (L : Level) (s : State) → InStmts g shape (counts_of L.frame) all → Now L n s
        → FlowIn shape L n (Above L n) (Above L n) (exec_all w all s)
    at_exec_all no_more L s i h = now_above L n s h
    at_exec_all (followed a rest) L s i h = flow_then shape L n (Now (level_after a L) n) (Above L n) (Above L n) (exec w a s) (exec_all w rest)
        (widened shape L L n (Now (level_after a L) n) (Now L n) (Now (level_after a L) n) (Above L n) (exec w a s) (λ s j. j)
        (λ s j. now_above L n s j) (λ s j. j) (at_exec a L s i.0 h))
        (λ s j. widened shape (level_after a L) L n (Above (level_after a L) n) (Above (level_after a L) n) (Above L n) (Above L n)
        (exec_all w rest s) (after_above a L n) (after_above a L n) (after_above a L n)
        (at_exec_all rest (level_after a L) s (subst (λ (c : Counts). InStmts g shape c rest) (sym (counts_after a L)) i.1) j))
