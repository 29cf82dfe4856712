-- What holds of all states of a run: in a scoped text, each expression, statement and call leaves a good state, over any library
-- that keeps states good, and so does a run over the library that is there.
use Rattle.std.proofs.Common.{◌≡◌, ℕ, Bool, Some, List, [], refl, subst, sym, arith}
use Rattle.std.specs.Prelude.{ℤ, slice_get}
use Rattle.sl_base.specs.declared.limits.TheConstants.{CALLS}
use Rattle.sl_base.specs.declared.place.Place.{Place}
use Rattle.sl_syntax.specs.declared.typed.callee.Callee.{Callee}
use Rattle.sl_syntax.specs.declared.typed.parameter.ParameterKind.{ParameterKind}
use Rattle.sl_syntax.specs.Typed.{Expr, Stmt, Stmts, Typed, Function}
use Rattle.sl_model.specs.LibraryCalls.Values.{Value, Lib}
use Rattle.sl_model.specs.LibraryCalls.Library.{lib}
use Rattle.sl_model.specs.Runs.State.{State}
use Rattle.sl_model.specs.Runs.Eval.{Out, Gives, Stops, World, call_own, eval}
use Rattle.sl_model.specs.Runs.Exec.{Flow, Next, Broke, Continued, Returned, Over, exec, exec_all}
use Rattle.sl_model.specs.Runs.Calls.{world_of, call_of}
use Rattle.sl_model.specs.Runs.Run.{empty_state, first_place, out_of, end_state, main_out}
use Rattle.sl_model.specs.Runs.Good.{AreApart, IsGood}
use Rattle.sl_model.specs.Typing.Shapes.{Shape, Gift, a_value, Signature, shape_of_result, gift_of, AllSuit, containers_in, lib_shape, lib_makes}
use Rattle.sl_model.specs.Typing.Scoped.{InExpr, InStmt, InStmts, IsScoped}
use Rattle.sl_model.proofs.RunSound.{empty-sound}
use Rattle.sl_model.proofs.Locations.{below_none, apart_none}
use Rattle.sl_model.proofs.Levels.{Level, level_of, counts_of, Now, Above}
use Rattle.sl_model.proofs.Gifts.{AllUsed, AllGiven, KeepsGood, OwnKeepsGood, OutAt}
use Rattle.sl_model.proofs.GoodEval.{at_eval}
use Rattle.sl_model.proofs.GoodFlow.{FlowIn}
use Rattle.sl_model.proofs.GoodExec.{StmtAt, level_after, at_exec, at_exec_all}
use Rattle.sl_model.proofs.GoodCalls.{at_call_of}
use Rattle.sl_model.proofs.LibraryGood.{lib-good}

-- the state that an expression leaves is good
abbrev pub IsGoodOut : Out → Type 0
IsGoodOut (Gives v s) = IsGood s
IsGoodOut (Stops e s) = IsGood s

-- the state that a statement leaves is good
abbrev pub IsGoodFlow : Flow → Type 0
IsGoodFlow (Next s) = IsGood s
IsGoodFlow (Broke s) = IsGood s
IsGoodFlow (Continued s) = IsGood s
IsGoodFlow (Returned v s) = IsGood s
IsGoodFlow (Over e s) = IsGood s

-- an expression that stays at its level leaves a good state
out_good : (L : Level) (n : ℕ) (gift : Gift) (o : Out) → OutAt L n gift o → IsGoodOut o
out_good L n gift (Gives v s) h = h.now.good
out_good L n gift (Stops e s) h = h.good

-- a statement whose ways out lead to good states leaves a good state
flow_good : (shape : Shape) (L : Level) (n : ℕ) (P Q : State → Type 0) (w : Flow) → ((s : State) → P s → IsGood s) → ((s : State) → Q s → IsGood s)
    → FlowIn shape L n P Q w → IsGoodFlow w
flow_good shape L n P Q (Next s) p q h = p s h
flow_good shape L n P Q (Broke s) p q h = q s h
flow_good shape L n P Q (Continued s) p q h = q s h
flow_good shape L n P Q (Returned v s) p q h = q s h.0
flow_good shape L n P Q (Over e s) p q h = h.good

-- a good state is at its own level
pub good_now : (s : State) → IsGood s → Now (level_of s) s.memory.fresh s
good_now s h = record { good = h; level = refl; later = omega arith }

-- over a library and functions that keep states good, each expression does, and it leaves the frame and the heights of the stacks
pub eval-level : (w : World) (g : Signature) → KeepsGood g.shape g.makes w.lib → OwnKeepsGood g w → (e : Expr) (s : State)
    → InExpr g (counts_of s.frame) e → IsGood s → OutAt (level_of s) s.memory.fresh (gift_of g e) (eval w e s)
eval-level w g lib_keeps own_keeps e s i h = at_eval w g lib_keeps own_keeps (level_of s) e s.memory.fresh s i (good_now s h)

-- the state that it leaves is good
pub eval-good : (w : World) (g : Signature) → KeepsGood g.shape g.makes w.lib → OwnKeepsGood g w → (e : Expr) (s : State)
    → InExpr g (counts_of s.frame) e → IsGood s → IsGoodOut (eval w e s)
eval-good w g lib_keeps own_keeps e s i h =
    out_good (level_of s) s.memory.fresh (gift_of g e) (eval w e s) (eval-level w g lib_keeps own_keeps e s i h)

-- over a library and functions that keep states good, each statement does, and it leaves the frame and the heights of the stacks
-- but for what it declares
pub exec-level : (w : World) (g : Signature) → KeepsGood g.shape g.makes w.lib → OwnKeepsGood g w → (shape : Shape) (a : Stmt) (s : State)
    → InStmt g shape (counts_of s.frame) a → IsGood s → StmtAt shape (level_of s) s.memory.fresh a (exec w a s)
exec-level w g lib_keeps own_keeps shape a s i h = at_exec w g lib_keeps own_keeps shape s.memory.fresh a (level_of s) s i (good_now s h)

-- the state that it leaves is good
pub exec-good : (w : World) (g : Signature) → KeepsGood g.shape g.makes w.lib → OwnKeepsGood g w → (shape : Shape) (a : Stmt) (s : State)
    → InStmt g shape (counts_of s.frame) a → IsGood s → IsGoodFlow (exec w a s)
exec-good w g lib_keeps own_keeps shape a s i h = flow_good shape (level_of s) s.memory.fresh (Now (level_after a (level_of s)) s.memory.fresh)
    (Now (level_of s) s.memory.fresh) (exec w a s) (λ s j. j.good) (λ s j. j.good) (exec-level w g lib_keeps own_keeps shape a s i h)

-- over a library and functions that keep states good, statements in turn do, and they leave the stacks as high as they were
pub exec_all-level : (w : World) (g : Signature) → KeepsGood g.shape g.makes w.lib → OwnKeepsGood g w
    → (shape : Shape) (all : Stmts) (s : State) → InStmts g shape (counts_of s.frame) all → IsGood s →
    FlowIn shape (level_of s) s.memory.fresh (Above (level_of s) s.memory.fresh) (Above (level_of s) s.memory.fresh) (exec_all w all s)
exec_all-level w g lib_keeps own_keeps shape all s i h =
    at_exec_all w g lib_keeps own_keeps shape s.memory.fresh all (level_of s) s i (good_now s h)

-- the state that they leave is good
pub exec_all-good : (w : World) (g : Signature) → KeepsGood g.shape g.makes w.lib → OwnKeepsGood g w → (shape : Shape) (all : Stmts) (s : State)
    → InStmts g shape (counts_of s.frame) all → IsGood s → IsGoodFlow (exec_all w all s)
exec_all-good w g lib_keeps own_keeps shape all s i h = flow_good shape (level_of s) s.memory.fresh (Above (level_of s) s.memory.fresh)
    (Above (level_of s) s.memory.fresh) (exec_all w all s) (λ s j. j.good) (λ s j. j.good) (exec_all-level w g lib_keeps own_keeps shape all s i h)

-- over a library that keeps states good, each call of a scoped text's own functions does, where it gets what suits it, and it
-- leaves the caller's frame and the heights of the stacks
pub call-level : (shape : Callee → Shape) (makes_one : Callee → Bool) (l : Lib) → KeepsGood shape makes_one l → (p : Typed)
    → IsScoped shape makes_one p → (k f : ℕ) (h : Function) (at : Place) (gifts : List Gift) (vs : List Value) (s : State) →
    slice_get p.functions f ≡ Some h → AllSuit h.parameters gifts → AreApart (containers_in gifts) → AllGiven s.frame gifts vs
    → AllUsed s.memory.fresh vs → IsGood s → OutAt (level_of s) s.memory.fresh (a_value (shape_of_result h.result)) (call_own (world_of l p (call_of l k p)) f at vs s)
call-level shape makes_one l lib_keeps p scoped k f h at gifts vs s there suit apart given used good =
    at_call_of shape makes_one l lib_keeps p scoped k f h at (level_of s) s.memory.fresh gifts vs s there suit apart
    (record { now = good_now s good; given = given; used = used })

-- the state that it leaves is good
pub call-good : (shape : Callee → Shape) (makes_one : Callee → Bool) (l : Lib) → KeepsGood shape makes_one l → (p : Typed)
    → IsScoped shape makes_one p → (k f : ℕ) (h : Function) (at : Place) (gifts : List Gift) (vs : List Value) (s : State) →
    slice_get p.functions f ≡ Some h → AllSuit h.parameters gifts → AreApart (containers_in gifts) → AllGiven s.frame gifts vs
    → AllUsed s.memory.fresh vs → IsGood s → IsGoodOut (call_own (world_of l p (call_of l k p)) f at vs s)
call-good shape makes_one l lib_keeps p scoped k f h at gifts vs s there suit apart given used good =
    out_good (level_of s) s.memory.fresh (a_value (shape_of_result h.result)) (call_own (world_of l p (call_of l k p)) f at vs s)
    (call-level shape makes_one l lib_keeps p scoped k f h at gifts vs s there suit apart given used good)

-- the state in which a run begins is good
pub empty-good : (input : List ℤ) (picks : List ℕ) (steps : ℕ) → IsGood (empty_state input picks steps)
empty-good input picks steps = record {
  sound = empty-sound;
  scalars = below_none 0;
  iters = below_none 0;
  conts = below_none 0;
  apart = apart_none;
  held = below_none 0;
}

-- over a library that keeps states good, a scoped text's run ends in a good state
pub run_over-good : (shape : Callee → Shape) (makes_one : Callee → Bool) (l : Lib) → KeepsGood shape makes_one l → (p : Typed)
    → IsScoped shape makes_one p → (input : List ℤ) (picks : List ℕ) (steps : ℕ)
    → IsGoodOut (out_of l p input picks steps)
run_over-good shape makes_one l lib_keeps p scoped input picks steps =
    call-good shape makes_one l lib_keeps p scoped CALLS p.main scoped.main first_place [] [] (empty_state input picks steps) scoped.main_there
    (subst (λ (ks : List ParameterKind). AllSuit ks []) (sym scoped.main_parameters) tt)
    apart_none tt tt (empty-good input picks steps)

-- a scoped text's run ends in a good state
pub run-good : (p : Typed) → IsScoped lib_shape lib_makes p → (input : List ℤ) (picks : List ℕ) (steps : ℕ)
    → IsGoodOut (out_of lib p input picks steps)
run-good p scoped input picks steps = run_over-good lib_shape lib_makes lib lib-good p scoped input picks steps

-- what ends well ends in a good state
good_end : (o : Out) → IsGoodOut o → IsGood (end_state o)
good_end (Gives v s) h = h
good_end (Stops e s) h = h

-- so the state at the end of such a run is good
pub end-good : (p : Typed) → IsScoped lib_shape lib_makes p → (input : List ℤ) (picks : List ℕ) (steps : ℕ)
    → IsGood (end_state (main_out p input picks steps))
end-good p scoped input picks steps = good_end (main_out p input picks steps) (run-good p scoped input picks steps)
