-- Every failure of every run of a text of the subset is told.
use Rattle.std.proofs.Common.{◌≡◌, ℕ, true, false, List, [], ◌∷◌, length, refl, sym, length-append}
use Rattle.std.specs.Prelude.{unwrap_or, ℤ}
use Rattle.std.proofs.Math.ListN.{length-set}
use Rattle.sl_syntax.specs.declared.subset.Stmt.{Stmt}
use Rattle.sl_syntax.specs.declared.subset.Stmt.TheVariants.{Vector, PushBack, Begin, Dereference}
use Rattle.sl_syntax.specs.declared.subset.Text.{Text}
use Rattle.sl_syntax.specs.Typed.{Function}
use Rattle.sl_syntax.specs.SubsetView.{stmt_of, stmts_of, typed_of, main_of, brace_site}
use Rattle.sl_model.specs.Runs.Ends.{Trap}
use Rattle.sl_model.specs.Runs.State.{State}
use Rattle.sl_model.specs.Runs.Eval.{World, come_back}
use Rattle.sl_model.specs.Runs.Exec.{Flow, Next, Broke, Continued, Returned, Over, exec, exec_all, scoped}
use Rattle.sl_model.specs.Runs.Calls.{body_gives, world_of, call_of}
use Rattle.sl_model.specs.LibraryCalls.Values.{Value, nothing, number, iterator, pair, two, scalar_at, container_at, element_at}
use Rattle.sl_model.specs.Runs.Run.{done_with, empty_state, finished, run}
use Rattle.sl_model.specs.LibraryCalls.Library.{lib}
use Rattle.sl_model.specs.Reports.Covers.{Covers, Reports, Safe, HasMeaning, Warning as WarningValue}
use Rattle.sl_model.proofs.RunSound.{empty-sound}
use Rattle.sl_tool.specs.declared.analysis.Warning.{Warning}
use Rattle.sl_tool.specs.Means.Analysis.{Known, nothing_known, standing_at, is_filled, warned, warnings_of, with_vector, with_push, with_iterator}
use Rattle.sl_tool.specs.Means.Analysis.{found_valid}
use Rattle.sl_tool.proofs.Uses.{UsesDeclared}
use Rattle.sl_tool.specs.Means.Told.{report_of}
use Rattle.sl_tool.proofs.Describes.{Describes}
use Rattle.sl_tool.proofs.Goes.{EndsTold, IsTold, goes-on}
use Rattle.sl_tool.proofs.Kept.{valid}
use Rattle.sl_tool.proofs.Steps.{with_library, goes-vector, goes-push_back, goes-begin, goes-star}

pub same_uses : (a b c d : ℕ) (ss : List Stmt) → a ≡ c → b ≡ d → UsesDeclared a b ss → UsesDeclared c d ss
same_uses a b c d ss e q h = rw (← e, ← q) h

-- the statements from a state that is described
pub walk : (names : List (List ℕ)) (own : World) (ss : List Stmt) (k : Known) (s : State) → Describes k s.memory s.frame s.iters
    → UsesDeclared (length k.filled) (length k.iterators) ss
    → EndsTold names (warnings_of k ss) (exec_all (with_library own) (stmts_of ss) s)
walk names own [] k s d u = tt
walk names own (Vector place named ∷ ss) k s d u =
    goes-on names (with_vector k) true [] (warnings_of (with_vector k) ss) (exec (with_library own) (stmt_of (Vector place named)) s)
    (exec_all (with_library own) (stmts_of ss)) (goes-vector names k own place named s d)
    (λ t e. walk names own ss (with_vector k) t e (same_uses _ _ _ _ ss (sym (length-append k.filled (false ∷ []))) refl u))
walk names own (PushBack place v name site z ∷ ss) k s d u =
    goes-on names (with_push k v site) true [] (warnings_of (with_push k v site) ss) (exec (with_library own) (stmt_of (PushBack place v name site z)) s)
    (exec_all (with_library own) (stmts_of ss)) (goes-push_back names k own place v name site z s d u.0)
    (λ t e. walk names own ss (with_push k v site) t e (same_uses _ _ _ _ ss (sym (length-set k.filled v true)) refl u.1))
walk names own (Begin place v name named ∷ ss) k s d u =
    goes-on names (with_iterator k v) true [] (warnings_of (with_iterator k v) ss) (exec (with_library own) (stmt_of (Begin place v name named)) s)
    (exec_all (with_library own) (stmts_of ss)) (goes-begin names k own place named v name s d u.0)
    (λ t e. walk names own ss (with_iterator k v) t e
    (same_uses _ _ _ _ ss refl
    (sym (length-append k.iterators (record { vector = v; at_element = is_filled k v; since = length k.pushes } ∷ []))) u.1))
walk names own (Dereference place it name named ∷ ss) k s d u =
    goes-on names (found_valid k it (standing_at k it)) (standing_at k it).at_element (warned k (Dereference place it name named))
    (warnings_of (found_valid k it (standing_at k it)) ss) (exec (with_library own) (stmt_of (Dereference place it name named)) s)
    (exec_all (with_library own) (stmts_of ss)) (goes-star names k own place named it name s d u.0)
    (λ t e. walk names own ss (found_valid k it (standing_at k it)) t e
    (same_uses _ _ _ _ ss refl (sym (length-set k.iterators it (valid k (standing_at k it)))) u.1))

-- a run begins where nothing is known
pub begins : (input : List ℤ) (picks : List ℕ) (steps : ℕ) → let s : State = empty_state input picks steps in
    Describes nothing_known s.memory s.frame s.iters
begins input picks steps = record {
  sound = empty-sound;
  vectors = refl;
  iterators = refl;
  conts_frame = refl;
  iters_frame = refl;
  forms = λ j c e. absurd cc;
  filled = λ j c e. absurd cc;
  stands = λ i stamp standing e q. absurd cc;
  since = λ i standing e. absurd cc;
}

-- what `main` gave is no failure
done_told : (names : List (List ℕ)) (ws : List Warning) (v : Value) → IsTold names ws (done_with v)
done_told names ws nothing = tt
done_told names ws (number z) = tt
done_told names ws (iterator x) = tt
done_told names ws (pair x b) = tt
done_told names ws (two x y) = tt
done_told names ws (scalar_at l) = tt
done_told names ws (container_at l) = tt
done_told names ws (element_at i k p) = tt

-- the end of `main` is that of its body
finished_told : (names : List (List ℕ)) (ws : List Warning) (f : Function) (before start : State) (site : ℕ) (flow : Flow) → EndsTold names ws flow
    → IsTold names ws (finished (come_back before (body_gives true f (scoped site start flow)))).end
finished_told names ws f before start site (Next s) h = tt
finished_told names ws f before start site (Broke s) h = tt
finished_told names ws f before start site (Continued s) h = tt
finished_told names ws f before start site (Returned v s) h = done_told names ws v
finished_told names ws f before start site (Over e s) h = h

-- each end of a run is told
pub run_told : (p : Text) (input : List ℤ) (picks : List ℕ) (steps : ℕ) → UsesDeclared 0 0 p.stmts
    → IsTold p.names (warnings_of nothing_known p.stmts) (run (typed_of p) input picks steps).end
run_told p input picks steps u =
    let s : State = empty_state input picks steps in
    finished_told p.names (warnings_of nothing_known p.stmts) (main_of p.stmts p.close) s s (unwrap_or (brace_site p.stmts) 0)
    (exec_all (world_of lib (typed_of p) (call_of lib 255 (typed_of p))) (stmts_of p.stmts) s)
    (walk p.names (world_of lib (typed_of p) (call_of lib 255 (typed_of p))) p.stmts nothing_known s (begins input picks steps) u)

-- the report covers the trap of every run
pub reports : (p : Text) → UsesDeclared 0 0 p.stmts → Reports (typed_of p) (report_of p.names (warnings_of nothing_known p.stmts))
reports p u t h = let told = run_told p h.input h.picks h.steps u in rw h.traps at told

-- no run meets a call without a meaning
pub meaning : (p : Text) → UsesDeclared 0 0 p.stmts → HasMeaning (typed_of p)
meaning p u input picks steps place e = let told = run_told p input picks steps u in rw e at told

covers_none : (names : List (List ℕ)) (r : List WarningValue) (t : Trap) → r ≡ [] → Covers names r t → ⊥
covers_none names r t e c = let there = rw e at c.there in cc

-- where the analysis warns of nothing, the text is safe
pub safe : (p : Text) → UsesDeclared 0 0 p.stmts → report_of p.names (warnings_of nothing_known p.stmts) ≡ [] → Safe (typed_of p)
safe p u e t can = covers_none p.names (report_of p.names (warnings_of nothing_known p.stmts)) t e (reports p u t can)
