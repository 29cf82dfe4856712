-- The report on a text of the subset is exact: the plainest run meets its first warning.
use Rattle.std.proofs.Common.{arith, ◌≡◌, ℕ, suc, ◌+◌, ◌≤◌, Bool, true, false, if◌then◌else◌, List, [], ◌∷◌, ◌++◌, length, refl, sym, length-append}
use Rattle.std.proofs.Common.{add-one}
use Rattle.std.specs.Prelude.{unwrap_or, All, ◌^◌, ◌<◌}
use Rattle.std.proofs.Math.ListN.{length-set}
use Rattle.sl_base.specs.declared.limits.TheConstants.{ELEMENTS, STATEMENTS}
use Rattle.sl_syntax.specs.declared.subset.Stmt.{Stmt}
use Rattle.sl_syntax.specs.declared.subset.Stmt.TheVariants.{Vector, PushBack, Begin, Dereference}
use Rattle.sl_syntax.specs.declared.subset.Text.{Text}
use Rattle.sl_syntax.specs.Typed.{Function, Typed}
use Rattle.sl_base.specs.declared.scalar.Scalar.TheVariants as t
use Rattle.sl_model.specs.Numbers.{fits}
use Rattle.sl_syntax.specs.SubsetView.{stmt_of, stmts_of, typed_of, main_of, brace_site}
use Rattle.sl_model.specs.Runs.Ends.{End, Trapped, Trap, Done, OutOfSteps, Language, Thrown, NoMeaning}
use Rattle.sl_model.specs.Runs.State.{State}
use Rattle.sl_model.specs.Runs.Eval.{World, come_back}
use Rattle.sl_model.specs.Runs.Exec.{Flow, Next, Broke, Continued, Returned, Over, Meaning, and_then, exec, exec_all, scoped}
use Rattle.sl_model.specs.Runs.Calls.{body_gives, world_of, call_of}
use Rattle.sl_model.specs.Runs.Run.{empty_state, finished, run}
use Rattle.sl_model.specs.LibraryCalls.Library.{lib}
use Rattle.sl_model.specs.Reports.Covers.{Tells, Safe, Warning as WarningValue}
use Rattle.sl_tool.specs.declared.analysis.Warning.{Warning}
use Rattle.sl_tool.specs.Means.Analysis.{Known, nothing_known, standing_at, is_filled, warned, warnings_of, with_vector, with_push, with_iterator}
use Rattle.sl_tool.specs.Means.Analysis.{found_valid}
use Rattle.sl_tool.proofs.Uses.{UsesDeclared}
use Rattle.sl_tool.specs.Means.Told.{report_of, warning_of}
use Rattle.sl_tool.specs.Exactness.{IsMet, IsExact}
use Rattle.sl_tool.proofs.Soundness.{same_uses, begins, safe as safe_if_empty}
use Rattle.sl_tool.proofs.Kept.{valid}
use Rattle.sl_tool.proofs.Steps.{with_library}
use Rattle.sl_tool.proofs.Exactly.{IsPlain}
use Rattle.sl_tool.proofs.ExactSteps.{GoesOn, GoesOrTraps, IsTrap, EndsTrapped, plain-vector, plain-push, plain-begin, plain-star}

-- others follow a statement that goes on
after_on : (names : List (List ℕ)) (k : Known) (n : ℕ) (w : Warning) (flow : Flow) (rest : Meaning) → GoesOn k n flow
    → ((s : State) → IsPlain k n s → EndsTrapped names w (rest s)) → EndsTrapped names w (and_then flow rest)
after_on names k n w (Next s) rest h go = go s h
after_on names k n w (Broke s) rest h go = absurd h
after_on names k n w (Continued s) rest h go = absurd h
after_on names k n w (Returned v s) rest h go = absurd h
after_on names k n w (Over e s) rest h go = absurd h

-- none follow one in which the run ends
after_trap : (names : List (List ℕ)) (w : Warning) (flow : Flow) (rest : Meaning) → EndsTrapped names w flow
    → EndsTrapped names w (and_then flow rest)
after_trap names w (Next s) rest h = absurd h
after_trap names w (Broke s) rest h = absurd h
after_trap names w (Continued s) rest h = absurd h
after_trap names w (Returned v s) rest h = absurd h
after_trap names w (Over e s) rest h = h

-- one statement and then others, by what is warned of at the statement
goes-or-traps : (names : List (List ℕ)) (k : Known) (n : ℕ) (may : Bool) (now later : List Warning) (w : Warning) (ws : List Warning) (flow : Flow)
    (rest : Meaning)
    → now ++ (if may then later else []) ≡ w ∷ ws → GoesOrTraps names k n may now flow
    → ((s : State) → IsPlain k n s → later ≡ w ∷ ws → EndsTrapped names w (rest s)) → EndsTrapped names w (and_then flow rest)
goes-or-traps names k n may [] later w ws flow rest e h go = let next : later ≡ w ∷ ws = rw h.0 at e in after_on names k n w flow rest h.1
    (λ s p. go s p next)
goes-or-traps names k n may (v ∷ vs) later w ws flow rest e h go = let same : v ≡ w = cc in after_trap names w flow rest (rw (← same) h)

-- a statement more to come
one_more : (k : Known) (n : ℕ) (s : State) → IsPlain k (suc n) s → IsPlain k (n + 1) s
one_more k n s p = rw add-one p

-- the statements from a state of the plainest run: it ends in a trap that the first warning tells of
walk_exact : (names : List (List ℕ)) (own : World) (ss : List Stmt) (k : Known) (s : State) (w : Warning) (ws : List Warning)
    → IsPlain k (length ss) s → UsesDeclared (length k.filled) (length k.iterators) ss → length k.pushes + length ss ≤ ELEMENTS
    → warnings_of k ss ≡ w ∷ ws
    → EndsTrapped names w (exec_all (with_library own) (stmts_of ss) s)
walk_exact names own [] k s w ws p u few e = absurd cc
walk_exact names own (Vector place named ∷ ss) k s w ws p u few e =
    goes-or-traps names (with_vector k) (length ss) true [] (warnings_of (with_vector k) ss) w ws
    (exec (with_library own) (stmt_of (Vector place named)) s) (exec_all (with_library own) (stmts_of ss)) e
    (refl, plain-vector k own place named (length ss) s (one_more k (length ss) s p))
    (λ t q r. walk_exact names own ss (with_vector k) t w ws q (same_uses _ _ _ _ ss (sym (length-append k.filled (false ∷ []))) refl u)
    (omega arith) r)
walk_exact names own (PushBack place v name site z ∷ ss) k s w ws p u few e =
    goes-or-traps names (with_push k v site) (length ss) true [] (warnings_of (with_push k v site) ss) w ws
    (exec (with_library own) (stmt_of (PushBack place v name site z)) s) (exec_all (with_library own) (stmts_of ss)) e
    (refl, plain-push k own place v name site z (length ss) s (one_more k (length ss) s p) u.0 (omega arith))
    (λ t q r. walk_exact names own ss (with_push k v site) t w ws q (same_uses _ _ _ _ ss (sym (length-set k.filled v true)) refl u.1)
    (let more = length-append k.pushes (record { vector = v; site = site } ∷ []) in omega arith) r)
walk_exact names own (Begin place v name named ∷ ss) k s w ws p u few e =
    goes-or-traps names (with_iterator k v) (length ss) true [] (warnings_of (with_iterator k v) ss) w ws
    (exec (with_library own) (stmt_of (Begin place v name named)) s) (exec_all (with_library own) (stmts_of ss)) e
    (refl, plain-begin k own place named v name (length ss) s (one_more k (length ss) s p) u.0)
    (λ t q r. walk_exact names own ss (with_iterator k v) t w ws q
    (same_uses _ _ _ _ ss refl (sym (length-append k.iterators (record { vector = v; at_element = is_filled k v; since = length k.pushes } ∷ [])))
    u.1) (omega arith) r)
walk_exact names own (Dereference place it name named ∷ ss) k s w ws p u few e =
    goes-or-traps names (found_valid k it (standing_at k it)) (length ss) (standing_at k it).at_element (warned k (Dereference place it name named))
    (warnings_of (found_valid k it (standing_at k it)) ss) w ws (exec (with_library own) (stmt_of (Dereference place it name named)) s)
    (exec_all (with_library own) (stmts_of ss)) e (plain-star names k own place named it name (length ss) s (one_more k (length ss) s p) u.0)
    (λ t q r. walk_exact names own ss (found_valid k it (standing_at k it)) t w ws q
    (same_uses _ _ _ _ ss refl (sym (length-set k.iterators it (valid k (standing_at k it)))) u.1) (omega arith) r)

-- the end of `main` is that of its body
finished_trap : (names : List (List ℕ)) (w : Warning) (f : Function) (before start : State) (site : ℕ) (flow : Flow) → EndsTrapped names w flow
    → IsTrap names w (finished (come_back before (body_gives true f (scoped site start flow)))).end
finished_trap names w f before start site (Next s) h = absurd h
finished_trap names w f before start site (Broke s) h = absurd h
finished_trap names w f before start site (Continued s) h = absurd h
finished_trap names w f before start site (Returned v s) h = absurd h
finished_trap names w f before start site (Over e s) h = h

-- the trap in which a run ends
trap_in : (names : List (List ℕ)) (w : Warning) (e : End) → IsTrap names w e → (t : Trap) × (e ≡ Trapped t) × Tells names (warning_of names w) t
trap_in names w (Done z) h = absurd h
trap_in names w (Trapped t) h = (t, refl, h)
trap_in names w OutOfSteps h = absurd h
trap_in names w (Language place n) h = absurd h
trap_in names w (Thrown place) h = absurd h
trap_in names w (NoMeaning place) h = absurd h

-- the plainest run begins where nothing is known
begins_plain : (n : ℕ) → n ≤ STATEMENTS → IsPlain nothing_known n (empty_state [] [] STATEMENTS)
begins_plain n few = record {
  described = begins [] [] STATEMENTS;
  full = record {
    full = λ j c e. absurd cc;
    few = λ j c e. absurd cc;
    gone = λ i stamp standing e q x xs some. absurd cc;
  };
  picks = refl;
  steps = few;
}

-- the plainest run of a text of the subset meets the first warning
pub meets-first : (p : Text) → UsesDeclared 0 0 p.stmts → length p.stmts ≤ STATEMENTS → (w : Warning) (ws : List Warning)
    → warnings_of nothing_known p.stmts ≡ w ∷ ws → IsMet (typed_of p) (warning_of p.names w)
meets-first p u few w ws e =
    let s : State = empty_state [] [] STATEMENTS in
    let flow : Flow = exec_all (world_of lib (typed_of p) (call_of lib 255 (typed_of p))) (stmts_of p.stmts) s in
    let trapped : EndsTrapped p.names w flow = walk_exact p.names (world_of lib (typed_of p) (call_of lib 255 (typed_of p))) p.stmts nothing_known s w ws
    (begins_plain (length p.stmts) few) u (omega arith) e in
    let t = trap_in p.names w (run (typed_of p) [] [] STATEMENTS).end
    (finished_trap p.names w (main_of p.stmts p.close) s s (unwrap_or (brace_site p.stmts) 0) flow trapped) in
    record { trap = t.0; traps = t.1; tells = t.2 }

-- nothing is no input and no schedule
no_elements : {A : Type 0} (P : A → Type 0) → All P []
no_elements P i x lt = absurd (omega arith)

-- a text whose plainest run traps isn't safe
not_safe : (p : Typed) (w : WarningValue) → IsMet p w → Safe p → ⊥
not_safe p w met safe =
    safe met.trap (record {
      input = [];
      picks = [];
      steps = STATEMENTS;
      is_input = no_elements (λ z. fits t.Int z ≡ true);
      is_schedule =
          no_elements (λ p. p < 2 ^ 32);
      traps = met.traps;
    })

first_met : (p : Typed) (names : List (List ℕ)) (ws : List Warning)
    → ((w : Warning) (vs : List Warning) → ws ≡ w ∷ vs → IsMet p (warning_of names w)) → (w : WarningValue) (vs : List WarningValue)
    → report_of names ws ≡ w ∷ vs → IsMet p w
first_met p names [] met w vs e = absurd cc
first_met p names (v ∷ ws) met w vs e = let same : warning_of names v ≡ w = cc in rw (← same) (met v ws refl)

none_if_safe : (p : Typed) (names : List (List ℕ)) (ws : List Warning)
    → ((w : Warning) (vs : List Warning) → ws ≡ w ∷ vs → IsMet p (warning_of names w)) → Safe p → report_of names ws ≡ []
none_if_safe p names [] met safe = refl
none_if_safe p names (w ∷ ws) met safe = absurd (not_safe p (warning_of names w) (met w ws refl) safe)

-- what the analysis warns of is an exact report on the text
pub is_exact : (p : Text) → UsesDeclared 0 0 p.stmts → length p.stmts ≤ STATEMENTS
    → IsExact (typed_of p) (report_of p.names (warnings_of nothing_known p.stmts))
is_exact p u few = record {
  first = first_met (typed_of p) p.names (warnings_of nothing_known p.stmts) (meets-first p u few);
  safe = (safe_if_empty p u, none_if_safe (typed_of p) p.names (warnings_of nothing_known p.stmts) (meets-first p u few));
}
