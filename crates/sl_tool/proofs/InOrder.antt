-- Warnings come in the order of their nodes, at most one at each.
use Rattle.std.proofs.Common.{arith, ◌≡◌, ℕ, zero, suc, ◌<◌, if◌then◌else◌, List, [], ◌∷◌, drop, Some, inl, inr, refl, sym}
use Rattle.std.specs.Prelude.{slice_get}
use Rattle.std.proofs.lemmas.Option.{slice_get_within}
use Rattle.sl_syntax.specs.declared.subset.Stmt.{Stmt}
use Rattle.sl_syntax.specs.declared.subset.Stmt.TheVariants.{Vector, PushBack, Begin, Dereference}
use Rattle.sl_model.specs.Reports.Covers.{Warning as WarningValue}
use Rattle.sl_tool.specs.declared.analysis.Warning.{Warning}
use Rattle.sl_tool.specs.Means.Analysis.{Known, nothing_known, killers_of, standing_at, fault_in, goes_on, warned, known_after, warnings_of}
use Rattle.sl_tool.specs.Means.Told.{warning_of, report_of}
use Rattle.sl_tool.proofs.Nodes.{AreInTurn, PlacesAscend}
use Rattle.sl_warnings.specs.Reports.{IsAscending}
use Rattle.sl_tool.proofs.Ascending.{earlier_less, ascending}
use Rattle.sl_tool.proofs.Causes.{ArePushes, joined, first_behind, rest_behind, told_first, if_more, of_node, pushes_after, of_one}

-- at most one warning tells of a statement
first_at : (k : Known) (s : Stmt) (i : ℕ) (w : Warning) → slice_get (warned k s) i ≡ Some w → i ≡ 0
first_at k (Vector place named) i w h = absurd cc
first_at k (PushBack place v name site z) i w h = absurd cc
first_at k (Begin place v name named) i w h = absurd cc
first_at k (Dereference place it name named) i w h =
    told_first place name (fault_in (killers_of k (standing_at k it)) (standing_at k it).at_element) i w h

-- two warnings of the statements from an index on
in_turn : (all : List Stmt) (ss : List Stmt) (n : ℕ) (k : Known) → drop n all ≡ ss → ArePushes all n k.pushes → (i j : ℕ) (v w : Warning) → i < j
    → slice_get (warnings_of k ss) i ≡ Some v → slice_get (warnings_of k ss) j ≡ Some w → AreInTurn all v w
in_turn all [] n k e are i j v w lt a b = absurd cc
in_turn all (s ∷ ss) n k e are i j v w lt a b =
    let there : slice_get all n ≡ Some s = first_behind all n s ss e in
    let on : drop (suc n) all ≡ ss = rest_behind all n s ss e in
    let after : ArePushes all (suc n) (known_after k s).pushes = pushes_after all n k s there are in
    let later : List Warning = warnings_of (known_after k s) ss in
    let more : List Warning = if goes_on k s then later else [] in
    elim (joined (warned k s) more i v a) [
      | inl p ↦ elim (joined (warned k s) more j w b) [
        | inl q ↦ absurd (let x = first_at k s i v p in let y = first_at k s j w q in omega arith)
        | inr q ↦ let r = of_one all ss (suc n) (known_after k s) on after q.0 w (if_more (goes_on k s) later q.0 w q.2) in
            record { first = n; second = r.0; of_first = of_node all n k s i v there are p; of_second = r.2; order = (let le = r.1 in omega arith) }
      ]
      | inr p ↦ elim (joined (warned k s) more j w b) [
        | inl q ↦ absurd (let m = p.1 in let l = slice_get_within (warned k s) j w q in omega arith)
        | inr q ↦ in_turn all ss (suc n) (known_after k s) on after p.0 q.0 v w (let m = p.1 in let l = q.1 in omega arith)
            (if_more (goes_on k s) later p.0 v p.2) (if_more (goes_on k s) later q.0 w q.2)
      ]
    ]

-- each two warnings of a text are in turn
pub are-in-turn : (stmts : List Stmt) (i j : ℕ) (v w : Warning) → i < j → slice_get (warnings_of nothing_known stmts) i ≡ Some v
    → slice_get (warnings_of nothing_known stmts) j ≡ Some w → AreInTurn stmts v w
are-in-turn stmts i j v w lt a b = in_turn stmts stmts 0 nothing_known refl (λ i p e. absurd cc) i j v w lt a b

-- a warning of a report is one of the analysis
pub told_one : (names : List (List ℕ)) (ws : List Warning) (i : ℕ) (w : WarningValue) → slice_get (report_of names ws) i ≡ Some w → (v : Warning)
    × (slice_get ws i ≡ Some v) × (w ≡ warning_of names v)
told_one names [] i w h = absurd cc
told_one names (v ∷ ws) zero w h = let q : warning_of names v ≡ w = cc in (v, refl, sym q)
told_one names (v ∷ ws) (suc i) w h = told_one names ws i w h

-- a report ascends, where the places do
pub in-order : (stmts : List Stmt) (names : List (List ℕ)) → PlacesAscend stmts → IsAscending (report_of names (warnings_of nothing_known stmts))
in-order stmts names ascend = ascending (report_of names (warnings_of nothing_known stmts)) (λ i j v w lt a b.
    let p = told_one names (warnings_of nothing_known stmts) i v a in
    let q = told_one names (warnings_of nothing_known stmts) j w b in
    let t = are-in-turn stmts i j p.0 q.0 lt p.1 q.1 in
    rw (p.2, q.2) (earlier_less (warning_of names p.0) (warning_of names q.0)
    (ascend t.first t.second t.of_first.iterator t.of_second.iterator p.0.name q.0.name p.0.place q.0.place
    t.of_first.variable t.of_second.variable t.order t.of_first.there t.of_second.there)))
