-- Each warning is of a `*` of the text, and each site that it names is that of a `push_back` before it.
use Rattle.std.proofs.Common.{arith, ◌≡◌, ℕ, zero, suc, ◌+◌, ◌≤◌, Bool, true, false, List, [], ◌∷◌, ◌++◌, length, drop, Option, Some, None, ◌⊎◌, inl}
use Rattle.std.proofs.Common.{inr, refl, ap, sym, ◌∙◌, if◌then◌else◌}
use Rattle.std.specs.Prelude.{slice_get, ◌==◌, Contains}
use Rattle.sl_base.specs.declared.place.Place.{Place}
use Rattle.sl_syntax.specs.declared.subset.Stmt.{Stmt}
use Rattle.sl_syntax.specs.declared.subset.Stmt.TheVariants.{Vector, PushBack, Begin, Dereference}
use Rattle.sl_tool.specs.declared.analysis.Standing.{Standing}
use Rattle.sl_tool.specs.declared.analysis.Push.{Push}
use Rattle.sl_tool.specs.declared.analysis.Warning.{Warning}
use Rattle.sl_tool.specs.declared.analysis.Fault.{Fault}
use Rattle.sl_tool.specs.declared.analysis.Fault.TheVariants.{InvalidIterator, EndIterator}
use Rattle.sl_tool.specs.Means.Analysis.{Known, nothing_known, sites_on, killers_of, standing_at, fault_in, told_at, goes_on, warned, known_after}
use Rattle.sl_tool.specs.Means.Analysis.{warnings_of}
use Rattle.sl_tool.specs.Exactness.{IsPushBefore}
use Rattle.sl_tool.proofs.Nodes.{IsOfNode}
use Rattle.sl_tool.proofs.Lists.{pushed}
use Rattle.sl_model.proofs.Getting.{get_drop}

-- each call so far is a `push_back` among these statements before an index
abbrev pub ArePushes : List Stmt → ℕ → List Push → Type 0
ArePushes stmts n pushes = (i : ℕ) (p : Push) → slice_get pushes i ≡ Some p → IsPushBefore stmts n p.site

-- where an element of two joined lists is
pub joined : {A : Type 0} (xs ys : List A) (i : ℕ) (x : A) → slice_get (xs ++ ys) i ≡ Some x → (slice_get xs i ≡ Some x)
    ⊎ ((d : ℕ) × (i ≡ length xs + d) × (slice_get ys d ≡ Some x))
joined [] ys i x h = inr (i, omega arith, h)
joined (z ∷ xs) ys zero x h = inl h
joined (z ∷ xs) ys (suc i) x h = elim (joined xs ys i x h) [ inl old ↦ inl old | inr new ↦ inr (new.0, (let e = new.1 in omega arith), new.2) ]

-- the first statement behind some
pub first_behind : (all : List Stmt) (n : ℕ) (s : Stmt) (ss : List Stmt) → drop n all ≡ s ∷ ss → slice_get all n ≡ Some s
first_behind all n s ss e = let same : n + 0 ≡ n = omega arith in ap (slice_get all) (sym same) ∙ sym (get_drop n all 0)
    ∙ ap (λ (l : List Stmt). slice_get l 0) e

-- and those behind it
pub rest_behind : (all : List Stmt) (n : ℕ) (s : Stmt) (ss : List Stmt) → drop n all ≡ s ∷ ss → drop (suc n) all ≡ ss
rest_behind [] zero s ss e = absurd cc
rest_behind [] (suc n) s ss e = absurd cc
rest_behind (x ∷ all) zero s ss e = cc
rest_behind (x ∷ all) (suc n) s ss e = rest_behind all n s ss e

-- a site on a vector is that of a call
site_case : (b : Bool) (p : Push) (ps : List Push) (sites : List ℕ) (site : ℕ)
    → (Contains sites site → (i : ℕ) × (q : Push) × (slice_get ps i ≡ Some q) × (q.site ≡ site))
    → Contains (if b then p.site ∷ sites else sites) site → (i : ℕ) × (q : Push) × (slice_get (p ∷ ps) i ≡ Some q) × (q.site ≡ site)
site_case true p ps sites site tail (zero, lt, e) = (0, p, refl, e)
site_case true p ps sites site tail (suc i, lt, e) = let r = tail (i, omega arith, e) in (suc r.0, r.1, r.2, r.3)
site_case false p ps sites site tail h = let r = tail h in (suc r.0, r.1, r.2, r.3)

site_of_call : (v : ℕ) (ps : List Push) (site : ℕ) → Contains (sites_on v ps) site → (i : ℕ) × (q : Push) × (slice_get ps i ≡ Some q)
    × (q.site ≡ site)
site_of_call v [] site h = absurd (let lt = h.1 in omega arith)
site_of_call v (p ∷ ps) site h = site_case (p.vector == v) p ps (sites_on v ps) site (site_of_call v ps site) h

-- a killer is the site of a `push_back` before
killer_before : (stmts : List Stmt) (n : ℕ) (k : Known) (standing : Standing) (site : ℕ) → ArePushes stmts n k.pushes
    → Contains (killers_of k standing) site → IsPushBefore stmts n site
killer_before stmts n k standing site are h =
    let r = site_of_call standing.vector (drop standing.since k.pushes) site h in
    rw (← r.3) (are (standing.since + r.0) r.1 (sym (get_drop standing.since k.pushes r.0) ∙ r.2))

-- the warning of a fault is of its node
of_fault : (stmts : List Stmt) (n it name : ℕ) (place named : Place) (killers : List ℕ) (at_element : Bool) (i : ℕ) (w : Warning)
    → slice_get stmts n ≡ Some (Dereference place it name named)
    → ((site : ℕ) → Contains killers site → IsPushBefore stmts n site) → slice_get (told_at place name (fault_in killers at_element)) i ≡ Some w
    → IsOfNode stmts n w
of_fault stmts n it name place named [] true i w there before h = absurd cc
of_fault stmts n it name place named [] false zero w there before h =
    let e : record { place = place; name = name; fault = EndIterator } ≡ w = cc in
    rw (← e) (record { iterator = it; variable = named; there = there; cause = tt })
of_fault stmts n it name place named [] false (suc i) w there before h = absurd cc
of_fault stmts n it name place named (x ∷ xs) at_element zero w there before h =
    let e : record { place = place; name = name; fault = InvalidIterator (x ∷ xs) } ≡ w = cc in
    rw (← e) (record { iterator = it; variable = named; there = there; cause = (omega arith, before) })
of_fault stmts n it name place named (x ∷ xs) at_element (suc i) w there before h = absurd cc

-- at most one warning tells of a fault
pub told_first : (place : Place) (name : ℕ) (fault : Option Fault) (i : ℕ) (w : Warning) → slice_get (told_at place name fault) i ≡ Some w → i ≡ 0
told_first place name None i w h = absurd cc
told_first place name (Some fault) zero w h = refl
told_first place name (Some fault) (suc i) w h = absurd cc

-- what is warned of behind a statement, if a run may go on there
pub if_more : (may : Bool) (ws : List Warning) (i : ℕ) (w : Warning) → slice_get (if may then ws else []) i ≡ Some w → slice_get ws i ≡ Some w
if_more true ws i w h = h
if_more false ws i w h = absurd cc

-- what is warned of at a statement is of its node
pub of_node : (stmts : List Stmt) (n : ℕ) (k : Known) (s : Stmt) (i : ℕ) (w : Warning) → slice_get stmts n ≡ Some s → ArePushes stmts n k.pushes
    → slice_get (warned k s) i ≡ Some w → IsOfNode stmts n w
of_node stmts n k (Vector place named) i w there are h = absurd cc
of_node stmts n k (PushBack place v name site z) i w there are h = absurd cc
of_node stmts n k (Begin place v name named) i w there are h = absurd cc
of_node stmts n k (Dereference place it name named) i w there are h =
    let standing : Standing = standing_at k it in
    of_fault stmts n it name place named (killers_of k standing) standing.at_element i w there
    (λ site c. killer_before stmts n k standing site are c) h

-- one statement more
pushes_more : (stmts : List Stmt) (n : ℕ) (pushes : List Push) → ArePushes stmts n pushes → ArePushes stmts (suc n) pushes
pushes_more stmts n pushes are i p h = let r = are i p h in
    record {
      at = r.at;
      place = r.place;
      vector = r.vector;
      name = r.name;
      number = r.number;
      there = r.there;
      before = let lt =
          r.before in omega arith;
    }

-- the calls so far behind a statement
pub pushes_after : (stmts : List Stmt) (n : ℕ) (k : Known) (s : Stmt) → slice_get stmts n ≡ Some s → ArePushes stmts n k.pushes
    → ArePushes stmts (suc n) (known_after k s).pushes
pushes_after stmts n k (Vector place named) there are = pushes_more stmts n k.pushes are
pushes_after stmts n k (PushBack place v name site z) there are = λ i p h. elim (pushed k.pushes (record { vector = v; site = site }) p i h) [
  | inl old ↦ pushes_more stmts n k.pushes are i p old
  | inr last ↦ record {
    at = n;
    place = place;
    vector = v;
    name = name;
    number = z;
    there = there
        ∙ ap (λ (q : Push). Some (PushBack place v name q.site z)) (sym last.1);
    before = omega arith;
  }
]
pushes_after stmts n k (Begin place v name named) there are = pushes_more stmts n k.pushes are
pushes_after stmts n k (Dereference place it name named) there are = pushes_more stmts n k.pushes are

-- a warning of the statements from an index on is of one of them
pub of_one : (all : List Stmt) (ss : List Stmt) (n : ℕ) (k : Known) → drop n all ≡ ss → ArePushes all n k.pushes → (i : ℕ) (w : Warning)
    → slice_get (warnings_of k ss) i ≡ Some w → (m : ℕ) × (n ≤ m) × IsOfNode all m w
of_one all [] n k e are i w h = absurd cc
of_one all (s ∷ ss) n k e are i w h =
    let there : slice_get all n ≡ Some s = first_behind all n s ss e in
    elim (joined (warned k s) (if goes_on k s then warnings_of (known_after k s) ss else []) i w h) [
      | inl now ↦ (n, omega arith, of_node all n k s i w there are now)
      | inr later ↦
          let more = if_more (goes_on k s) (warnings_of (known_after k s) ss) later.0 w later.2 in
          let r = of_one all ss (suc n) (known_after k s) (rest_behind all n s ss e) (pushes_after all n k s there are) later.0 w more in
          (r.0, (let le = r.1 in omega arith), r.2)
    ]

-- each warning is of a node of the text
pub has-node : (stmts : List Stmt) (i : ℕ) (w : Warning) → slice_get (warnings_of nothing_known stmts) i ≡ Some w → (m : ℕ) × IsOfNode stmts m w
has-node stmts i w h = let r = of_one stmts stmts 0 nothing_known refl (λ i p e. absurd cc) i w h in (r.0, r.2)
