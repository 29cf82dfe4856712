-- Which rules of decided texts a text breaks, and short ways to write texts of hash forms and of loops.
use Rattle.std.specs.Prelude.{◌≡◌, ◌≢◌, refl, ℕ, suc, ◌+◌, ◌-◌, Bool, true, false, List, [], ◌∷◌, ◌++◌, pos, Some}
use Rattle.sl_base.specs.declared.place.Place.{Place}
use Rattle.sl_base.specs.declared.form.Form.TheVariants as f
use Rattle.sl_base.specs.declared.scalar.Scalar.TheVariants as t
use Rattle.sl_specs.specs.declared.rows.associative.TheConstants as associative
use Rattle.sl_syntax.specs.declared.operator.Comparison.TheVariants as c
use Rattle.sl_syntax.specs.declared.typed.step.Fix.TheVariants as fixes
use Rattle.sl_syntax.specs.declared.typed.step.Step.TheVariants as steps
use Rattle.sl_syntax.specs.declared.typed.variable.VariableKind.{VariableKind}
use Rattle.sl_syntax.specs.declared.typed.variable.VariableKind.TheVariants as variables
use Rattle.sl_syntax.specs.Typed.{Expr, comparison, increment, scalar, test, evaluates, set_scalar, declares_first, for, Stmt, Typed}
use Rattle.sl_model.specs.Typing.WellTyped.{WellTyped}
use Rattle.sl_model.specs.Reports.Decided.{calls_its_own, reads_input, begins_hash, steps_in_hash, loops_over_hash, goes_along_hash, uses_hash_erase}
use Rattle.sl_model.specs.Reports.Decided.{calls_leaving, never_does, ends_in_time, makes_few_tests, stays_small, Decided}
use Rattle.sl_model.proofs.Examples.Trees.{Part, broken, well, at, on_site, on, int, value, calls, done, made, body_at, main_of, whole, alone}

-- a rule of decided texts
pub data Rule : Type 0 where
  OwnCall Input HashBegin HashStep HashLoop HashRange HashErase Leaving Time Tests Small : Rule

-- the rules whose answers aren't true
abbrev pub unkept : List (Bool × Rule) → List Rule
unkept [] = []
unkept ((true, rule) ∷ rest) = unkept rest
unkept ((false, rule) ∷ rest) = rule ∷ unkept rest

-- what each rule answers
abbrev pub kept : Typed → List (Bool × Rule)
kept p =
    (never_does calls_its_own p, OwnCall) ∷ (never_does reads_input p, Input) ∷ (never_does begins_hash p, HashBegin) ∷
    (never_does steps_in_hash p, HashStep) ∷ (never_does loops_over_hash p, HashLoop) ∷ (never_does goes_along_hash p, HashRange) ∷
    (never_does uses_hash_erase p, HashErase) ∷ (never_does calls_leaving p, Leaving) ∷ (ends_in_time p, Time) ∷ (makes_few_tests p, Tests) ∷
    (stays_small p, Small) ∷ []

-- the parts of being well typed that a text breaks, and the rules of decided texts that it breaks
unfoldable pub judged : Typed → List Part × List Rule
unfolding broken never_does ends_in_time makes_few_tests stays_small
judged p = (broken p, unkept (kept p))

-- where none is untrue, the first is true, and none of the rest is untrue
first_kept : (b : Bool) (rule : Rule) (rest : List (Bool × Rule)) → unkept ((b, rule) ∷ rest) ≡ [] → (b ≡ true) × (unkept rest ≡ [])
first_kept true rule rest h = (refl, h)
first_kept false rule rest h = absurd cc

-- a text that keeps each rule is decided
keeps_all : (p : Typed) → unkept (kept p) ≡ [] → Decided p
keeps_all p h =
    let a = first_kept (never_does calls_its_own p) OwnCall _ h in let b = first_kept (never_does reads_input p) Input _ a.1 in
    let d = first_kept (never_does begins_hash p) HashBegin _ b.1 in let e = first_kept (never_does steps_in_hash p) HashStep _ d.1 in
    let g = first_kept (never_does loops_over_hash p) HashLoop _ e.1 in let i = first_kept (never_does goes_along_hash p) HashRange _ g.1 in
    let j = first_kept (never_does uses_hash_erase p) HashErase _ i.1 in let k = first_kept (never_does calls_leaving p) Leaving _ j.1 in
    let l = first_kept (ends_in_time p) Time _ k.1 in let m = first_kept (makes_few_tests p) Tests _ l.1 in
    let n = first_kept (stays_small p) Small _ m.1 in
    record {
      no_own_call = a.0;
      no_input = b.0;
      no_hash_begin = d.0;
      no_hash_step = e.0;
      no_hash_loop = g.0;
      no_hash_range = i.0;
      no_hash_erase = j.0;
      no_leaving = k.0;
      in_time = l.0;
      few_tests = m.0;
      small = n.0;
    }

-- the parts of a pair are those that it is told to have
parts : {A B : Type 0} (q : A × B) (a : A) (b : B) → q ≡ (a, b) → (q.0 ≡ a) × (q.1 ≡ b)
parts q a b h = rw h (refl, refl)

-- a text that breaks nothing is well typed and decided
pub decided : (p : Typed) → judged p ≡ ([], []) → WellTyped p × Decided p
unfolding judged
decided p h = let both = parts (judged p) [] [] h in (well p both.0, keeps_all p both.1)

-- a text that is decided breaks no rule
breaks_none : (p : Typed) → Decided p → unkept (kept p) ≡ []
breaks_none p d =
    rw (
      d.no_own_call,
      d.no_input,
      d.no_hash_begin,
      d.no_hash_step,
      d.no_hash_loop,
      d.no_hash_range,
      d.no_hash_erase,
      d.no_leaving,
      d.in_time,
      d.few_tests,
      d.small,
    ) refl

-- no list is empty and has an element
not_both : (rs : List Rule) (rule : Rule) → rs ≡ rule ∷ [] → rs ≢ []
not_both rs rule h e = absurd cc

-- a text that breaks a rule alone is well typed, and isn't decided
pub undecided : (p : Typed) (rule : Rule) → judged p ≡ ([], rule ∷ []) → WellTyped p × (¬ Decided p)
unfolding judged
undecided p rule h = let both = parts (judged p) [] (rule ∷ []) h in
    (well p both.0, λ d. not_both (unkept (kept p)) rule both.1 (breaks_none p d))

-- the same text, which has this literal beside those from 0 to 9
abbrev pub with_literal : ℕ → Typed → Typed
with_literal n p = record p { constants = p.constants ++ pos (n - 1) ∷ pos n ∷ pos (n + 1) ∷ [] }

-- `std::unordered_set<int> s;`
abbrev pub hash_set : Place → Stmt
hash_set at = made f.HashSet associative.HASH_SET_CONSTRUCTOR at []

-- `s.insert(n);`
abbrev pub inserted : Place → ℕ → ℕ → Expr → Stmt
inserted at site s e = done (calls (on_site associative.HASH_SET_INSERT at site s) (e ∷ []))

-- `s.find(7)`
abbrev pub seven : Place → ℕ → Expr
seven at s = calls (on associative.HASH_SET_FIND at s) (int 7 ∷ [])

-- `s.end()`
abbrev pub hash_end : Place → ℕ → Expr
hash_end at s = calls (on associative.HASH_SET_END at s) []

-- a text of `main` alone that declares a set in hash order first and puts a 7 into it; behind it stand further sorts of variables and statements with
-- so many sites
abbrev pub behind_hash : List VariableKind → ℕ → List Stmt → Typed
behind_hash kinds sites all =
    alone (variables.Container ∷ kinds) (body_at (suc sites) (hash_set (at 2 3) ∷ inserted (at 3 5) 0 0 (int 7) ∷ all)) (suc (suc sites))

-- `for (int i = 0; i < n; ++i)` on a line, where i is the scalar x
abbrev pub counting : ℕ → ℕ → ℕ → Stmt → Stmt
counting line x n b = for 0 (declares_first (set_scalar t.Int (int 0))) (test (comparison c.Less (at line 21) (value x) (int n)))
    (Some (evaluates (increment steps.Up fixes.Prefix t.Int (at line 26) (scalar x (at line 28))))) b

-- a text of `main` alone with one loop, and so many sites
abbrev pub looping : List VariableKind → Stmt → ℕ → Typed
looping kinds b sites = whole (main_of kinds b ∷ []) 0 sites 1
