-- An edit of one container, at a site, in a memory: what it leaves where it was and what it moves, what it drops, and that it
-- leaves the memory sound.
use Rattle.std.proofs.Common.{◌≡◌, ◌≢◌, ℕ, zero, suc, ◌+◌, ◌-◌, ◌<◌, ◌≤◌, true, false, List, [], ◌∷◌, ◌++◌, Some, length, ap, ◌∙◌}
use Rattle.std.proofs.Common.{arith, ◌⊎◌, inl, inr, ℤ, refl}
use Rattle.std.specs.List.{slice_get}
use Rattle.std.proofs.lemmas.Bool.{cases_lt}
use Rattle.std.proofs.lemmas.Bool.Decides.{nat_tests}
use Rattle.std.proofs.lemmas.List.{length-map}
use Rattle.sl_base.specs.declared.limits.TheConstants.{ELEMENTS}
use Rattle.sl_specs.specs.declared.class.Class.{Class}
use Rattle.sl_model.specs.Memory.Classes.{Edit, Fits, kills}
use Rattle.sl_model.specs.Memory.Containers.{Cont, Memory, size, cont_at, stamps, killer}
use Rattle.sl_model.specs.Memory.Edits.{Source, old, new, olds, news, change_of, shifted, buried, changed, after}
use Rattle.sl_model.specs.Runs.Good.{IsAt, IsSound}
use Rattle.sl_model.proofs.Getting.{get_left, get_behind, get_within}
use Rattle.sl_model.proofs.Columns.{AllInside, TakesOwn, marks_from, rebuilt-stamps, stays_at, stamps-length}
use Rattle.sl_model.proofs.Buried.{killer_is, killer_before, killer_behind, buried_stood, buried_killer}
use Rattle.sl_model.proofs.WithEnd.{with_end, in_with_end, end_of_these}
use Rattle.sl_model.proofs.After.{get-after-own, get-after-other, cont_at-after-own, size-changed, change-sound}
use Rattle.sl_model.proofs.Places.{counts-fair}
use Rattle.sl_model.proofs.FairChanges.{BuriesGone, edit-fair, edit-length, length_olds}
use Rattle.sl_model.proofs.Located.{stamp-alive}
use Rattle.sl_model.proofs.Moved.{in_cont}

-- the old place at an index of these
olds_get : (i n p : ℕ) → p < n → slice_get (olds i n) p ≡ Some (old (i + p))
olds_get i zero p h = absurd (omega arith)
olds_get i (suc n) zero h = ap (λ k. Some (old k)) (omega arith)
olds_get i (suc n) (suc p) h = olds_get (i + 1) n p (omega arith) ∙ ap (λ k. Some (old k)) (omega arith)

-- an edit leaves what is before its place
shifted_before : (e : Edit) (k : ℕ) → k < e.from → shifted e k ≡ k
shifted_before e k h = grind (arith, nat_tests)

-- how far an edit moves what is behind it
pub shifted_behind : (e : Edit) (k : ℕ) → e.from + e.gone ≤ k → shifted e k + e.gone ≡ k + length e.come
shifted_behind e k h = grind (arith, nat_tests)

-- an element that an edit doesn't take out goes to its shifted place
pub edit_keeps : (class : Class) (c : Cont) (e : Edit) (k : ℕ) → Fits e (size c) → k < size c → (k < e.from) ⊎ (e.from + e.gone ≤ k)
    → slice_get (change_of class c e).sources (shifted e k) ≡ Some (old k)
edit_keeps class c e k fits within (inl below) =
    let A = olds 0 e.from in
    let R = news e.come ++ olds (e.from + e.gone) (size c - (e.from + e.gone)) in
    let la : length A ≡ e.from = length_olds 0 e.from in
    ap (slice_get (A ++ R)) (shifted_before e k below)
    ∙ (get_left A R k (omega arith) ∙ (olds_get 0 e.from k below ∙ ap (λ n. Some (old n)) (omega arith)))
edit_keeps class c e k fits within (inr above) =
    let A = olds 0 e.from in
    let B = news e.come in
    let C = olds (e.from + e.gone) (size c - (e.from + e.gone)) in
    let la : length A ≡ e.from = length_olds 0 e.from in
    let lb : length B ≡ length e.come = length-map e.come (λ (x : ℤ × ℤ). new x.0 x.1) in
    let n : e.from + e.gone ≤ size c = fits in
    let at = k - (e.from + e.gone) in
    let s : shifted e k + e.gone ≡ k + length e.come = shifted_behind e k above in
    let place : shifted e k ≡ length A + (length B + at) = omega arith in
    ap (slice_get (A ++ (B ++ C))) place
    ∙ (get_behind A (B ++ C) (length B + at)
    ∙ (get_behind B C at ∙ (olds_get (e.from + e.gone) (size c - (e.from + e.gone)) at (omega arith) ∙ ap (λ n. Some (old n)) (omega arith))))

-- what an edit that fits is made of lies inside the container
edit_inside : (class : Class) (c : Cont) (e : Edit) → Fits e (size c) → AllInside (size c) (size c) (change_of class c e).sources
edit_inside class c e fits =
    inside_append (olds 0 e.from) (news e.come ++ olds (e.from + e.gone) (size c - (e.from + e.gone)))
    (inside_olds 0 e.from (let f : e.from + e.gone ≤ size c = fits in omega arith))
    (inside_append (news e.come) (olds (e.from + e.gone) (size c - (e.from + e.gone))) (inside_news e.come)
    (inside_olds (e.from + e.gone) (size c - (e.from + e.gone)) (let f : e.from + e.gone ≤ size c = fits in omega arith)))
  where
    inside_append : (xs ys : List Source) → AllInside (size c) (size c) xs → AllInside (size c) (size c) ys → AllInside (size c) (size c) (xs ++ ys)
    inside_append [] ys a b = b
    inside_append (x ∷ xs) ys a b = (a.0, inside_append xs ys a.1 b)

    inside_olds : (i n : ℕ) → i + n ≤ size c → AllInside (size c) (size c) (olds i n)
    inside_olds i zero h = tt
    inside_olds i (suc n) h = (omega arith, inside_olds (i + 1) n (omega arith))

    inside_news : (xs : List (ℤ × ℤ)) → AllInside (size c) (size c) (news xs)
    inside_news [] = tt
    inside_news (x ∷ xs) = (tt, inside_news xs)

-- an edit that buries what goes, and leaves not too many elements, leaves the memory sound
pub after-sound : (class : Class) (m : Memory) (j : ℕ) (c : Cont) (e : Edit) (site : ℕ) → IsSound m → slice_get m.conts j ≡ Some c → Fits e (size c)
    → BuriesGone class c e → size c + length e.come ≤ ELEMENTS + e.gone → IsSound (after (change_of class c e) m j c site)
after-sound class m j c e site sound there fits buries few =
    change-sound (change_of class c e) m j c site sound there (counts-fair c (change_of class c e) (edit-fair class c e fits buries few))

-- what stands in another container stands there still
pub after-at-other : (class : Class) (m : Memory) (j i k s : ℕ) (c : Cont) (e : Edit) (site : ℕ) → j ≢ i → IsAt m i k s
    → IsAt (after (change_of class c e) m j c site) i k s
after-at-other class m j i k s c e site apart h =
    record { cont = h.cont; there = get-after-other (change_of class c e) m j i c site apart ∙ h.there; stands = h.stands }

-- what was invalidated has the edit's site beside it
pub after-killed : (class : Class) (m : Memory) (j k s : ℕ) (c : Cont) (e : Edit) (site : ℕ) → IsSound m → slice_get m.conts j ≡ Some c
    → IsAt m j k s → kills class (size c) c.room e k ≡ true → killer (after (change_of class c e) m j c site) s ≡ Some site
after-killed class m j k s c e site sound there h killed =
    let z : 0 + k ≡ k = omega arith in
    killer_before s (buried (kills class (size c) c.room e) site 0 (stamps c)) m.graves site
    (buried_killer (kills class (size c) c.room e) site 0 (stamps c) k s (in_cont m j k s c there h)
    (ap (kills class (size c) c.room e) z ∙ killed))

-- what was dropped before keeps its site
pub after-dead : (class : Class) (m : Memory) (j s g : ℕ) (c : Cont) (e : Edit) (site : ℕ) → IsSound m → slice_get m.conts j ≡ Some c
    → killer m s ≡ Some g → killer (after (change_of class c e) m j c site) s ≡ Some g
after-dead class m j s g c e site sound there h =
    killer_behind s (buried (kills class (size c) c.room e) site 0 (stamps c)) m.graves
    (λ t r. let q = buried_stood (kills class (size c) c.room e) site 0 (stamps c) s t r in
    stamp-alive m sound j q.0 s g (record { cont = c; there = there; stands = q.1 }) (killer_is s m.graves g h)) ∙ h

-- the size of the container after an edit
pub size-after : (class : Class) (m : Memory) (c : Cont) (e : Edit) → Fits e (size c) → size (changed m.fresh (change_of class c e) c)
    ≡ (size c + length e.come) - e.gone
size-after class m c e fits = size-changed (change_of class c e) m.fresh c ∙ edit-length class c e fits

-- the size of the container with the number after an edit
pub size_at-after : (class : Class) (m : Memory) (j : ℕ) (c : Cont) (e : Edit) (site : ℕ) → slice_get m.conts j ≡ Some c → Fits e (size c)
    → size (cont_at (after (change_of class c e) m j c site) j) ≡ (size c + length e.come) - e.gone
size_at-after class m j c e site there fits =
    ap (λ (x : Cont). size x) (cont_at-after-own (change_of class c e) m j c site there) ∙ size-after class m c e fits

-- an iterator that isn't invalidated stands where the edit moved it, and the end at the end
pub after-at-own : (class : Class) (m : Memory) (j k s : ℕ) (c : Cont) (e : Edit) (site : ℕ) → slice_get m.conts j ≡ Some c → IsAt m j k s
    → Fits e (size c) → kills class (size c) c.room e k ≡ false → (k < e.from) ⊎ (e.from + e.gone ≤ k)
    → IsAt (after (change_of class c e) m j c site) j (shifted e k) s
after-at-own class m j k s c e site there h fits alive outside = record {
  cont = changed m.fresh (change_of class c e) c;
  there = get-after-own (change_of class c e) m j c site there;
  stands = ap (λ (l : List ℕ). slice_get l (shifted e k))
      (rebuilt-stamps (change_of class c e) m.fresh c c (m.fresh + size c + 1) (edit_inside class c e fits))
      ∙ by_place (cases_lt k (size c));
}
  where
    here : slice_get (stamps c) k ≡ Some s
    here = in_cont m j k s c there h

    taken : (x : Source) → slice_get (with_end (size c) (change_of class c e).sources) (shifted e k) ≡ Some x → TakesOwn x k
        → slice_get (marks_from (kills class (size c) c.room e) m.fresh (stamps c) (stamps c) (m.fresh + size c + 1)
        (with_end (size c) (change_of class c e).sources)) (shifted e k) ≡ Some s
    taken x at takes = stays_at (kills class (size c) c.room e) m.fresh (stamps c) (stamps c) (m.fresh + size c + 1)
        (with_end (size c) (change_of class c e).sources) (shifted e k) k s x at takes here alive

    by_place : (k < size c) ⊎ (size c ≤ k)
        → slice_get (marks_from (kills class (size c) c.room e) m.fresh (stamps c) (stamps c) (m.fresh + size c + 1)
        (with_end (size c) (change_of class c e).sources)) (shifted e k) ≡ Some s
    by_place (inl inner) = taken (old k) (in_with_end (size c) (change_of class c e).sources (shifted e k) (old k)
        (edit_keeps class c e k fits inner outside)) refl
    by_place (inr outer) =
        let w : k < length (stamps c) = get_within (stamps c) k s here in
        let l : length (stamps c) ≡ size c + 1 = stamps-length c in
        let n : size c ≡ k = omega arith in
        let f : e.from + e.gone ≤ size c = fits in
        let t : shifted e k + e.gone ≡ k + length e.come = shifted_behind e k (omega arith) in
        let q : length (change_of class c e).sources ≡ (size c + length e.come) - e.gone = edit-length class c e fits in
        let place : shifted e k ≡ length (change_of class c e).sources = omega arith in
        taken (old (size c)) (ap (slice_get (with_end (size c) (change_of class c e).sources)) place
        ∙ end_of_these (size c) (change_of class c e).sources) n
