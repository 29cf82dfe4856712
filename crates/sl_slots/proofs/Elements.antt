-- The elements of a container after a change, apart from their marks.
use Rattle.std.proofs.Common.{◌≡◌, ℕ, zero, suc, ◌+◌, ◌-◌, ◌<◌, ◌≤◌, List, [], ◌∷◌, ◌++◌, Option, Some, None, length, map, take, drop, get_or, refl, ap}
use Rattle.std.proofs.Common.{sym, ◌∙◌, arith, ℤ, pos}
use Rattle.std.specs.List.{slice_get}
use Rattle.std.specs.Prelude.{option_map}
use Rattle.std.proofs.Math.Seq.{drop-cons}
use Rattle.std.proofs.lemmas.List.{map-append, length-map, take_all, drop-drop, length-drop}
use Rattle.std.proofs.lemmas.Option.{slice_get-map, get_or_from_slice_get}
use Rattle.sl_base.specs.declared.scalar.Scalar.TheVariants as t
use Rattle.sl_specs.specs.declared.class.Class.{Class}
use Rattle.sl_model.specs.Numbers.{converted}
use Rattle.sl_model.specs.Memory.Classes.{Edit, Fits}
use Rattle.sl_model.specs.Memory.Containers.{Cell, Cont, size}
use Rattle.sl_model.specs.Memory.Edits.{Source, old, written, theirs, new, Change, olds, news, change_of, mark_after, from_source, from_sources}
use Rattle.sl_model.proofs.Getting.{get_some}
use Rattle.sl_model.proofs.Moved.{blank}
use Rattle.sl_slots.specs.declared.container.Element.{Element}
use Rattle.sl_slots.specs.Rearranging.{element_there, element_from, source_code}
use Rattle.sl_slots.specs.Shown.{element_of, new_element}

-- what is at a place, and zeros where nothing is
abbrev pub there_or : Option Cell → Element
there_or None = record { key = pos 0; value = pos 0 }
there_or (Some x) = element_of x

-- the element that a source gives
abbrev pub source_element : Cont → Cont → Source → Element
source_element own other (old k) = there_or (slice_get own.cells k)
source_element own other (written k z) = record (there_or (slice_get own.cells k)) { key = converted t.Int z }
source_element own other (theirs k) = there_or (slice_get other.cells k)
source_element own other (new x y) = new_element (x, y)

-- it is that of the element of the model
source_same : (ch : Change) (base next : ℕ) (own other : Cont) (s : Source)
    → element_of (from_source ch base own other (blank next) s) ≡ source_element own other s
source_same ch base next own other (old k) = by_cell (slice_get own.cells k)
  where
    by_cell : (o : Option Cell) → element_of (elim o as (λ _. Cell) [
      | None ↦ blank next
      | Some x ↦ record x { stamp = mark_after ch.kill base k x.stamp; refer = mark_after ch.lose base k x.refer }
    ]) ≡ there_or o
    by_cell None = refl
    by_cell (Some x) = refl
source_same ch base next own other (written k z) = by_cell (slice_get own.cells k)
  where
    by_cell : (o : Option Cell) → element_of (record (elim o as (λ _. Cell) [
      | None ↦ blank next
      | Some x ↦ record x { stamp = mark_after ch.kill base k x.stamp; refer = mark_after ch.lose base k x.refer }
    ]) { key = converted t.Int z }) ≡ record (there_or o) { key = converted t.Int z }
    by_cell None = refl
    by_cell (Some x) = refl
source_same ch base next own other (theirs k) = by_cell (slice_get other.cells k)
  where
    by_cell : (o : Option Cell) → element_of (elim o as (λ _. Cell) [ None ↦ blank next | Some x ↦ x ]) ≡ there_or o
    by_cell None = refl
    by_cell (Some x) = refl
source_same ch base next own other (new x y) = refl

-- the elements that sources give
pub sources_same : (ch : Change) (base next : ℕ) (own other : Cont) (ss : List Source)
    → map element_of (from_sources ch base own other next ss) ≡ map (source_element own other) ss
sources_same ch base next own other [] = refl
sources_same ch base next own other (s ∷ ss) =
    ap (λ (x : Element). x ∷ map element_of (from_sources ch base own other (next + 1) ss)) (source_same ch base next own other s)
    ∙ ap (λ (l : List Element). source_element own other s ∷ l) (sources_same ch base (next + 1) own other ss)

-- elements that stay
pub olds_give : (c other : Cont) (i n : ℕ) → i + n ≤ size c → map (source_element c other) (olds i n) ≡ take n (drop i (map element_of c.cells))
olds_give c other i zero h = refl
olds_give c other i (suc n) h =
    let low : i < length c.cells = omega arith in
    let x = get_some c.cells i low in
    let es : List Element = map element_of c.cells in
    let l : length es ≡ length c.cells = length-map c.cells element_of in
    let low_too : i < length es = omega arith in
    let a : slice_get es i ≡ Some (element_of x.0) = slice_get-map element_of c.cells i ∙ ap (option_map element_of) x.1 in
    let none : Element = there_or None in
    let g : get_or es i none ≡ element_of x.0 = get_or_from_slice_get es i (element_of x.0) none a in
    let s : source_element c other (old i) ≡ element_of x.0 = ap there_or x.1 in
    let d : drop i es ≡ element_of x.0 ∷ drop (suc i) es = drop-cons es i none low_too ∙ ap (λ (y : Element). y ∷ drop (suc i) es) g in
    let rest : map (source_element c other) (olds (i + 1) n) ≡ take n (drop (i + 1) es) = olds_give c other (i + 1) n (omega arith) in
    let one : i + 1 ≡ suc i = omega arith in
    ap (λ (y : Element). y ∷ map (source_element c other) (olds (i + 1) n)) s
    ∙ (ap (λ (r : List Element). element_of x.0 ∷ r) (rest ∙ ap (λ (k : ℕ). take n (drop k es)) one) ∙ sym (ap (take (suc n)) d))

-- elements that come
news_give : (c other : Cont) (xs : List (ℤ × ℤ)) → map (source_element c other) (news xs) ≡ map new_element xs
news_give c other [] = refl
news_give c other (x ∷ xs) = ap (λ (l : List Element). new_element x ∷ l) (news_give c other xs)

-- the elements after an edit
pub edit_elements : (class : Class) (base next : ℕ) (c : Cont) (e : Edit) → Fits e (size c)
    → map element_of (from_sources (change_of class c e) base c c next (change_of class c e).sources)
    ≡ take e.from (map element_of c.cells) ++ (map new_element e.come ++ drop e.gone (drop e.from (map element_of c.cells)))
edit_elements class base next c e fits =
    let es : List Element = map element_of c.cells in
    let l : length es ≡ length c.cells = length-map c.cells element_of in
    let n : e.from + e.gone ≤ size c = fits in
    let r : ℕ = size c - (e.from + e.gone) in
    let A : List Source = olds 0 e.from in
    let B : List Source = news e.come in
    let C : List Source = olds (e.from + e.gone) r in
    let give : Source → Element = source_element c c in
    let a : map give A ≡ take e.from es = olds_give c c 0 e.from (omega arith) in
    let b : map give B ≡ map new_element e.come = news_give c c e.come in
    let d : map give C ≡ take r (drop (e.from + e.gone) es) = olds_give c c (e.from + e.gone) r (omega arith) in
    let f : take r (drop (e.from + e.gone) es) ≡ drop (e.from + e.gone) es =
    take_all r (drop (e.from + e.gone) es) (omega (arith, length-drop (e.from + e.gone) es)) in
    let g : drop (e.from + e.gone) es ≡ drop e.gone (drop e.from es) = sym (drop-drop e.gone e.from es) in
    sources_same (change_of class c e) base next c c (change_of class c e).sources
    ∙ (map-append give A (B ++ C)
    ∙ (ap (λ (x : List Element). x ++ map give (B ++ C)) a
    ∙ ap (λ (x : List Element). take e.from es ++ x)
    (map-append give B C ∙ (ap (λ (x : List Element). x ++ map give C) b ∙ ap (λ (x : List Element). map new_element e.come ++ x) (d ∙ (f ∙ g))))))

-- what is at a place of elements without their marks
there_shown : (cells : List Cell) (k : ℕ) → element_there (map element_of cells) k ≡ there_or (slice_get cells k)
there_shown cells k =
    ap (λ (o : Option Element). elim o as (λ _. Element) [ None ↦ record { key = pos 0; value = pos 0 } | Some x ↦ x ])
    (slice_get-map element_of cells k) ∙ by_cell (slice_get cells k)
  where
    by_cell : (o : Option Cell) → (elim (option_map element_of o) as (λ _. Element) [
      | None ↦ record { key = pos 0; value = pos 0 }
      | Some x ↦ x
    ]) ≡ there_or o
    by_cell None = refl
    by_cell (Some x) = refl

-- the elements that the store makes of sources are those of the model
pub codes_give : (own other : Cont) (xs : List Source)
    → map (element_from (map element_of own.cells) (map element_of other.cells)) (map source_code xs) ≡ map (source_element own other) xs
codes_give own other [] = refl
codes_give own other (x ∷ xs) =
    ap (λ (y : Element). y ∷ map (element_from (map element_of own.cells) (map element_of other.cells)) (map source_code xs)) (by_source x)
    ∙ ap (λ (l : List Element). source_element own other x ∷ l) (codes_give own other xs)
  where
    by_source : (s : Source) → element_from (map element_of own.cells) (map element_of other.cells) (source_code s) ≡ source_element own other s
    by_source (old k) = there_shown own.cells k
    by_source (written k z) = ap (λ (e : Element). record e { key = converted t.Int z }) (there_shown own.cells k)
    by_source (theirs k) = there_shown other.cells k
    by_source (new x y) = refl
