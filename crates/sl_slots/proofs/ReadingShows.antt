-- What is read of a store is what the memory has that it shows.
use Rattle.std.proofs.Common.{◌≡◌, ℕ, ◌<◌, List, [], Option, Some, None, length, get_or, refl, ap, sym, ◌∙◌, pos, ℤ, subst, map, ◌≢◌}
use Rattle.std.specs.List.{slice_get, slice_set}
use Rattle.std.specs.Option.{option_map}
use Rattle.std.proofs.lemmas.List.{length-map}
use Rattle.std.proofs.lemmas.Option.{slice_get-map, slice_get-get_or}
use Rattle.sl_base.specs.declared.form.Form.TheVariants.{Vector}
use Rattle.sl_model.specs.Memory.Containers.{Cell, Cont, Memory, Part, key_part, value_part, part_of, cont_at, element, size}
use Rattle.sl_model.specs.Runs.State.{Pointer}
use Rattle.sl_model.specs.LibraryCalls.Values.{Value}
use Rattle.sl_model.proofs.Getting.{get_map, get_set_other, get_some}
use Rattle.sl_model.proofs.After.{cont_of_there}
use Rattle.sl_slots.specs.declared.container.Container.{Container}
use Rattle.sl_slots.specs.declared.container.Element.{Element}
use Rattle.sl_slots.specs.declared.store.Store.{Store}
use Rattle.sl_slots.specs.Shown.{Plain, plain, contents, element_of, part_code, Holds}
use Rattle.sl_slots.specs.Stored.{contents_at, elements_at, number_of}

-- what is read at an index
pub read_there : {A : Type 0} (xs : List A) (i : ℕ) (x : A) → i < length xs → x ≡ get_or xs i x → slice_get xs i ≡ Some x
read_there xs i x low read = slice_get-get_or xs i x low ∙ ap (λ z. Some z) (sym read)

-- the container of the memory that a container of the store shows
pub shown_there : (st : Store) (m : Memory) (ps : List Pointer) (vs : List Value) → Holds st m ps vs → (j : ℕ) (c : Container)
    → slice_get st.containers.items j ≡ Some c → (d : Cont) × (slice_get m.conts j ≡ Some d) × (contents c ≡ plain d)
shown_there st m ps vs h j c there = by_cont (slice_get m.conts j) refl
  where
    same : Some (contents c) ≡ option_map plain (slice_get m.conts j)
    same = sym (get_map contents st.containers.items j c there)
        ∙ (ap (λ (l : List Plain). slice_get l j) h.shows.containers ∙ slice_get-map plain m.conts j)

    by_cont : (o : Option Cont) → slice_get m.conts j ≡ o → (d : Cont) × (slice_get m.conts j ≡ Some d) × (contents c ≡ plain d)
    by_cont None e = absurd (let q : Some (contents c) ≡ None = same ∙ ap (option_map plain) e in cc)
    by_cont (Some d) e = let q : Some (contents c) ≡ Some (plain d) = same ∙ ap (option_map plain) e in (d, e, (cc))

-- its size
pub size_shown : (st : Store) (m : Memory) (ps : List Pointer) (vs : List Value) → Holds st m ps vs → (j : ℕ) (c : Container)
    → slice_get st.containers.items j ≡ Some c → length c.elements.items ≡ size (cont_at m j)
size_shown st m ps vs h j c there =
    let r = shown_there st m ps vs h j c there in
    ap (λ (x : Plain). length x.elements) r.2 ∙ (length-map r.0.cells element_of ∙ ap (λ (x : Cont). size x) (sym (cont_of_there m j r.0 r.1)))

-- the contents of a container that is there
pub contents-there : (st : Store) (j : ℕ) (c : Container) → slice_get st.containers.items j ≡ Some c → contents_at st j ≡ contents c
contents-there st j c there =
    ap (λ (o : Option Container). elim o as (λ _. Plain) [ None ↦ record { form = Vector; elements = []; room = 0 } | Some d ↦ contents d ]) there

-- the contents with a number among these, an empty container where it isn't there
abbrev pub listed : List Plain → ℕ → Plain
listed l j = elim (slice_get l j) [ None ↦ record { form = Vector; elements = []; room = 0 } | Some p ↦ p ]

-- what is put at another index doesn't change them
pub listed_other : (l : List Plain) (j i : ℕ) (x : Plain) → j ≢ i → listed (slice_set l j x) i ≡ listed l i
listed_other l j i x apart =
    ap (λ (o : Option Plain). elim o as (λ _. Plain) [ None ↦ record { form = Vector; elements = []; room = 0 } | Some p ↦ p ])
    (get_set_other l j i x apart)

-- the contents of a container are those among all
pub contents-listed : (st : Store) (j : ℕ) → contents_at st j ≡ listed (map contents st.containers.items) j
contents-listed st j = by_cont (slice_get st.containers.items j)
    ∙ sym (ap (λ (o : Option Plain). elim o as (λ _. Plain) [ None ↦ record { form = Vector; elements = []; room = 0 } | Some p ↦ p ])
    (slice_get-map contents st.containers.items j))
  where
    by_cont : (o : Option Container) → (elim o as (λ _. Plain) [ None ↦ record { form = Vector; elements = []; room = 0 } | Some d ↦ contents d ])
        ≡ (elim (option_map contents o) as (λ _. Plain) [ None ↦ record { form = Vector; elements = []; room = 0 } | Some p ↦ p ])
    by_cont None = refl
    by_cont (Some d) = refl

-- its elements
pub elements-there : (st : Store) (j : ℕ) (c : Container) → slice_get st.containers.items j ≡ Some c → elements_at st j ≡ c.elements.items
elements-there st j c there = ap (λ (x : Plain). x.elements) (contents-there st j c there)

-- a container of the store that is there shows that of the memory
pub contents_shown : (st : Store) (m : Memory) (ps : List Pointer) (vs : List Value) → Holds st m ps vs → (j : ℕ) → j < length st.containers.items
    → (slice_get m.conts j ≡ Some (cont_at m j)) × (contents_at st j ≡ plain (cont_at m j))
contents_shown st m ps vs h j low =
    let c = get_some st.containers.items j low in
    let r = shown_there st m ps vs h j c.0 c.1 in
    let e : cont_at m j ≡ r.0 = cont_of_there m j r.0 r.1 in
    (r.1 ∙ ap (λ (x : Cont). Some x) (sym e), contents-there st j c.0 c.1 ∙ (r.2 ∙ ap plain (sym e)))

-- what is read of a container that is there
pub element_there : (st : Store) (j k : ℕ) (c : Container) (x : Element) → slice_get st.containers.items j ≡ Some c
    → k < length (elements_at st j) → x ≡ get_or c.elements.items k x → slice_get (elements_at st j) k ≡ Some x
element_there st j k c x there inside read =
    let e : elements_at st j ≡ c.elements.items = elements-there st j c there in
    ap (λ (l : List Element). slice_get l k) e
    ∙ read_there c.elements.items k x (subst (λ (l : List Element). k < length l) e inside) read

-- its form and its room
pub form_shown : (st : Store) (m : Memory) (ps : List Pointer) (vs : List Value) → Holds st m ps vs → (j : ℕ) (c : Container)
    → slice_get st.containers.items j ≡ Some c → (c.form ≡ (cont_at m j).form) × (c.room ≡ (cont_at m j).room)
form_shown st m ps vs h j c there =
    let r = shown_there st m ps vs h j c there in
    let e : cont_at m j ≡ r.0 = cont_of_there m j r.0 r.1 in
    (ap (λ (x : Plain). x.form) r.2 ∙ ap (λ (x : Cont). x.form) (sym e), ap (λ (x : Plain). x.room) r.2 ∙ ap (λ (x : Cont). x.room) (sym e))

-- a number of an element
part_shown : (which : Part) (x : Cell) → number_of (part_code which) (element_of x) ≡ part_of which x
part_shown key_part x = refl
part_shown value_part x = refl

-- the number at a place
pub element_shown : (st : Store) (m : Memory) (ps : List Pointer) (vs : List Value) → Holds st m ps vs → (j k : ℕ) (c : Container) (x : Element)
    (which : Part) → slice_get st.containers.items j ≡ Some c → slice_get (elements_at st j) k ≡ Some x
    → number_of (part_code which) x ≡ element m j k which
element_shown st m ps vs h j k c x which there at =
    let r = shown_there st m ps vs h j c there in
    let same : Some x ≡ option_map element_of (slice_get r.0.cells k) =
    sym at ∙ (ap (λ (l : List Element). slice_get l k) (elements-there st j c there)
    ∙ (ap (λ (y : Plain). slice_get y.elements k) r.2 ∙ slice_get-map element_of r.0.cells k)) in
    by_cell r.0 (cont_of_there m j r.0 r.1) (slice_get r.0.cells k) refl same
  where
    by_cell : (d : Cont) → cont_at m j ≡ d → (o : Option Cell) → slice_get d.cells k ≡ o → Some x ≡ option_map element_of o
        → number_of (part_code which) x ≡ element m j k which
    by_cell d is None q same = absurd (cc)
    by_cell d is (Some y) q same =
        let z : x ≡ element_of y = cc in
        let a : slice_get (cont_at m j).cells k ≡ Some y = ap (λ (b : Cont). slice_get b.cells k) is ∙ q in
        ap (number_of (part_code which)) z ∙ (part_shown which y
        ∙ sym (ap (λ (o : Option Cell). elim o as (λ _. ℤ) [ None ↦ pos 0 | Some w ↦ part_of which w ]) a))
