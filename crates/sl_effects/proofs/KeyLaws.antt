-- The key that a scan of elements is looking for, and how many keys go before it.
use Rattle.std.proofs.Common.{◌≡◌, ℕ, ◌+◌, ◌<◌, Bool, true, false, List, Some, length, take, drop, get_or, ap, sym, ◌∙◌, arith, ℤ}
use Rattle.std.proofs.Common.{if◌then◌else◌}
use Rattle.std.proofs.lemmas.List.{at_drop_more, length-map, get_or-map}
use Rattle.std.proofs.lemmas.List.Filters.{length-filter_more}
use Rattle.sl_model.specs.Memory.Orders.{same, first_of_key, index_of_key, how_many}
use Rattle.sl_effects.specs.Means.Keys.{keys_of}
use Rattle.sl_slots.specs.declared.container.Element.{Element}

-- one element more is looked at
find_step : (key : ℤ) (es : List Element) (i : ℕ) (d : Element) → i < length es
    → first_of_key key i (drop i (keys_of es))
    ≡ (if same key (get_or es i d).key then Some i else first_of_key key (i + 1) (drop (i + 1) (keys_of es)))
find_step key es i d low =
    let l : length (keys_of es) ≡ length es = length-map es (λ (x : Element). x.key) in
    at_drop_more (first_of_key key i) (keys_of es) i d.key (omega arith)
    ∙ ap (λ (z : ℤ). if same key z then Some i else first_of_key key (i + 1) (drop (i + 1) (keys_of es)))
    (get_or-map (λ (x : Element). x.key) es i d d.key low)

-- it has the key
pub found_here : (key key' : ℤ) (es : List Element) (i : ℕ) (d : Element) → i < length es → key' ≡ key
    → first_of_key key' i (drop i (keys_of es)) ≡ index_of_key key' (keys_of es) → same key' (get_or es i d).key ≡ true
    → Some i ≡ index_of_key key (keys_of es)
found_here key key' es i d low e so_far here =
    sym (ap (λ (b : Bool). if b then Some i else first_of_key key' (i + 1) (drop (i + 1) (keys_of es))) here)
    ∙ (sym (find_step key' es i d low) ∙ (so_far ∙ ap (λ (z : ℤ). index_of_key z (keys_of es)) e))

-- it doesn't have it
pub found_later : (key : ℤ) (es : List Element) (i : ℕ) (d : Element) → i < length es
    → first_of_key key i (drop i (keys_of es)) ≡ index_of_key key (keys_of es) → same key (get_or es i d).key ≡ false
    → first_of_key key (i + 1) (drop (i + 1) (keys_of es)) ≡ index_of_key key (keys_of es)
found_later key es i d low so_far other =
    sym (ap (λ (b : Bool). if b then Some i else first_of_key key (i + 1) (drop (i + 1) (keys_of es))) other)
    ∙ (sym (find_step key es i d low) ∙ so_far)

-- one key more is counted
pub counted_more : (test : ℤ → Bool) (es : List Element) (i : ℕ) (d : Element) → i < length es
    → how_many test (take (i + 1) (keys_of es)) ≡ how_many test (take i (keys_of es)) + (if test (get_or es i d).key then 1 else 0)
counted_more test es i d low =
    let l : length (keys_of es) ≡ length es = length-map es (λ (x : Element). x.key) in
    length-filter_more test (keys_of es) i d.key (omega arith)
    ∙ ap (λ (z : ℤ). how_many test (take i (keys_of es)) + (if test z then 1 else 0)) (get_or-map (λ (x : Element). x.key) es i d d.key low)

-- where it goes before the new one, and where it doesn't
pub counted_one : (test : ℤ → Bool) (es : List Element) (i count later : ℕ) (d : Element) → i < length es
    → count ≡ how_many test (take i (keys_of es)) → test (get_or es i d).key ≡ true → later ≡ count + 1
    → later ≡ how_many test (take (i + 1) (keys_of es))
counted_one test es i count later d low so_far t e =
    e ∙ (ap (λ (n : ℕ). n + 1) so_far
    ∙ sym (counted_more test es i d low ∙ ap (λ (b : Bool). how_many test (take i (keys_of es)) + (if b then 1 else 0)) t))

pub counted_none : (test : ℤ → Bool) (es : List Element) (i count later : ℕ) (d : Element) → i < length es
    → count ≡ how_many test (take i (keys_of es)) → test (get_or es i d).key ≡ false → later ≡ count
    → later ≡ how_many test (take (i + 1) (keys_of es))
counted_none test es i count later d low so_far t e =
    let more : how_many test (take (i + 1) (keys_of es)) ≡ how_many test (take i (keys_of es)) + 0 =
    counted_more test es i d low ∙ ap (λ (b : Bool). how_many test (take i (keys_of es)) + (if b then 1 else 0)) t in
    omega arith
