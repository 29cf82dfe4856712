-- Keys that stand in an order of an ordered form's ascend.
use Rattle.std.proofs.Common.{◌≡◌, ◌&&◌, Bool, true, false, IsTrue, List, [], ◌∷◌, refl, ℤ, int_lt, int_le, arith}
use Rattle.std.proofs.lemmas.Int.{ints}
use Rattle.sl_base.specs.declared.form.Form.{Form}
use Rattle.sl_base.specs.declared.form.Form.TheVariants as f
use Rattle.sl_specs.specs.Forms.{is_hash, is_keyed}
use Rattle.sl_model.specs.Memory.Orders.{is_ascending}
use Rattle.sl_model.specs.Memory.Orderly.{EachPair, AreInOrder}

-- both hold
both : (a b : Bool) → IsTrue a → IsTrue b → IsTrue (a && b)
both true b h k = k
both false b h k = absurd (cc)

-- keys of which none is less than one before it
not_less : (xs : List ℤ) → EachPair (λ x y. IsTrue (int_le x y)) xs → IsTrue (is_ascending xs)
not_less [] h = refl
not_less (x ∷ []) h = refl
not_less (x ∷ y ∷ ys) h = both (int_le x y) (is_ascending (y ∷ ys)) h.0.0 (not_less (y ∷ ys) h.1)

-- keys of which each is greater than those before it
greater : (xs : List ℤ) → EachPair (λ x y. IsTrue (int_lt x y)) xs → IsTrue (is_ascending xs)
greater [] h = refl
greater (x ∷ []) h = refl
greater (x ∷ y ∷ ys) h = both (int_le x y) (is_ascending (y ∷ ys)) (no_greater x y h.0.0) (greater (y ∷ ys) h.1)
  where
    no_greater : (a b : ℤ) → IsTrue (int_lt a b) → IsTrue (int_le a b)
    no_greater a b less = grind (arith, ints)

-- so it is in each ordered form
pub order-ascends : (form : Form) (xs : List ℤ) → is_keyed form ≡ true → is_hash form ≡ false → AreInOrder form xs → IsTrue (is_ascending xs)
order-ascends f.Vector xs e n h = absurd (cc)
order-ascends f.Deque xs e n h = absurd (cc)
order-ascends f.List xs e n h = absurd (cc)
order-ascends f.Set xs e n h = greater xs h
order-ascends f.Map xs e n h = greater xs h
order-ascends f.HashSet xs e n h = absurd (cc)
order-ascends f.HashMap xs e n h = absurd (cc)
order-ascends f.MultiSet xs e n h = not_less xs h
order-ascends f.MultiMap xs e n h = not_less xs h
