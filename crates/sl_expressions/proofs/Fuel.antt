-- Fuel: a reader that is given a number of turns, and code that counts the turns that it has made.
use Rattle.std.proofs.Common.{◌≡◌, ℕ, suc, ◌+◌, ◌-◌, ◌<◌, ap, ◌∙◌, arith}

fuel_after : (total made : ℕ) → made < total → total - made ≡ suc (total - (made + 1))
fuel_after total made h = omega arith

-- what holds with the fuel left holds with one turn taken from it
pub next_turn : {X : Type 0} {x : X} (f : ℕ → X) (total made : ℕ) → made < total → x ≡ f (total - made) → x ≡ f (suc (total - (made + 1)))
next_turn f total made h given = given ∙ ap f (fuel_after total made h)

-- fuel that isn't gone is one level and the rest
pub one_level : {X : Type 0} (f : ℕ → X) (depth : ℕ) → 0 < depth → f depth ≡ f (suc (depth - 1))
one_level f depth h = let split : depth ≡ suc (depth - 1) = omega arith in ap f split
