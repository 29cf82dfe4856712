-- Places in the table of size facts.
use Rattle.std.proofs.Common.{◌≢◌, ◌⊎◌, ℕ, ◌+◌, ◌*◌, ◌<◌, ⊎_elim, arith}

-- different scalars or containers have different places
pub apart : (x c y d : ℕ) → c < 16 → d < 16 → (y ≢ x ⊎ d ≢ c) → y * 16 + d ≢ x * 16 + c
apart x c y d p q h = λ e. ⊎_elim (λ (ne : y ≢ x). ne (omega arith)) (λ (ne : d ≢ c). ne (omega arith)) h
