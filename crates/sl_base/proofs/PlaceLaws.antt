-- The place behind a front of a text, as one equation.
use Rattle.std.proofs.Common.{◌≡◌, ℕ, List, ap, ◌∙◌}
use Rattle.sl_base.specs.declared.place.Place.{Place}
use Rattle.sl_base.specs.Places.{line_after, col_after, IsAfter}

pub IsAfter-is : (front : List ℕ) (p : Place) → IsAfter front p → p ≡ record { line = line_after front; col = col_after front }
IsAfter-is front p h =
    ap (λ (l : ℕ). let q : Place = record { line = l; col = p.col } in q) h.line
    ∙ ap (λ (c : ℕ). let q : Place = record { line = line_after front; col = c } in q) h.col
