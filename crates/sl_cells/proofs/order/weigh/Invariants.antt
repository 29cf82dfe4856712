use Rattle.std.proofs.Common.{◌≡◌, ◌≢◌, ◌<◌, ℕ, ℤ, suc, List, length, get_or}
use Rattle.std.specs.List.{AllZip}
use Rattle.sl_intervals.specs.declared.sure.Sure.TheVariants.{Never, May, Always}
use Rattle.sl_intervals.specs.Intervals.{Holds, IsSingle}
use Rattle.sl_cells.specs.Windows.{HoldsItem, IsOnly, ShowsOrder}
use Rattle.sl_cells.specs.Means.Comparisons.{Stands}
use Rattle.sl_cells.proofs.order.weigh.Given as goal

abbrev pub invariant-loop-i : goal.invariant-loop-i
invariant-loop-i l = record {
  always : l.sure ≡ Always
      → (z : ℤ) (ys : List (ℤ × ℤ)) → Holds l.x z → AllZip HoldsItem l.items ys
      → (k : ℕ) (d e : ℤ × ℤ) → suc k < l.i → Stands l.order z (get_or ys k d).0 (get_or ys (suc k) e).0;
  never : l.sure ≡ Never
      → (k : ℕ) × (suc k < length l.items) × ((z : ℤ) (ys : List (ℤ × ℤ)) (d e : ℤ × ℤ) → Holds l.x z → AllZip HoldsItem l.items ys
      → Stands l.order z (get_or ys k d).0 (get_or ys (suc k) e).0 → ⊥);
  exact : (z : ℤ) (ys : List (ℤ × ℤ)) → IsSingle l.x z → AllZip IsOnly l.items ys → l.sure ≢ May;
  shown : ShowsOrder l.items → l.sure ≡ Always;
}
