-- How ranges of a call fail.
use Rattle.std.specs.Prelude.{ℕ, ◌+◌, ◌==◌, ◌&&◌, nat_lt, nat_le, Bool, not, List, if◌then◌else◌}
use Rattle.sl_base.specs.declared.failures.TheConstants.{OWN_ELEMENTS, OVERLAP, NOT_SORTED}
use Rattle.sl_model.specs.Memory.Orders.{is_ascending}
use Rattle.sl_model.specs.LibraryCalls.Situation.{Situation, index, container_of}
use Rattle.sl_model.specs.LibraryCalls.Needs.{is_range, one_range_fails, overlap, is_filled_from, fails_if, valid_keys}
use Rattle.sl_needs.specs.declared.range_test.RangeTest.{RangeTest}
use Rattle.sl_needs.specs.declared.range_test.RangeTest.TheVariants.{Invalid, Overlapped, Filled, Unsorted}
use Rattle.sl_arguments.specs.Readings.{at}

-- so many places from one on meet those from low to below high; for std::copy, the first stands there
abbrev pub meets : Bool → ℕ → ℕ → ℕ → ℕ → Bool
meets copies k n low high = if copies then nat_le low k && nat_lt k high else overlap k (k + n) low high

-- an output overlaps the range at an argument
abbrev pub overlaps_as : Bool → Situation → ℕ × ℕ → ℕ → ℕ → Bool
overlaps_as copies s o n f = (is_range s f && o.0 == container_of s f) && meets copies o.1 n (index s f) (index s (f + 1))

-- the failures of the range at an argument in a test
abbrev pub range_fails : RangeTest → Situation → ℕ → List (ℕ × ℕ)
range_fails (Invalid any_way) s a = one_range_fails any_way s a
range_fails (Overlapped output count copies argument) s a = fails_if (overlaps_as copies s (at output) count a) OVERLAP argument
range_fails (Filled container argument) s a = fails_if (is_filled_from s container a) OWN_ELEMENTS argument
range_fails Unsorted s a = fails_if (not (is_ascending (valid_keys s a))) NOT_SORTED a
