-- What the analysis warns of, as warnings of a report.
use Rattle.std.specs.Prelude.{◌≡◌, ℕ, List, [], map, Some, slice_get, codes}
use Rattle.sl_base.specs.declared.failures.TheConstants.{INVALID_ITERATOR, END_ITERATOR}
use Rattle.sl_model.specs.Reports.Covers.{Warning}
use Rattle.sl_tool.specs.declared.analysis.Warning.{Warning as WarningCode}
use Rattle.sl_tool.specs.declared.analysis.Fault.{Fault}
use Rattle.sl_tool.specs.declared.analysis.Fault.TheVariants.{InvalidIterator, EndIterator}
use Rattle.sl_tool.specs.Exactness.{Ascend}

-- the number of a fault's kind
abbrev pub kind_of : Fault → ℕ
kind_of (InvalidIterator killers) = INVALID_ITERATOR
kind_of EndIterator = END_ITERATOR

-- the sites that may have invalidated
abbrev pub killers_in : Fault → List ℕ
killers_in (InvalidIterator killers) = killers
killers_in EndIterator = []

-- a warning at `*`, whose operand is argument 1 and has a name among these
abbrev pub warning_of : List (List ℕ) → WarningCode → Warning
warning_of names w = record {
  place = w.place;
  kind = kind_of w.fault;
  call = codes "*";
  argument = 1;
  name = slice_get names w.name;
  killers = killers_in w.fault;
}

abbrev pub report_of : List (List ℕ) → List WarningCode → List Warning
report_of names ws = map (warning_of names) ws

-- the killers of each warning ascend
abbrev pub KillersAscend : List Warning → Type 0
KillersAscend r = (i : ℕ) (w : Warning) → slice_get r i ≡ Some w → Ascend w.killers
