-- What the analysis warns of is a report on a text.
use Rattle.std.proofs.Common.{ℕ, List}
use Rattle.sl_syntax.specs.declared.subset.Text.{Text}
use Rattle.sl_tool.specs.Answers.{IsReport}
use Rattle.sl_tool.specs.Means.Analysis.{nothing_known, warnings_of}
use Rattle.sl_warnings.specs.Reports.{IsAscending}
use Rattle.sl_tool.specs.Means.Told.{KillersAscend}
use Rattle.sl_tool.specs.Subset.{IsBuilt, IsOfText}
use Rattle.sl_tool.specs.Means.Told.{report_of}
use Rattle.sl_tool.proofs.Soundness.{reports, meaning}
use Rattle.sl_tool.proofs.Founded.{uses-declared, exact-built, order-built, founded-built}

pub is_report : (text : List ℕ) (p : Text) → IsBuilt text p → IsReport p (report_of p.names (warnings_of nothing_known p.stmts))
is_report text p built = record {
  reports = reports p (uses-declared built.0 p built.2);
  meaning = meaning p (uses-declared built.0 p built.2);
  exact = exact-built text p built;
  in_order = order-built text p built;
  founded = founded-built text p built;
}

-- They are in order.
pub ordered : (p : Text) → IsOfText p → IsAscending (report_of p.names (warnings_of nothing_known p.stmts))
ordered p (text, built) = order-built text p built

-- Their killers ascend.
pub ascending : (p : Text) → IsOfText p → KillersAscend (report_of p.names (warnings_of nothing_known p.stmts))
ascending p (text, built) i w h = (founded-built text p built i w h).ascend
