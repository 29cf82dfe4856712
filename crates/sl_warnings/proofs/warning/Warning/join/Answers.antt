use Rattle.std.proofs.Common.{List, ℕ, ap}
use Rattle.sl_warnings.specs.Views.{warning_of}
use Rattle.sl_model.specs.Reports.Covers.{Warning}
use Rattle.sl_warnings.proofs.Sites.{sites_in-either}
use Rattle.sl_warnings.proofs.warning.Warning.join.Goals as goal

pub returns : goal.returns
returns c =
    let w : Warning = warning_of c.args.self.now in
    ap (λ (ks : List ℕ). record w { killers = ks })
    (sites_in-either c.union-self.result c.args.self.now.killers c.args.killers.now c.union-self.ensures)
