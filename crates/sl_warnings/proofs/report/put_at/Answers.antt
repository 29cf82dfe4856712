use Rattle.std.proofs.Common.{◌∙◌}
use Rattle.sl_warnings.proofs.Spots.{spot_eq, spot_eq-cmp}
use Rattle.sl_warnings.proofs.Entries.{put-new}
use Rattle.sl_warnings.proofs.report.put_at.Goals as goal

pub returns-clause-put : goal.returns-clause-put
unfolding spot_eq
returns-clause-put c =
    let put = c.in_ok-insert_before.ensures in
    put.entries ∙ put-new spot_eq spot_eq-cmp c.args.warnings.now.entries c.args.spot c.args.warning c.args.at c.in_ok-insert_before.field-0.0
    c.requires.new c.requires.within put.index
