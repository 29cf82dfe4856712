use Rattle.std.proofs.Common.{◌++◌, ap}
use Rattle.sl_warnings.proofs.Sites.{sites_in-none}
use Rattle.sl_tool.proofs.ReportLaws.{set-step}
use Rattle.sl_tool.proofs.reporting.set_of.Goals as goal

pub loop-site-init : goal.loop-site-init
loop-site-init c = ap (λ l. l ++ c.args.sites.now) (sites_in-none c.empty-kills.result c.empty-kills.ensures)

pub loop-site-preserved : goal.loop-site-preserved
loop-site-preserved c = set-step c.args.sites.now c.loop-site.site-index c.site-item.result c.loop-site.kills c.with-kills.result c.requires
    c.loop-site-test.true c.site-item.is c.loop-site.invariant c.with-kills.ensures.same c.with-kills.ensures.others
