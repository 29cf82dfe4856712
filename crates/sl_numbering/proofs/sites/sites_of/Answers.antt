use Rattle.std.proofs.Common.{◌∙◌}
use Rattle.sl_numbering.proofs.SiteLaws.{capped-few}
use Rattle.sl_numbering.proofs.sites.sites_of.Goals as goal

pub returns : goal.returns
returns c = c.site_count.ensures ∙ capped-few _ c.requires
