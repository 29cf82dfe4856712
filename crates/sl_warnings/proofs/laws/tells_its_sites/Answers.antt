use Rattle.sl_warnings.proofs.Sites.{sites_in-has, has-sites_in}
use Rattle.sl_warnings.proofs.laws.tells_its_sites.Goals as goal

pub returns : goal.returns
returns c = λ k site. (sites_in-has k site, has-sites_in k site)
