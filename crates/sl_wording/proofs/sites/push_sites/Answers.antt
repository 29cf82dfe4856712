use Rattle.std.proofs.Common.{append_assoc}
use Rattle.sl_wording.proofs.SitesLaws.{sites_text-first}
use Rattle.sl_wording.proofs.sites.push_sites.Goals as goal

pub returns-in_ok-push_further : goal.returns-in_ok-push_further
returns-in_ok-push_further c =
    rw (
      sites_text-first c.args.sites.now c.args.killers.now c.first-item.result c.in-len1-up.len_at_least c.first-item.is,
      c.in_ok-push_further.ensures,
      c.in_ok-push_site.ensures,
      c.in_ok-extend_from_slice.ensures.extended,
    ) (simp append_assoc)
