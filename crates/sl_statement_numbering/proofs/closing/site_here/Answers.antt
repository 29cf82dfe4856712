use Rattle.sl_statement_numbering.proofs.RoomLaws.{site_number_free}
use Rattle.sl_statement_numbering.proofs.closing.site_here.Goals as goal

pub new-requires : goal.new-requires
new-requires c = rw c.sites.ensures (site_number_free _ (rw c.if-is_site.true at c.requires.free) c.requires.within)
