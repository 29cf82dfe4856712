-- Definitions of typing that the code's proofs open.
pub use Rattle.sl_typing.specs.Sites.{at_word, inside, own_site, site_number}
