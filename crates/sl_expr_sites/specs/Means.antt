-- Definitions of typing that the code's proofs open.
pub use Rattle.sl_typing.specs.Sites.{own_site}
