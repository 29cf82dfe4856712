-- Definitions of typing that proofs open.
pub use Rattle.sl_typing.specs.Sites.{is_site}
