-- Definitions of typing that proofs open.
pub use Rattle.sl_typing.specs.Rules.{assigns_const, assigns_weaker}
pub use Rattle.sl_typing.specs.WrongType.{wrong_assignment}
