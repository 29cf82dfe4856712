-- The parts of a reader as the code has them, beside the reader of sl_grammar. Nobody has to believe them.
pub mod Nests
pub mod Reader
pub mod EffectViews
