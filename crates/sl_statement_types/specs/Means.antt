-- Parts of definitions as the code has them. Nobody has to believe them.
pub mod Blocks
pub mod Bound
