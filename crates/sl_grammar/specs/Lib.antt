-- How the reader reads, step by step. What the grammar is, sl_syntax says; nobody has to believe what stands here.
pub mod Means
