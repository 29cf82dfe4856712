-- The lines of an end as the code has it: what private contracts say. Nobody has to believe it.
pub mod Means
