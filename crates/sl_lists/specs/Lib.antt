-- What is due of both kinds of lists.
pub mod Decided
-- How lists are read: what private contracts say. Nobody has to believe it.
pub mod Means
