-- What the parser promises, `parse` says in the words of sl_syntax. Here stands only what its private contracts say.
pub mod Means
