-- What this crate promises, it says in the words of sl_typing. Here stands only what its private contracts say.
pub mod Means
