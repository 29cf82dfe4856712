-- The promises are those of the reader in sl_grammar. Here stands only what the private contracts say beside it.
pub mod Means
