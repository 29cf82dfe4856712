-- The promises are those of sl_typing. Here stands only what the private contracts say beside them.
pub mod Means
