-- The promises are those of the definitions of typing. Here stands only what the private contracts say beside them.
pub mod Means
