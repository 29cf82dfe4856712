-- The promises are those of the rule on the order of effects in sl_typing. Here stands only what the private contracts say beside it.
pub mod Means
