-- What a look finds, in the words of sl_typing.
pub mod Looks
-- ## What proofs open
pub mod Opened
-- ## What the private contracts say
pub mod Means
