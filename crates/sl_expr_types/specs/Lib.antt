-- ## Types of arguments
pub mod Few
-- ## Numbers of sites
pub mod Capped
-- ## What proofs open
pub mod Opened
-- ## What the private contracts say
pub mod Means
