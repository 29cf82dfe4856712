-- ## What the code finds
pub mod Found
-- ## What the private contracts say
pub mod Means
