-- ## What the private contracts say
pub mod Means
