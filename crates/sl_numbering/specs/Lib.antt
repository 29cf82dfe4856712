-- ## What the code sees
pub mod WaysView
-- ## Which scopes have numbers that a typed text can write
pub mod Numbered
-- ## What the private contracts say
pub mod Means
pub mod Opened
