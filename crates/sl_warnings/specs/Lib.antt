-- What a report is, and what warnings and reports tell.
pub mod Reports
pub mod Views
-- How a report is kept: what private contracts and the invariant say. Nobody has to believe it.
pub mod Means
