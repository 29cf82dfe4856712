-- ## Functions and sites
pub mod Few
-- ## What the nodes of a text pass
pub mod Nodes
pub mod Told
pub mod StatementNodes
pub mod Names
-- ## What the nodes of a text add
pub mod Silent
pub mod Counting
pub mod Upto
pub mod Referred
pub mod Kept
pub mod Variables
pub mod Loops
-- ## Sites
pub mod Same
pub mod Killing
pub mod Sites
-- ## The numbers of sites
pub mod NumberedNodes
pub mod LeftSides
pub mod Objects
pub mod NumberedArguments
pub mod NumberedSites
pub mod NumberedParts
pub mod NumberedStatements
