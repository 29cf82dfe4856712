-- ## What is in scope
pub mod Numbered
pub mod Sound
-- ## Calls of the text's own
pub mod Alias
-- ## Nodes
pub mod Kept
pub mod Nodes
-- ## Statements
pub mod Statements
-- ## Programs
pub mod Programs
pub mod NoAlias
-- ## Effects
pub mod Values
pub mod Covers
pub mod QuietRows
pub mod Still
pub mod Does
pub mod Containers
pub mod FormRows
pub mod Moved
pub mod OwnChanges
pub mod Swap
pub mod Operators
pub mod Objects
-- ## Calls of algorithms
pub mod AlgorithmRows
pub mod Appending
pub mod AlgorithmDeeds
-- ## Expressions
pub mod Deeds
pub mod Orders
pub mod BesideAppender
pub mod Ordered
