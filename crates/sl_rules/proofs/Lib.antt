-- ## The first of several faults
pub mod FirstLaws
-- ## The faults of an expression, variant by variant
pub mod FaultLaws
-- ## Numbers of sites past the limit
pub mod CappedLaws
-- ## Elements, by their looks
pub mod ElementLaws
-- ## Arguments and their parameters
pub mod ArgumentLaws
-- ## Rows, from the types that are kept
pub mod FewLaws
-- ## A node's own rules, variant by variant
pub mod CheckLaws
-- ## What a look at a node finds
pub mod LookLaws
pub mod CallLookLaws
-- ## A loop over arguments
pub mod WalkLaws
