-- ## Lists, and the sites of expressions
pub mod Lists
pub mod Expressions
-- ## Names and scopes
pub mod Positions
pub mod ScopeLaws
pub mod Lookups
-- ## What stands before a place only grows
pub mod Growth
pub mod StatementGrowth
-- ## Each part that breaks no rule keeps all within the limits
pub mod ContextLaws
pub mod HiddenLaws
pub mod ValueFaults
pub mod Declarations
pub mod Effects
pub mod SiteNumbers
pub mod PartFaults
pub mod StatementParts
pub mod Statements
-- ## Functions and programs
pub mod Parameters
pub mod Functions
pub mod Lasting
pub mod Programs
pub mod TypedFunctions
-- ## How wide numbers are
pub mod Narrow
