-- ## Sites of expressions
pub mod SiteLaws
-- ## Scopes
pub mod ScopeLaws
pub mod LoopScopes
