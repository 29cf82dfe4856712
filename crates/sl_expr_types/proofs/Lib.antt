-- ## Views of the code's tree
pub mod Views
-- ## Types of arguments
pub mod FewLaws
pub mod LastLaws
-- ## Looks
pub mod LooksLaws
-- ## Types
pub mod TypeLaws
-- ## Sites
pub mod SiteLaws
pub mod CountLaws
