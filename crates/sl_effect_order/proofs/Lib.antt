-- ## Views of the code's tree
pub mod TreeLaws
-- ## What is still
pub mod StillLaws
-- ## Deeds as another part sees them
pub mod SeenLaws
pub mod OwnLaws
pub mod DeedLaws
-- ## The rule
pub mod RuleLaws
