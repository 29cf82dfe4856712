-- ## What begins at a place, kind by kind
pub mod FirstLaws
pub mod WordLaws
pub mod CommentLaws
pub mod TextLaws
pub mod DirectiveLaws
pub mod MarkLaws
-- ## The longest piece
pub mod PieceLaws
pub mod FrontLaws
-- ## Cuts of a text, its tokens and its fault
pub mod CutLaws
pub mod TokenOrder
pub mod LexLaws
-- ## Texts worked by hand
pub mod Examples
