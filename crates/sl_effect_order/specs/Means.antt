-- What a part does as another part sees it. Nobody has to believe it.
pub mod Seen
