-- ## What variables that changed are those of
pub mod CameShows
pub mod SetShows
pub mod CutShows
pub mod ElementsShow
pub mod BoundShows
