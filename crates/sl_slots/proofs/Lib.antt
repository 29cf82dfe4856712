-- ## Lists
mod Mapping
-- ## Slots of marks, and what becomes of them
mod SlotLaws
mod Following
mod ChangeLaws
-- ## What a store shows after each change
mod MakingShows
mod EndingShows
mod Elements
mod EditLaws
mod EditShows
pub mod ReadingShows
mod WritingShows
mod Taking
mod RearrangingShows
mod Going
mod TradeLaws
mod TradingShows
