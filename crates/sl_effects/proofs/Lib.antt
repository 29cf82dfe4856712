-- ## Lists
mod Turns
mod Putting
mod KeyLaws
-- ## What stores have, before and after a change
mod Stores
-- ## What is carried out
mod AppendLaws
mod AddLaws
mod HashLaws
mod InsertLaws
mod MakeLaws
mod EffectLaws
