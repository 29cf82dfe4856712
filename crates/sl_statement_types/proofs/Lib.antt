pub mod BlockLaws
pub mod LimitLaws
pub mod BoundLaws
pub mod ReadLaws
pub mod ConstructorLaws
pub mod InitializerLaws
