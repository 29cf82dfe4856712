pub mod LimitLaws
