pub mod Edges
pub mod Kinds
pub mod LimitRange
pub mod Texts
