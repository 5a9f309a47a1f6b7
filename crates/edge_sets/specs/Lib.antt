pub mod EdgeSets
pub mod Cells
pub mod SetLaws
pub mod BitRows
