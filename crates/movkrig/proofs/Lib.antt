pub mod Fronts
pub mod Pairs
pub mod Splitting
pub mod Spelling
