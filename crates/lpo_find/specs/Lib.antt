pub mod LpoSpace
pub mod LpoRow
pub mod LpoDepends
pub mod LpoLawful
pub mod Laws
pub mod Filters
pub mod KeptSides
