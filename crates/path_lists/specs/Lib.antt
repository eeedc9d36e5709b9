pub mod PathList
pub mod Growth
pub mod Adding
pub mod Laws
pub mod KnownEnds
