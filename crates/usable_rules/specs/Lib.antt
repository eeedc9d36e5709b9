pub mod AreUsable
pub mod UsableConditions
pub mod Laws
pub mod Worklist
