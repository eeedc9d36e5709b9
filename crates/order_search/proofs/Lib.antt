-- what crates above name through this one
pub use Rattle.dp_core.proofs as dp_core
pub mod Tests
pub mod Agreeing
pub mod OrderLawful
pub mod SlotLayout
pub mod Growing
pub mod Covered
pub mod Constraints
pub mod Repeats
pub mod TwoParts
pub mod OwnConstraints
pub mod SaidEntries
pub mod LowSymbols
pub mod Answered
pub mod OfProblem
pub mod OrderLaw
pub mod PlacedEntries
pub mod Lawful
pub mod SlotConstraints
pub mod Solutions
pub mod TakenPairs
pub mod RootSets
pub mod FewPairs
pub mod PlacingSymbols
pub mod LastPlaces
pub mod MarkedSides
