-- what crates above name through this one
pub use Rattle.dp_core.specs as dp_core
pub mod Edge
pub mod GroupOrSingle
pub mod GraphConditions
pub mod Laws
pub mod GraphNodes
pub mod Unnamed
pub mod EarlierPairs
pub mod ByRoot
pub mod Rows
pub mod RulePlaces
pub mod Reversed
pub mod FoundPlaces
pub mod Leaders
pub mod Finishing
pub mod PutOut
pub mod PlaceLists
pub mod Waiting
pub mod Components
pub mod SameLefts
pub mod NotedRules
pub mod WordRows
pub mod FlagRows
pub mod CapRows
pub mod PairNodes
pub mod RightPlaces
