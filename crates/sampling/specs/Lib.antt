-- what crates above name through this one
pub use Rattle.dp_core.specs as dp_core
pub mod Judged
pub mod Line
pub mod Family
pub mod FamilyLaws
