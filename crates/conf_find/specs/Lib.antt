-- what crates above name through this one
pub use Rattle.join_find.specs as join_find
pub use Rattle.label_find.specs as label_find
pub mod Fork
pub mod ForkRows
pub mod Parted
pub mod SharedCaps
pub mod Marks
pub mod Laws
pub mod ReachedSides
