pub mod PathLaws
pub mod PathsOnce
pub mod Growing
pub mod Longer
pub mod KnownReducts
