-- what the programs name through this crate
pub use Rattle.conclusion.specs as conclusion
pub use Rattle.names_text.specs as names_text
pub mod Statuses
pub mod Numbers
pub mod Lines
pub mod Puts
pub mod LinePuts
pub mod Fetching
pub mod Conclusions
pub mod Words
pub mod Running
