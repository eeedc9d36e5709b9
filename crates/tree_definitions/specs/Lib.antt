-- what crates above name through this one
pub use Rattle.strategies.specs.cert_step
pub use Rattle.strategies.specs.conf_find
pub use Rattle.strategies.specs as strategies
pub mod Goals
pub mod Questions
pub mod History
pub mod Marks
pub mod States
pub mod Verdicts
pub mod Events
pub mod Legal
pub mod Trees
pub mod Replies
pub mod Reports
