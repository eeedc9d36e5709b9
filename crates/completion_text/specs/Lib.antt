-- what crates above name through this one
pub use Rattle.path_lpo.specs as path_lpo
pub use Rattle.completion.specs as completion
pub mod OrderText
pub mod Unreadable
pub mod OrderAnswers
pub mod CompletionText
pub mod Answers
