pub mod WonGoals
pub mod SampleNames
pub mod SampleRules
pub mod SampleSystems
