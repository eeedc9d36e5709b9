pub mod Free
pub mod Families
pub mod Systems
pub mod Substitutions
pub mod LinearInstances
pub mod AnyInstances
pub mod RulePeaks
pub mod NestedSteps
pub mod RankedPeaks
pub mod StrongPeaks
pub mod JoinedPeaks
pub mod ParallelPeaks
pub mod Claims
pub mod Apart
pub mod CriticalCover
pub mod FollowedPaths
pub mod ParallelPaths
mod Constants
mod Examples
mod ParallelExample
mod PathExample
mod TooGeneral
mod Counterexamples
mod LeftLinearNeeded
mod StrongHalfNeeded
mod RightLinearNeeded
pub mod Joins
pub mod BoundedRuns
pub mod BetweenRuns
pub mod Strong
pub mod Tiles
pub mod Decreasing
pub mod Sides
pub mod Example
pub mod NormalForms
pub mod CapsApart
pub mod CapClash
mod ForkExamples
mod CapExample
