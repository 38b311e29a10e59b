pub mod Faults
pub mod Dealing
pub mod Reading
pub mod Ends
pub mod Filing
pub mod ManyRuns
pub mod StoredRuns
