pub mod Parts
pub mod Decided
pub mod Faults
pub mod SelectionErrors
pub mod ElementwiseErrors
pub mod LookupErrors
pub mod StepErrors
pub mod Runs
