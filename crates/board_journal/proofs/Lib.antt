pub mod LinkSteps
pub mod Asking
