pub mod JobLines
pub mod Jobs
pub mod Windows
pub mod Steps
pub mod Reports
pub mod Console
