pub mod Rounding
pub mod Scores
pub mod Settings
pub mod Targets
