pub mod Edits
pub mod HiddenSet
pub mod Level
pub mod Members
pub mod Recount
pub mod Sound
pub mod Tables
pub mod Tests
