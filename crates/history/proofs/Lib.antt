pub mod Alike
pub mod Lawful
pub mod Picks
pub mod Runs
