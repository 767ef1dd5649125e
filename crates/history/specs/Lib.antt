pub mod Alike
pub mod Picks
pub mod Replay
