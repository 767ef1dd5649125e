pub mod Closings
pub mod Faults
pub mod Landings
pub mod Left
pub mod Rooms
pub mod Swaps
