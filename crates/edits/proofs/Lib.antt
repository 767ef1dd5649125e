pub mod Arrivals
pub mod Parting
pub mod Recounting
pub mod Reducing
