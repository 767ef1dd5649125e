pub mod Admitting
pub mod Apart
pub mod Holding
pub mod Running
pub mod Tests
