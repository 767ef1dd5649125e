pub mod Fresh
pub mod Pairing
pub mod Run
pub mod Search
