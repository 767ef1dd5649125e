pub mod Best
pub mod Digits
pub mod Limits
pub mod Literals
pub mod Places
pub mod Products
pub mod Quotients
pub mod Steps
