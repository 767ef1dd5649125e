pub mod Calls
pub mod Carrying
pub mod Desk
pub mod History
pub mod Lines
pub mod Malformed
pub mod Show
