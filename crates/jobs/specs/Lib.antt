pub mod Booking
pub mod Call
pub mod Ending
pub mod Open
pub mod View
