pub mod Changes
pub mod Close
pub mod Land
