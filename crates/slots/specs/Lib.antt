pub mod Admitted
pub mod Held
pub mod Job
pub mod Sound
pub mod View
