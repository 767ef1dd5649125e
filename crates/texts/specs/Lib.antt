pub mod Fault
pub mod Field
pub mod Hex
pub mod KeyText
pub mod Lacking
pub mod Reading
pub mod Words
