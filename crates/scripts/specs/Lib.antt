pub mod Command
pub mod Lacking
pub mod Strategy
