pub mod Alike
pub mod Falls
pub mod Neighbours
pub mod Sorteds
pub mod Spans
mod Totals
