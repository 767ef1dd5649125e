mod Hexes
mod Numbers
mod Stops
pub mod Options
pub mod Readings
mod Cuts
