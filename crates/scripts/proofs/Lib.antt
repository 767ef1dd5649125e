mod Bodies
mod Bounds
mod Lackings
mod Lines
mod Ratios
mod Readers
mod Strategies
mod Tables
