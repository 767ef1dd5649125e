pub mod Alike
pub mod Lexes
pub mod Numbers
pub mod Orders
pub mod Spares
