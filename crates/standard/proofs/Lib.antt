pub mod StandardAlike
