pub mod Behind
pub mod WindowLists
pub mod WindowSums
