pub mod Edges
pub mod Fronts
pub mod LevelEdges
pub mod Marks
pub mod Merge
pub mod Movable
pub mod Pick
pub mod PickLaw
