pub mod Standard
pub mod StandardLaws
