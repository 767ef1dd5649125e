pub mod Cursor
pub mod SliceWindows
