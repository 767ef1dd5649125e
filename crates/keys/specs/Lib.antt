pub mod Bounds
pub mod ByteKey
pub mod KeyKind
pub mod KeyRange
pub mod Pairing
pub mod StopKey
pub mod Stored
