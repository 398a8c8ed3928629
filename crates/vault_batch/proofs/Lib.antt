pub mod BatchStops
pub mod Fields
pub mod ReaderProgress
pub mod TokenCounts
pub mod TokenReplies
