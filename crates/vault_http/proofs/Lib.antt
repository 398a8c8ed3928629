pub mod Answering
pub mod Bytes
pub mod Closing
pub mod Counting
pub mod Fed
pub mod Serving
pub mod Telling
