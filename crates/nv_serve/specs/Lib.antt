pub mod Header
pub mod Answer
pub mod Serving
pub mod Handling
pub mod Reading
pub mod Served
pub mod inner
