-- What no public contract reaches. Contracts of private functions use it, in other crates too.
pub mod Answer
pub mod Handling
pub mod Reading
pub mod Serving
