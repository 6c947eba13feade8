-- What no public contract reaches. Contracts of private functions use it, in other crates too.
pub mod Feeding
pub mod Link
pub mod Listing
pub mod Orders
pub mod Performing
pub mod ScriptLines
