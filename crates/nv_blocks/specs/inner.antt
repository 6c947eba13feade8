-- What no public contract reaches. Contracts of private functions use it.
pub mod Command
