-- What no public contract reaches. Contracts of private functions use it, in other crates too.
pub mod ControllerView
pub mod Attachments
pub mod ValueTable
