pub mod Place
pub mod Transfer
pub mod Buffer
pub mod inner
