pub mod WordLaws
pub mod BitSetLaws
pub mod VecMapLaws
pub mod NumberLaws
