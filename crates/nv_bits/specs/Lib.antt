pub mod Words
pub mod Numbers
pub mod BitSet
pub mod VecMap
pub mod Above
pub mod inner
