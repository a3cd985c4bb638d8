pub mod Alls
pub mod Held
pub mod Tidied
pub mod Writes
