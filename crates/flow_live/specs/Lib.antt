pub mod Told
pub mod Feeding
pub mod Keeping
pub mod Running
