pub mod Opens
pub mod Stores
pub mod Serves
