-- What readings say.
pub mod Readings
