pub mod Tolds
pub mod Servings
pub mod Onlys
pub mod Keepings
pub mod Pieces
pub mod Followings
pub mod Seats
