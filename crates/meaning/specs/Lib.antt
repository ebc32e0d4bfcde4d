pub mod Standings
pub mod Shown
pub mod Promise
pub mod Laws
