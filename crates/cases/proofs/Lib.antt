pub mod Cases
pub mod Written
