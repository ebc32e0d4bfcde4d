pub mod Cases
pub mod Contents
pub mod Written
