pub mod Records
pub mod Link
pub mod Event
pub mod Span
pub mod Lending
