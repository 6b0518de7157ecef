pub mod Decimal
pub mod ReadBack
