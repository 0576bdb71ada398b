pub mod Heads
pub mod Span
