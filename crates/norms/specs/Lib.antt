pub mod Norms
