pub mod Agreement
pub mod Numbers
