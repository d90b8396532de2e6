pub mod View
pub mod Look
