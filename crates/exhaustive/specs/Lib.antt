pub mod Small
pub mod Relations
