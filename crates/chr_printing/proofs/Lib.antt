pub mod Pooled
pub mod Printed
pub mod Portioned
