-- Words of private contracts alone.
pub mod Gathered
pub mod LinesLeft
pub mod Judged
pub mod Divided
pub mod Serving
pub mod Coming
pub mod Opened
pub mod Continuing
pub mod BlockLines
pub mod Readings
pub mod Blocks
