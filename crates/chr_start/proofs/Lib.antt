pub mod Ended
pub mod RefusedWords
pub mod TakenWords
pub mod Served
pub mod VerdictEnds
