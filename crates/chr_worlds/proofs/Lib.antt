pub mod Keeping
mod Agreeing
mod Exchanging
mod Gaining
mod Places
mod Runs
mod RestedRuns
mod Returns
