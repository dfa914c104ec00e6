mod Outside
mod Shorter
mod Firsts
mod OneList
mod Rising
