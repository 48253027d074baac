mod Costs
mod Workers
mod Places
mod Once
mod Sound
mod Keeps
mod Allowed
mod Ends
