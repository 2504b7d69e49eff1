mod Walks
mod WordKinds
mod Readings
mod Commands
