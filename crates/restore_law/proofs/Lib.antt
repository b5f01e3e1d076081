mod Found
mod Named
mod Proper
mod Restoring
