mod Histories
mod Turning
