mod Cutting
mod Apart
mod Windowing
mod Verdicts
mod Reader
