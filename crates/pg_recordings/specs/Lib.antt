-- What the records of a recording are as inputs of a world, and which events these spell.
pub mod Inputs
pub mod Recorded
