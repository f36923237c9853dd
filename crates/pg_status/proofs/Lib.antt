pub mod Names
pub mod WholeHeads
