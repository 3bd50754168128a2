-- What follows from the definitions, with its proofs: laws that programs' proofs may cite.
pub mod CommandLines
