-- Definitions that contracts cite.
pub mod Field
pub mod Below
pub mod Gf11
pub mod Gf32
pub mod Pairs
pub mod Extensions
pub mod Numbered
-- Proofs of the laws: each impl cites its own, and a source can cite nothing below proofs/.
pub mod PairsLemmas
pub mod Ring
pub mod BelowLemmas
pub mod Residues
pub mod Each
pub mod Tested
pub mod Polynomials
