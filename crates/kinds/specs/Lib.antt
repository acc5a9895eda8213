-- Definitions that contracts cite.
pub mod Words
pub mod Code
pub mod Embedding
pub mod Characters
pub mod Letters
pub mod Digits
pub mod Roots
pub mod Bytes
-- Proofs of the laws: each impl cites its own, and a source can cite nothing below proofs/.
pub mod Three
pub mod Subfield
pub mod Lawful
pub mod Powers
pub mod Wholes
