-- What the contracts cite, besides the crate sha2's own definition of the digest.

pub mod Hashers
pub mod Words
