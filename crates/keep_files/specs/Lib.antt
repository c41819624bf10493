-- A keeper in a file: how its calls are made by the pages or by the database, and why one fails.

pub mod Causes
pub mod Places
pub mod Whys
pub mod Does
pub mod Looks
pub mod Openings
pub mod Origins
pub mod Storing
pub mod Asked
pub mod Anew
pub mod Closes
pub mod Files
pub mod Refusals
pub mod Says
