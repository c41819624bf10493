-- Why a run failed, in the words that standard error has for it.
pub mod Says
-- The command `renew BASE`: its words, and how it ends.
pub mod Words
pub mod Drops
pub mod Endings
-- What a run that begins anew promises, object by object.
pub mod Anew
