-- What one file holds by its trees and by a store, and which keys are free.
pub mod Keys
pub mod Passing
pub mod Handing
-- Puts by the trees of a store: the rows and entries that each step adds or takes away.
pub mod Trees
pub mod Steps
pub mod Room
pub mod Causes
pub mod Stores
pub mod Clears
pub mod Puts
