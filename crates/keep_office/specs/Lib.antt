-- Offices: what one keeps of days, charges, a history and tariffs, and what each call of a keeper does to it.
pub mod Office
pub mod Kept
pub mod Calls
pub mod Memory
pub mod Laws
pub mod PastReads
-- An office that begins anew at a day, and how its keeper is asked for that.
pub mod Renewed
pub mod Renewals
pub mod InMemory
pub mod RenewalLaws
