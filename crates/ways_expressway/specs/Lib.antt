-- Accidents as they are kept: who stands where, in which stretches two stand together, and the nearest of them ahead.
pub mod Counted
pub mod History
pub mod KeptAccidents
pub mod Near
pub mod AccidentsStand
-- A worker's ways: which events of a day it is told, what it keeps of them, and what it finds for reports.
pub mod Events
pub mod Findings
pub mod Runs
pub mod Kept
pub mod Known
pub mod Stands
pub mod Ready
pub mod Results
pub mod Checks
pub mod Laws
-- Speeds as they are kept: the cars of a stretch in the minute before, and the average over five minutes.
pub mod KeptSpeeds
pub mod Numbers
pub mod Parts
pub mod Past
pub mod SpeedsStand
