-- Bytes in and out: what sources, sinks and links hold, which of their calls fail, and how lines are cut.
pub mod Blame
pub mod Faults
pub mod Plans
pub mod Portions
pub mod Rooms
pub mod Levels
pub mod Within
pub mod Fakes
pub mod Links
pub mod Cutter
pub mod Late
pub mod Streams
-- Where the bytes of a link go out, apart from the link.
pub mod Outwards
