-- The head of a request: its fields and its path, what it asks, and why it may be refused at once.
pub mod Numbers
pub mod Paths
pub mod Origins
pub mod Requests
pub mod Fields
pub mod Fronts
pub mod Laws
pub mod Asks
pub mod Rows
pub mod Places
-- Requests over a link: how one is read, what its body gives, and what is sent.
pub mod Sends
pub mod ReadRequests
pub mod AskedBodies
-- The bytes of each answer over HTTP: JSON bodies, status lines, and the page.
pub mod Plain
pub mod Bodies
pub mod Lists
pub mod Replies
pub mod Pages
pub mod Streams
