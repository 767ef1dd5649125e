mod Ascending
mod Asking
mod Making
mod Malformed
mod Opening
mod Replies
mod Script
mod Tickets
