mod Among
mod Both
mod Noted
mod Leads
mod Meant
mod Found
mod Directed
mod Paired
mod MoreReplies
pub mod Replies
