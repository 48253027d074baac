pub mod Answers
pub mod SeasonReplies
pub mod Replies
pub mod Received
pub mod History
