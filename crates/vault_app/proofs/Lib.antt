mod Errors
mod Files
mod Lines
mod FollowedFiles
mod Unread
mod Values
