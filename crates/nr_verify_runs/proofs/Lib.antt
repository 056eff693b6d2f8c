mod Files
mod Stands
mod Watching
mod Marks
mod Claimed
mod Judged
mod Walking
