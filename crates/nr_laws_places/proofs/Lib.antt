mod Keeps
mod Parts
mod Forms
mod Texts
mod Tokens
mod Within
mod Ends
