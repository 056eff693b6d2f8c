mod Prefixes
mod Split
