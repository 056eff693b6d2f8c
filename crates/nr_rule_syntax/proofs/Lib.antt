pub mod Chains
pub mod Depths
pub mod Texts
pub mod Yields
pub mod WrittenParts
pub mod Proper
pub mod WrittenForms
pub mod WrittenFiles
