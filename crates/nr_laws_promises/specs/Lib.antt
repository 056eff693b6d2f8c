pub mod BrokenRows
