pub mod PieceLemmas
pub mod LeafLemmas
pub mod TreeLemmas
pub mod SignatureLemmas
