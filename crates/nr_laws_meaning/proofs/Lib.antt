mod Asked
mod ByBytes
mod Meant
mod SamplesJudged
mod Settled
