mod Bases
mod Outcomes
mod Fitting
mod Started
