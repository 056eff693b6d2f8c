mod Acked
mod Ends
mod Fitting
mod Shown
