mod Looking
mod Whole
mod Signed
