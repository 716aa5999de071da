mod Branches
mod Keys
mod Plain
