mod Sizes
mod Lines
mod Segments
