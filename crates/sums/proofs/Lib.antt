mod Numbering
mod Corners
mod Flats
