mod Shifting
mod Mirroring
