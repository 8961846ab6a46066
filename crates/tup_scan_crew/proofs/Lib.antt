mod Digests
mod Ahead
