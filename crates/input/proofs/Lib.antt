-- Laws of what is read. Assumes nothing.
mod Bytes
