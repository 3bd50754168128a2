mod Follows
mod KeptPairs
mod Numbers
mod Seeking
mod Turned
