pub mod AddressedLemmas
mod Seeking
