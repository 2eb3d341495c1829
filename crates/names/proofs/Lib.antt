-- What the proofs share.
mod Tables
mod Letters
