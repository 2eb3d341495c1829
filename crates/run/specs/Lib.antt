-- What a run reads and writes, over all its reads.
pub mod AllReads
pub mod Examples
