-- Beside document 01's definitions: records stored into a lent buffer; and laws of the writer.
pub mod Writing
pub mod Laws
