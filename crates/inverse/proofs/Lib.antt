-- What the proofs share of the rows and columns of one matrix. Assumes nothing.
mod RowLaws
mod ColumnLaws
mod Lost
mod Ends
