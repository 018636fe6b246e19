pub mod Fitting
pub mod ApartRuns
pub mod CountRuns
pub mod RowRuns
pub mod WithinRuns
