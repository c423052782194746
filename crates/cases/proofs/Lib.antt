pub mod StoredRow
