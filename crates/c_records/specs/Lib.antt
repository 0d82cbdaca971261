pub mod CRecords
