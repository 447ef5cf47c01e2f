mod BytesBack
mod FieldsBack
pub mod RoundTrips
