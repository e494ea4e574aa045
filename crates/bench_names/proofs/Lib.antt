-- Names looked up by their keys.
pub mod NameNetLaws
