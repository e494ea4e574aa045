pub mod CopyLaws
pub mod CopyCases
