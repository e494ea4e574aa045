-- What the contracts cite: files by name and arguments, then the class file.
pub mod Files
pub mod ClassFile
