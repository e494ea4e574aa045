-- Records of outputs.
pub mod OutputWriting
