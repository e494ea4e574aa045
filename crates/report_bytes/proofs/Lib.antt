-- Words, then the fields before them, written and compared.
pub mod WordSteps
pub mod HeadLaws
