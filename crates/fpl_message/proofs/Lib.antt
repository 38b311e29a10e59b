pub mod ModificationLemmas
pub mod AmendmentLawsProofs
pub mod OrderLemmas
pub mod EditionLemmas
pub mod OrderYears
pub mod PlaceLemmas
pub mod HeadingLemmas
