-- Lines that settle: what a message weighs, that a message whose printed text is read as one that prints otherwise
-- becomes lighter, and that so the rounds of a text come to rest.
pub mod Falls
pub mod Settles
pub mod Weights
