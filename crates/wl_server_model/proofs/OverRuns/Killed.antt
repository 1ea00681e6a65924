-- How a killed client is read, until a cleanup takes it out, and after that; and of which clients it is kept how they broke the protocol.
pub mod KilledLaws
pub mod ViolationLaws
