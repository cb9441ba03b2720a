-- the definitions
pub mod Answers
pub mod Printed
-- the promises
pub mod Demand1
pub mod Apart
pub mod OneReply
-- the definitions tried on the sample models
pub mod Samples

-- the lines of refusals
