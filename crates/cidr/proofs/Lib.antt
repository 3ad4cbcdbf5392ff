mod Examples
mod LawExamples
pub mod Answers
pub mod AskingParts
pub mod CommandAnswers
pub mod CommandLawExamples
pub mod CommandLines
pub mod CommandRequests
pub mod Computed
pub mod Concluded
pub mod Cuts
pub mod EitherAnswers
pub mod Found
pub mod Keys
pub mod Known
pub mod LongLines
pub mod Membership
pub mod PlainLines
pub mod Requests
pub mod RouteLines
pub mod Runs
pub mod Splits
pub mod Succeeds
pub mod Turns
pub mod UnrefusedLines
pub mod Words
