pub mod Answered
pub mod Known
pub mod Printed
pub mod Fitting
pub mod LinesTold
pub mod Telling
pub mod Under
pub mod SafeNow
pub mod Bounded
pub mod OneReading
pub mod StageOn
pub mod BreaksOff
pub mod ReadOn
pub mod NextOnWay
mod SafeCourses
mod LineBegun
pub mod LineWaits
pub mod LineNone
pub mod LineReplies
pub mod LeadsOn
pub mod NotHeard
pub mod WaitsNow
pub mod NoReset
pub mod ResetMade
pub mod ResetSteps
pub mod MarkRefused
pub mod EndHere
pub mod EndRefused
pub mod EndFound
pub mod EndAlarm
mod Entered
pub mod FoundTop
pub mod NoneForeign
pub mod LookedFor
