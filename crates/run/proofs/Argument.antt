-- Why every run has its outcome, in three parts.
-- Counting: thirds and two thirds of those heard.
pub mod Counting
pub mod CountingLaws
-- The protocol: the coordinator rotation, and one bit over it, as equations on counts.
pub mod Rotation
pub mod RotationLaws
pub mod Bit
pub mod BitLaws
-- A run as steps of the published rules, and that such steps are an instance of the protocol.
pub mod Steps
pub mod StepsLaws
pub mod StepsRotation
pub mod StepsBit
pub mod Protocol
-- Lists of calls: that a run is such steps.
pub mod Calls
pub mod Held
pub mod RunSteps
pub mod Agreement
-- Beside the outcome: how often all name the same king, and how soon all have a candidate.
pub mod OneMindLaws
pub mod OneMind
-- Of a list of calls by itself: that the record has the round of the first tray that brought a number.
pub mod FirstHeard
-- Likewise: that a decided controller is quiet.
pub mod Quiet
-- Likewise: that it sends no more than so many bytes; and that in a run of n this goes by n.
pub mod LinkUse
