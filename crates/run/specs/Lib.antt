-- The run of demand 3 and what is claimed of it: that is what a reader must believe. The proof of the claim stands in proofs/, below `Argument`; its end is
-- `agreement` in Argument/Agreement; likewise that of `OneMind`, with its end in Argument/OneMind. `FirstHeard`, `Quiet` and `LinkUse` are claimed of any
-- controller's list of calls, and proved in the files of these names in Argument. Below `Inhabitants` in proofs/ stand three runs, why fewer than a third must
-- be faulty, and a controller that sends as much as any can.
pub mod Run
pub mod Outcome
pub mod OneMind
pub mod FirstHeard
pub mod Quiet
pub mod LinkUse
