-- Lines of controllers worked out by the machine: three runs, so that nobody need wonder whether the conditions contradict each other, and a network with
-- 3f = n that has no outcome. And a controller that sends as many bytes as any can, followed call by call.
pub mod RunTest
pub mod Played
pub mod Networks
pub mod Inhabited
pub mod ThirdFaulty
pub mod CallByCall
pub mod FullLists
