-- Every run is of one mind as document 02, A12, claims: the protocol gives a phase with a common king for each correct number, and the relay of candidates;
-- its states are those that the calls returned.
use Rattle.std.proofs.Common.{arith}
use Rattle.std.proofs.lemmas.List.{length-map}
use Rattle.run.specs.Run.{Member, Controller, Run}
use Rattle.run.specs.OneMind.{SameKing, OneMind}
use Rattle.run.proofs.Argument.Rotation.{CommonKing}
use Rattle.run.proofs.Argument.RotationLaws.{common_phases}
use Rattle.run.proofs.Argument.StepsRotation.{rotation, rotation_rules}
use Rattle.run.proofs.Argument.Held.{number_of}
use Rattle.run.proofs.Argument.RunSteps.{steps, each_number, correct_number, step_rules}
use Rattle.run.proofs.Argument.OneMindLaws.{same_king, relayed}

module _ (r : Run) where
  open r use {correct}

  -- document 02's A12
  pub one_mind : OneMind correct
  one_mind =
      let common = common_phases (rotation (steps r)) (rotation_rules (steps r) (step_rules r)) in
      record {
        phases = common.images;
        differ = common.differ;
        count = omega (arith, common.count, length-map correct number_of);
        kings = λ phase i.
            let (k, j, all_name) = common.source phase i in
            each_number r (λ q. CommonKing (rotation (steps r)) q phase → (c : Controller) × Member c correct × SameKing correct phase c.number)
            (λ c l named. (c, l, same_king r named)) k j all_name;
        each = λ c i. let (phase, j, all_name) = common.image c.number (correct_number r i) in (phase, j, same_king r all_name);
        relayed = relayed r;
      }
