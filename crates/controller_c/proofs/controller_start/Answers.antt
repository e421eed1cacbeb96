-- `controller_c::controller_start` meets its contract: with an image of the right length the refusal is that of the controller's start,
-- and the state of a start that is not refused is sound.
use Rattle.std.specs.Prelude.{true, length}
use Rattle.std.proofs.Common.{arith, ℕ, List, ◌≡◌, ◌≢◌}
use Rattle.controller.specs.Calls.{StartPromise}
use Rattle.controller.specs.State.{sound}
use Rattle.controller.specs.declared.state.Answer.{Answer}
use Rattle.controller_c.specs.Calls.{StartImagePromise}
use Rattle.controller_c.specs.Image.{image_bytes, laid_out}
use Rattle.controller_c.specs.Laws.Calls.{start_makes}
use Rattle.controller_c.proofs.controller_start.Goals as goal

-- the controller's answer a
module _ {number bit : ℕ} {before after : List ℕ} (a : Answer) (p : StartPromise number bit before a after) where
  made : a.refusal ≡ 0 → sound a.state ≡ true
  made h = grind (arith, start_makes)

  stored : (b c : List ℕ) → length b ≡ image_bytes → a.refusal ≡ 0 → c ≡ laid_out a.state → StartImagePromise number bit b before a.refusal c after a.length
  stored b c whole h q = grind arith

  left : (b c : List ℕ) → length b ≡ image_bytes → a.refusal ≢ 0 → c ≡ b → StartImagePromise number bit b before a.refusal c after a.length
  left b c whole h q = grind arith

pub lay_out-requires : goal.lay_out-requires
lay_out-requires c = made _ c.start-answer.ensures c.if-answer-eq0.true

pub returns-then-answer-eq0 : goal.returns-then-answer-eq0
returns-then-answer-eq0 c = stored _ c.start-answer.ensures _ _ c.in-Some.ensures.cases.long c.if-answer-eq0.true c.lay_out.ensures

pub returns-else-answer-eq0 : goal.returns-else-answer-eq0
returns-else-answer-eq0 c = left _ c.start-answer.ensures _ _ c.in-Some.ensures.cases.long c.if-answer-eq0.false c.in-Some.ensures.cases.same
