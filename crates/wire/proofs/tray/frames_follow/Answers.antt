-- `wire::tray::frames_follow` meets its contract: the frames that are left follow each other exactly if all do. An offset is below 2 ^ 16, so no end wraps.
use Rattle.std.specs.Prelude.{eqb, length}
use Rattle.std.proofs.Common.{sym, arith, rules, ◌-◌}
use Rattle.std.proofs.Math.Path.{◌≡◌, ◌∙◌}
use Rattle.std.proofs.lemmas.Grind.{common_steps}
use Rattle.wire.specs.Laws.Tray.{chained_step}
use Rattle.wire.specs.Tray.{chained}
use Rattle.wire.proofs.tray.frames_follow.Goals as goal

pub loop-i-preserved : goal.loop-i-preserved
loop-i-preserved c =
    let v = c.loop-i in
    grind (arith, common_steps, chained_step c.args.tray.now c.args.count v.i v.end c.loop-i-test.true)

-- the check finds this alone; with the fact named, an end that is not the tray's is refused for it
pub returns : goal.returns
returns c =
    let v = c.loop-i in
    let ended : c.args.count - v.i ≡ 0 = search rules in
    let last : chained c.args.tray.now (c.args.count - v.i) v.i v.end ≡ eqb v.end (length c.args.tray.now) = rw ended in
    sym last ∙ v.invariant
