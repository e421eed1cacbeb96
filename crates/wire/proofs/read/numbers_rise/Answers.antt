-- `wire::read::numbers_rise` meets its contract: what is left rises exactly if its next group does, and the others from above the last number of that.
use Rattle.std.proofs.Common.{ℕ, zero, suc, arith, sym, ap, ◌∙◌, ◌+◌, ◌*◌, ◌/◌, ◌<◌, get_or, length-drop, drop-drop}
use Rattle.std.proofs.Math.Path.{◌≡◌, refl}
use Rattle.std.proofs.Math.Bool.{◌&&◌}
use Rattle.std.specs.Prelude.{List, [], length, map, take, drop}
use Rattle.std.specs.Int.{w32, from_be_bytes}
use Rattle.std.specs.Simd.{first_chunks}
use Rattle.wire.specs.Numbers.{rising}
use Rattle.wire.specs.Laws.Numbers.{rising_cut}
use Rattle.wire.proofs.read.numbers_rise.Goals as goal

abbrev number : List ℕ → ℕ
number b = from_be_bytes w32 b

-- the i-th chunk
chunk_is : {X : Type 0} (n k i : ℕ) (l : List X) (d : List X) → i < k → get_or (first_chunks n k l) i d ≡ take n (drop (i * n) l)
chunk_is n zero i l d h = absurd (omega (arith, h))
chunk_is n (suc k) zero l d h = let e : 0 * n ≡ 0 = omega arith in rw e refl
chunk_is n (suc k) (suc i) l d h =
    let e : n + i * n ≡ suc i * n = omega arith in
    chunk_is n k i (drop n l) d (omega (arith, h)) ∙ ap (take n) (drop-drop (i * n) n l ∙ rw e refl)

-- one turn of the loop
group_turn : (l : List (List ℕ)) (groups : List (List (List ℕ))) (x i : ℕ)
    → groups ≡ first_chunks 4 (length l / 4) l → length groups ≡ length l / 4 → i < length groups
    → let group = get_or groups i [] in
    rising x (map number (drop (i * 4) l)) ≡ (rising x (map number group) && rising (number (get_or group 3 [])) (map number (drop ((i + 1) * 4) l)))
group_turn l groups x i made long h =
    let group : get_or groups i [] ≡ take 4 (drop (i * 4) l) = rw made (chunk_is 4 (length l / 4) i l [] (omega (arith, h, long))) in
    let next : i * 4 + 4 ≡ (i + 1) * 4 = omega arith in
    let behind : drop 4 (drop (i * 4) l) ≡ drop ((i + 1) * 4) l = drop-drop 4 (i * 4) l ∙ rw next refl in
    rw (group, sym behind) (rising_cut number (drop (i * 4) l) [] x 3 (omega (arith, h, long, length-drop (i * 4) l)))

pub returns-then-not-group_rises : goal.returns-then-not-group_rises
returns-then-not-group_rises c =
    let groups = c.as_chunks in
    let made = groups.ensures in
    let turn = group_turn c.args.numbers.now groups.result.0.now c.loop-group.last c.loop-group.group-index made.front made.front_len c.loop-group-test.true in
    sym (rw (sym c.group_rises.ensures ∙ c.if-not-group_rises.true) at (sym c.loop-group.invariant ∙ turn))

pub loop-group-preserved : goal.loop-group-preserved
loop-group-preserved c =
    let groups = c.as_chunks in
    let made = groups.ensures in
    let turn = group_turn c.args.numbers.now groups.result.0.now c.loop-group.last c.loop-group.group-index made.front made.front_len c.loop-group-test.true in
    rw c.from_be_bytes-last.ensures (sym (rw (sym c.group_rises.ensures ∙ c.if-not-group_rises.false) at (sym c.loop-group.invariant ∙ turn)))
