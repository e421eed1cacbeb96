-- `controller_c::image::put_places` meets its contract: what is left to store, stored behind what was stored, gives the whole run of stores.
use Rattle.std.proofs.Math.Path.{◌≡◌, ◌∙◌}
use Rattle.std.specs.Prelude.{length, drop}
use Rattle.std.proofs.Common.{add-zero, add-one, arith, rules, drop-cons, ℕ, ◌+◌, ◌*◌, ◌<◌, List, ◌∷◌}
use Rattle.std.proofs.Math.ListN.{get_or, drop_of_length-le}
use Rattle.std.proofs.lemmas.List.Edits.{sets}
use Rattle.wire.specs.Limits.{number_width}
use Rattle.wire.specs.Laws.Stores.{sets_join}
use Rattle.controller_c.specs.Words.{number_bytes, numbers_bytes}
use Rattle.controller_c.proofs.image.put_places.Goals as goal

-- one turn stores one number and leaves the rest
turn : (l out last : List ℕ) (b i : ℕ) → i < length l → last ≡ sets out (b + number_width * i) (number_bytes (get_or l i 0))
    → sets last (b + number_width * (i + 1)) (numbers_bytes (drop (i + 1) l)) ≡ sets out (b + number_width * i) (numbers_bytes (drop i l))
turn l out last b i h e =
    let at = b + number_width * i in
    let next : b + number_width * (i + 1) ≡ at + length (number_bytes (get_or l i 0)) = omega arith in
    let split : drop i l ≡ get_or l i 0 ∷ drop (i + 1) l = rw add-one (drop-cons l i 0 h) in
    rw (next, e, split) (sets_join out at (number_bytes (get_or l i 0)) (numbers_bytes (drop (i + 1) l)))

pub loop-i-init : goal.loop-i-init
loop-i-init c = rw add-zero

pub loop-i-preserved : goal.loop-i-preserved
loop-i-preserved c =
    turn c.args.at.now c.loop-i.image c.put_word.new.s c.args.from c.loop-i.i (search rules) c.put_word.ensures ∙ c.loop-i.invariant

pub returns : goal.returns
returns c = rw (drop_of_length-le c.args.at.now {i = c.loop-i.i} (omega arith)) at c.loop-i.invariant
