-- `controller_c::image::lay_out` meets its contract: the stores, each behind the one before, are one run of stores over all of the image.
use Rattle.std.proofs.Common.{rules, sym, ap, arith, List, ◌++◌}
use Rattle.std.specs.Prelude.{ℕ, length}
use Rattle.std.proofs.Math.Path.{◌≡◌, ◌∙◌}
use Rattle.std.proofs.lemmas.List.Edits.{sets}
use Rattle.wire.specs.Limits.{max_numbers}
use Rattle.controller.specs.Laws.State.{since_places}
use Rattle.controller.specs.declared.state.State.{State}
use Rattle.controller_c.specs.Image.{image_bytes, heard_at, candidates_at, echoes_at, since_at, reserved_at}
use Rattle.controller_c.specs.Image.{head_bytes, list_bytes, with_rotation, zeros_from, laid_out}
use Rattle.controller_c.specs.Laws.Image.{SizedLists, sound_sized, list_bytes_length, laid_out_length}
use Rattle.controller_c.proofs.Stores.{join_at, sets_whole}
use Rattle.controller_c.proofs.image.lay_out.Goals as goal

laid : (s : State) (b : List ℕ) → SizedLists s → length s.since ≡ max_numbers → length b ≡ image_bytes
    → let two = sets (sets b 0 (head_bytes s)) heard_at (list_bytes s.heard) in
    let four = sets (sets two candidates_at (list_bytes s.candidates)) echoes_at (list_bytes s.echoes) in
    sets (sets four since_at s.since) reserved_at (zeros_from reserved_at) ≡ laid_out s
unfolding laid_out
laid s b z since n =
    let heard = list_bytes_length s.heard z.heard in
    let candidates = list_bytes_length s.candidates z.candidates in
    let echoes = list_bytes_length s.echoes z.echoes in
    let third = s.since ++ zeros_from reserved_at in
    let second = list_bytes s.echoes ++ third in
    let first = list_bytes s.candidates ++ second in
    let one = sets b 0 (head_bytes s) in
    let two = sets one heard_at (list_bytes s.heard) in
    let three = sets two candidates_at (list_bytes s.candidates) in
    join_at (sets three echoes_at (list_bytes s.echoes)) since_at reserved_at s.since (zeros_from reserved_at) (omega arith)
    ∙ join_at three echoes_at since_at (list_bytes s.echoes) third (omega arith)
    ∙ join_at two candidates_at echoes_at (list_bytes s.candidates) second (omega arith)
    ∙ join_at one heard_at candidates_at (list_bytes s.heard) first (omega arith)
    ∙ join_at b 0 heard_at (head_bytes s) (list_bytes s.heard ++ first) (omega arith)
    ∙ sets_whole b (laid_out s) (laid_out_length s z since ∙ sym n)

pub put_list-requires-clause-sized : goal.put_list-requires-clause-sized
put_list-requires-clause-sized c = (sound_sized _ c.requires).heard

pub put_rotation-requires : goal.put_rotation-requires
put_rotation-requires c =
    let z = sound_sized _ c.requires in
    record { candidates = z.candidates; echoes = z.echoes }

pub returns : goal.returns
returns c =
    let a = c.args in
    let s : State = a.state.now in
    let with_heard = c.put_list.ensures ∙ ap (λ (l : List ℕ). sets l heard_at (list_bytes s.heard)) c.put_head.ensures in
    let with_lists = c.put_rotation.ensures ∙ ap (with_rotation s) with_heard in
    let with_rounds = c.put_rounds.ensures ∙ ap (λ (l : List ℕ). sets l since_at s.since) with_lists in
    c.clear_reserved.ensures
    ∙ ap (λ (l : List ℕ). sets l reserved_at (zeros_from reserved_at)) with_rounds
    ∙ laid s a.image.now (sound_sized s c.requires) (since_places s c.requires) (search rules)
