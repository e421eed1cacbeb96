-- `controller_c::image::clear_reserved` meets its contract: to fill a part of the image with zeros is a run of stores.
use Rattle.std.proofs.Common.{arith, ap, length-drop, length-take, ℕ, ◌-◌, ◌≡◌, ◌∙◌}
use Rattle.std.proofs.Math.ListN.{length, replicate}
use Rattle.controller_c.specs.Image.{image_bytes, reserved_at, zeros_from}
use Rattle.controller_c.specs.Laws.Image.{zeros_from_length}
use Rattle.controller_c.proofs.Stores.{sets_part}
use Rattle.controller_c.proofs.image.clear_reserved.Goals as goal

pub returns : goal.returns
unfolding zeros_from
returns c =
    let filled : c.fill.new.self ≡ zeros_from reserved_at =
    c.fill.ensures.after (λ y e. e) ∙ ap (λ (n : ℕ). replicate n 0) {y = image_bytes - reserved_at} (grind (arith, length-drop, length-take)) in
    let size : length (zeros_from reserved_at) ≡ image_bytes - reserved_at = zeros_from_length reserved_at in
    sets_part c.args.image.now _ (zeros_from reserved_at) reserved_at (image_bytes - reserved_at) filled size (omega arith)
