-- What a host's call promises, for every input, refused ones too: the page docs/IMAGE.md, "The calls", and document 01, "Refusals".
--     start_image_refusal number bit m n   0, or the refusal of a start with an image of m bytes and an output buffer of n bytes
--     tray_image_refusal b t n             0, or the refusal of the tray t by the image b, with an output buffer of n bytes
--     ImagePromise k v p ..                the call is refused under k (0: not refused), in which case image and output keep every byte and the
--                                          length is 0; else the image is that of the state v, with the record whose places are p, v's frame
--                                          stands in front of what stood in the output, and the length is the frame's
--     StartImagePromise, TrayImagePromise  the promises of controller_start and of controller_tray
--     field_of b x                         the number x of the image b; 0 where a tray would be refused under 1
use Rattle.std.specs.Prelude.{ℕ, cond, List, ◌++◌, ◌≡◌, eqb, length, drop}
use Rattle.wire.specs.Tray.{entries}
use Rattle.controller.specs.State.{View, view, stored_state, start_view, start_rounds}
use Rattle.controller.specs.First.{rounds_after}
use Rattle.controller.specs.Rules.{next}
use Rattle.controller.specs.Refusals.{start_refusal, tray_refusal}
use Rattle.controller.specs.Calls.{sent_bytes}
use Rattle.controller_c.specs.Image.{image_bytes, laid_out, taken_apart, sound_image}

-- "start 1 (image length), 9, 3"
abbrev pub start_image_refusal : ℕ → ℕ → ℕ → ℕ → ℕ
start_image_refusal number bit m n = cond (eqb m image_bytes) (start_refusal number bit n) 1

-- "tray 1 (image length, soundness), 2, 3, 4, 5, 6, 7, 8"
abbrev pub tray_image_refusal : List ℕ → List ℕ → ℕ → ℕ
tray_image_refusal b t n = cond (sound_image b) (tray_refusal (taken_apart b) t n) 1

pub record ImagePromise (refusal : ℕ) (made : View) (rounds image_before out_before : List ℕ) (r : ℕ) (image_after out_after : List ℕ) (size : ℕ) : Type 0 where
  pub number : r ≡ refusal
  pub image : image_after ≡ cond (eqb refusal 0) (laid_out (stored_state made rounds)) image_before
  pub output : out_after ≡ cond (eqb refusal 0) (sent_bytes made ++ drop (length (sent_bytes made)) out_before) out_before
  pub written : size ≡ cond (eqb refusal 0) (length (sent_bytes made)) 0

-- controller_start(number, bit, image, out, length), with image and output before the call, the answer, and all three after it
abbrev pub StartImagePromise : ℕ → ℕ → List ℕ → List ℕ → ℕ → List ℕ → List ℕ → ℕ → Type 0
StartImagePromise number bit image_before out_before r image_after out_after length_after =
    ImagePromise
    (start_image_refusal number bit (length image_before) (length out_before))
    (start_view number bit)
    start_rounds
    image_before
    out_before
    r
    image_after
    out_after
    length_after

-- controller_tray(image, tray, out, length)
abbrev pub TrayImagePromise : List ℕ → List ℕ → List ℕ → ℕ → List ℕ → List ℕ → ℕ → Type 0
TrayImagePromise image_before tray out_before r image_after out_after length_after =
    ImagePromise
    (tray_image_refusal image_before tray (length out_before))
    (next (view (taken_apart image_before)) (entries tray))
    (rounds_after (taken_apart image_before) (entries tray))
    image_before
    out_before
    r
    image_after
    out_after
    length_after

-- controller_round(image), ..
abbrev pub field_of : List ℕ → ℕ → ℕ
field_of b x = cond (sound_image b) x 0
