-- Laws of the host's calls.
--     shaped_refusal, unshaped_refusal       how the image's tests and the controller's give one refusal
--     start_makes, tray_makes                the state that an accepted call makes is sound
--     start_makes_image, tray_makes_image    so is the image that it leaves
--     laid_out_refusal                       the image of a sound state is refused a tray just where the state is
use Rattle.std.specs.Prelude.{ℕ, Bool, true, false, cond, List, ◌≡◌, refl}
use Rattle.std.proofs.Common.{sym}
use Rattle.wire.specs.Tray.{entries}
use Rattle.controller.specs.State.{view, stored_state, start_view, start_rounds, sound}
use Rattle.controller.specs.First.{rounds_after}
use Rattle.controller.specs.Rules.{next}
use Rattle.controller.specs.Refusals.{start_refusal, tray_refusal}
use Rattle.controller.specs.Laws.Refusals.{start_accepted, tray_accepted, unsound_refused}
use Rattle.controller.specs.Laws.First.{next_stays_sound, start_stays_sound}
use Rattle.controller.specs.declared.state.State.{State}
use Rattle.controller_c.specs.Image.{laid_out, taken_apart, shaped, sound_image}
use Rattle.controller_c.specs.Calls.{tray_image_refusal}
use Rattle.controller_c.specs.Laws.Image.{taken_apart-laid_out, laid_out-sound}

-- ---- refusals

-- the controller's own first test is the last part of the image's
pub shaped_refusal : (b t : List ℕ) (n : ℕ) → shaped b ≡ true → tray_image_refusal b t n ≡ tray_refusal (taken_apart b) t n
unfolding sound_image
shaped_refusal b t n h = rw h (pick (sound (taken_apart b)) refl)
  where
    pick : (x : Bool) → sound (taken_apart b) ≡ x → cond x (tray_refusal (taken_apart b) t n) 1 ≡ tray_refusal (taken_apart b) t n
    pick true e = refl
    pick false e = sym (unsound_refused (taken_apart b) t n e)

pub unshaped_refusal : (b t : List ℕ) (n : ℕ) → shaped b ≡ false → tray_image_refusal b t n ≡ 1
unfolding sound_image
unshaped_refusal b t n h = rw h

-- ---- the state that a call makes is sound

pub start_makes : (number bit n : ℕ) → start_refusal number bit n ≡ 0 → sound (stored_state (start_view number bit) start_rounds) ≡ true
start_makes number bit n e = let a = start_accepted number bit n e in start_stays_sound number bit a.0 a.1

pub tray_makes : (s : State) (t : List ℕ) (n : ℕ) → tray_refusal s t n ≡ 0
    → sound (stored_state (next (view s) (entries t)) (rounds_after s (entries t))) ≡ true
tray_makes s t n e = next_stays_sound s t (tray_accepted s t n e).0

-- ---- an image stands for the state in it

pub start_makes_image : (number bit n : ℕ) → start_refusal number bit n ≡ 0 → sound_image (laid_out (stored_state (start_view number bit) start_rounds)) ≡ true
start_makes_image number bit n e = laid_out-sound _ (start_makes number bit n e)

pub tray_makes_image : (s : State) (t : List ℕ) (n : ℕ) → tray_refusal s t n ≡ 0
    → sound_image (laid_out (stored_state (next (view s) (entries t)) (rounds_after s (entries t)))) ≡ true
tray_makes_image s t n e = laid_out-sound _ (tray_makes s t n e)

pub laid_out_refusal : (s : State) (t : List ℕ) (n : ℕ) → sound s ≡ true → tray_image_refusal (laid_out s) t n ≡ tray_refusal s t n
laid_out_refusal s t n h = rw (laid_out-sound s h, taken_apart-laid_out s h)
