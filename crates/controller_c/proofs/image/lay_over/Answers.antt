-- `controller_c::image::lay_over` meets its contract: a part that is stored is the new state's, and one that is not stored is the same in both states.
use Rattle.std.proofs.Common.{rules, sym, ap, arith, eqb-true, leb-false, ℕ, ◌<◌, List, ◌++◌}
use Rattle.std.specs.Prelude.{true, eqb, leb, length}
use Rattle.std.proofs.Math.Logic.{inl, inr}
use Rattle.std.proofs.Math.Path.{◌≡◌, refl, ◌∙◌}
use Rattle.std.proofs.lemmas.List.Edits.{sets}
use Rattle.wire.specs.Frame.{kind_of}
use Rattle.wire.specs.Words.{Below}
use Rattle.controller.specs.Laws.Lists.{true_or_false}
use Rattle.controller.specs.Laws.State.{since_places}
use Rattle.controller.specs.State.{sound}
use Rattle.controller.specs.declared.state.State.{State}
use Rattle.controller_c.specs.Image.{heard_at, candidates_at, echoes_at, since_at, reserved_at, list_width, head_bytes, list_bytes}
use Rattle.controller_c.specs.Image.{zeros_from, laid_out}
use Rattle.controller_c.specs.Image.{taken_apart, renewed_heard, renewed_rotation}
use Rattle.controller_c.specs.Laws.Image.{sound_sized, list_bytes_length, sound_image_gives, laid_out-taken_apart}
use Rattle.controller_c.proofs.Stores.{sets_behind, sets_over}
use Rattle.controller_c.proofs.image.lay_over.Goals as goal

-- ---- the parts of an image

-- one behind the other
abbrev joined : List ℕ → List ℕ → List ℕ → List ℕ → List ℕ → List ℕ
joined h l c e w = h ++ (l ++ (c ++ (e ++ (w ++ zeros_from reserved_at))))

-- a part that is stored takes the place of the one before
module _ (h l c e w : List ℕ) (a : length h ≡ heard_at) (b : length l ≡ list_width) (d : length c ≡ list_width) (f : length e ≡ list_width) where
  heard_over : (l' w' : List ℕ) → length l' ≡ list_width → length w' ≡ length w
      → sets (sets (joined h l c e w) heard_at l') since_at w' ≡ joined h l' c e w'
  heard_over l' w' n m =
      ap (λ (b : List ℕ). sets b since_at w') (sets_behind h _ _ 0 heard_at l' (omega arith) (sets_over l _ l' (omega arith)))
      ∙ sets_behind h _ _ 780 since_at w' (omega arith)
      (sets_behind l' _ _ 520 780 w' (omega arith)
      (sets_behind c _ _ 260 520 w' (omega arith)
      (sets_behind e _ _ 0 260 w' (omega arith) (sets_over w _ w' m))))

  rotation_over : (c' e' : List ℕ) → length c' ≡ list_width → length e' ≡ list_width
      → sets (sets (joined h l c e w) candidates_at c') echoes_at e' ≡ joined h l c' e' w
  rotation_over c' e' n m =
      ap (λ (b : List ℕ). sets b echoes_at e')
      (sets_behind h _ _ 260 candidates_at c' (omega arith) (sets_behind l _ _ 0 260 c' (omega arith) (sets_over c _ c' (omega arith))))
      ∙ sets_behind h _ _ 520 echoes_at e' (omega arith)
      (sets_behind l _ _ 260 520 e' (omega arith)
      (sets_behind c' _ _ 0 260 e' (omega arith) (sets_over e _ e' (omega arith))))

-- ---- from the image of the state before to that of the state made

module _ (s t : State) (h : sound s ≡ true) (g : sound t ≡ true) where
  head_renewed : sets (laid_out s) 0 (head_bytes t)
      ≡ joined (head_bytes t) (list_bytes s.heard) (list_bytes s.candidates) (list_bytes s.echoes) s.since
  unfolding laid_out
  head_renewed = sets_over (head_bytes s) _ (head_bytes t) refl

  heard_renewed : (k : ℕ) → (t.heard.len ≡ k → (s.heard ≡ t.heard) × (s.since ≡ t.since))
      → renewed_heard k t (joined (head_bytes t) (list_bytes s.heard) (list_bytes s.candidates) (list_bytes s.echoes) s.since)
      ≡ joined (head_bytes t) (list_bytes t.heard) (list_bytes s.candidates) (list_bytes s.echoes) t.since
  heard_renewed k kept =
      let z = sound_sized s h in
      elim (true_or_false (eqb t.heard.len k)) [
        | inl q ↦ let same = kept (eqb-true _ _ q) in rw (q, same.0, same.1)
        | inr q ↦ rw q
            (heard_over (head_bytes t) (list_bytes s.heard) (list_bytes s.candidates) (list_bytes s.echoes) s.since refl
            (list_bytes_length s.heard z.heard) (list_bytes_length s.candidates z.candidates) (list_bytes_length s.echoes z.echoes)
            (list_bytes t.heard) t.since (list_bytes_length t.heard (sound_sized t g).heard) (since_places t g ∙ sym (since_places s h)))
      ]

  rotation_renewed : (3 < kind_of t.round → (s.candidates ≡ t.candidates) × (s.echoes ≡ t.echoes))
      → renewed_rotation t (joined (head_bytes t) (list_bytes t.heard) (list_bytes s.candidates) (list_bytes s.echoes) t.since) ≡ laid_out t
  unfolding laid_out
  rotation_renewed kept =
      let z = sound_sized s h in
      let y = sound_sized t g in
      elim (true_or_false (leb (kind_of t.round) 3)) [
        | inl q ↦ rw q
            (rotation_over (head_bytes t) (list_bytes t.heard) (list_bytes s.candidates) (list_bytes s.echoes) t.since refl
            (list_bytes_length t.heard y.heard) (list_bytes_length s.candidates z.candidates) (list_bytes_length s.echoes z.echoes)
            (list_bytes t.candidates) (list_bytes t.echoes) (list_bytes_length t.candidates y.candidates)
            (list_bytes_length t.echoes y.echoes))
        | inr q ↦ let same = kept (leb-false _ _ q) in rw (q, same.0, same.1)
      ]

pub renew_heard-requires : goal.renew_heard-requires
renew_heard-requires c = (sound_sized _ c.requires.made).heard

pub renew_rotation-requires : goal.renew_rotation-requires
renew_rotation-requires c =
    let z = sound_sized _ c.requires.made in
    record { candidates = z.candidates; echoes = z.echoes }

pub returns : goal.returns
returns c =
    let a = c.args in
    let b = a.image.now in
    let t : State = a.state.now in
    let s = taken_apart b in
    let old = (sound_image_gives b c.requires.image).state in
    let made = c.requires.made in
    let bytes : Below 256 b = λ i. search rules in
    let front = c.put_head.ensures ∙ ap (λ (l : List ℕ). sets l 0 (head_bytes t)) (sym (laid_out-taken_apart b bytes c.requires.image)) in
    let first = c.renew_heard.ensures ∙ ap (renewed_heard a.known t) (front ∙ head_renewed s t old made) in
    c.renew_rotation.ensures
    ∙ ap (renewed_rotation t) (first ∙ heard_renewed s t old made a.known c.requires.heard)
    ∙ rotation_renewed s t old made c.requires.rotation
