-- What a directory has of the tray that it is of: its entries' senders and places, and how many there are.
use Rattle.std.specs.Prelude.{true, length}
use Rattle.std.proofs.Math.Path.{◌≡◌, ap, ◌∙◌}
use Rattle.std.proofs.Common.{arith, ℕ, ◌/◌, List}
use Rattle.wire.specs.Laws.Tray.{directory_length}
use Rattle.wire.specs.Limits.{entry_width, offset_at}
use Rattle.wire.specs.Tray.{well_formed, directory, entry_count, word_of, sender, place}

module _ (b : List ℕ) {d : List ℕ} (of : d ≡ directory b) where
  pub entry_sent : (i x : ℕ) → x ≡ word_of d i 0 → x ≡ sender b i
  unfolding sender
  entry_sent i x e = e ∙ ap (λ (w : List ℕ). word_of w i 0) of

  pub entry_placed : (i x : ℕ) → x ≡ word_of d i offset_at → x ≡ place b i
  unfolding place
  entry_placed i x e = e ∙ ap (λ (w : List ℕ). word_of w i offset_at) of

  pub entries_counted : well_formed b ≡ true → length d / entry_width ≡ entry_count b
  entries_counted packed = omega (arith, ap length of, directory_length b packed)
