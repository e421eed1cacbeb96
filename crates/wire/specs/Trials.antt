-- Document 01, "Trials": the starred ones on frames, as rows of a table that a crate above can take into its own.
--     FrameTrial      bytes, the round in which they are read, and their content, or none and the number of the cause where they are void
--     FrameHolds      what a row claims: that `content` and `read_refusal`, which the reader's promise cites, are just that
--     frame_trials    the rows
--     All P l         each member of l has P
use Rattle.std.specs.Prelude.{ℕ, List, [], ◌∷◌, ◌≡◌}
use Rattle.std.specs.Prelude.{Option, Some, None}
use Rattle.wire.specs.Frame.{Content, content, read_refusal}
use Rattle.wire.specs.declared.frame.Said.TheVariants.{Init, Roster}

pub record FrameTrial : Type 0 where
  pub bytes : List ℕ
  pub round : ℕ
  pub expected : Option Content
  -- by request A2 of document 02; 0 for a frame
  pub number : ℕ

abbrev pub FrameHolds : FrameTrial → Type 0
FrameHolds t = (content t.bytes t.round ≡ t.expected) × (read_refusal t.bytes t.round ≡ t.number)

abbrev pub All : {A : Type 0} → (A → Type 0) → List A → Type 0
All P [] = Unit {0}
All P (x ∷ l) = P x × All P l

abbrev pub frame_trials : List FrameTrial
frame_trials =
    -- "00 00 00 01 01 02 00 00 is init"
    record {
      bytes = 0x00 ∷ 0x00 ∷ 0x00 ∷ 0x01 ∷ 0x01 ∷ 0x02 ∷ 0x00 ∷ 0x00 ∷ [];
      round = 1;
      expected = Some (record { round = 1; said = Init; numbers = [] });
      number = 0;
    }
    -- "With 00 at offset 5 it is void"
    ∷ record { bytes = 0x00 ∷ 0x00 ∷ 0x00 ∷ 0x01 ∷ 0x01 ∷ 0x00 ∷ 0x00 ∷ 0x00 ∷ []; round = 1; expected = None; number = 13 }
    -- "A roster listing 5, 7 reads"
    ∷ record {
      bytes = 0x00 ∷ 0x00 ∷ 0x00 ∷ 0x02 ∷ 0x02 ∷ 0x02 ∷ 0x00 ∷ 0x02 ∷ 0x00 ∷ 0x00 ∷ 0x00 ∷ 0x05 ∷ 0x00 ∷ 0x00 ∷ 0x00 ∷ 0x07 ∷ [];
      round = 2;
      expected = Some (record { round = 2; said = Roster; numbers = 5 ∷ 7 ∷ [] });
      number = 0;
    }
    -- "7, 5 and 5, 5 are void"
    ∷ record {
      bytes = 0x00 ∷ 0x00 ∷ 0x00 ∷ 0x02 ∷ 0x02 ∷ 0x02 ∷ 0x00 ∷ 0x02 ∷ 0x00 ∷ 0x00 ∷ 0x00 ∷ 0x07 ∷ 0x00 ∷ 0x00 ∷ 0x00 ∷ 0x05 ∷ [];
      round = 2;
      expected = None;
      number = 13;
    }
    ∷ record {
      bytes = 0x00 ∷ 0x00 ∷ 0x00 ∷ 0x02 ∷ 0x02 ∷ 0x02 ∷ 0x00 ∷ 0x02 ∷ 0x00 ∷ 0x00 ∷ 0x00 ∷ 0x05 ∷ 0x00 ∷ 0x00 ∷ 0x00 ∷ 0x05 ∷ [];
      round = 2;
      expected = None;
      number = 13;
    }
    ∷ []
