-- The frames under one number: document 02, "A5. Two different frames under one number".
--     frames_under x es      the frames of the entries under the number x, in the directory's order; one of length 0 is a frame too
--     same_bytes a b         a and b are the same bytes
--     Under                  what entries have under a number: nothing; one frame, of which there may be copies; or several that differ
--     under x es             which of these the entries es have under the number x
--     found s x              the code's answer to that for the tray s: where the frame lies, and of equal copies the first
--     meaning s f            what an answer says of the tray s
use Rattle.std.specs.Prelude.{ℕ, zero, suc, ◌+◌, Bool, true, false, cond, ◌&&◌, List, [], ◌∷◌, eqb}
use Rattle.wire.specs.Tray.{Entry, entry_count, offset_of, length_of, sender, part, entries}
use Rattle.wire.specs.declared.found.Found.{Found}
use Rattle.wire.specs.declared.found.Found.TheVariants.{At, Nothing, Several}

-- ---- what there is under a number

abbrev pub frames_under : ℕ → List Entry → List (List ℕ)
frames_under x [] = []
frames_under x (e ∷ es) = cond (eqb e.sender x) (e.bytes ∷ frames_under x es) (frames_under x es)

abbrev pub same_bytes : List ℕ → List ℕ → Bool
same_bytes [] [] = true
same_bytes [] (y ∷ b) = false
same_bytes (x ∷ a) [] = false
same_bytes (x ∷ a) (y ∷ b) = eqb x y && same_bytes a b

abbrev pub all_same : List ℕ → List (List ℕ) → Bool
all_same b [] = true
all_same b (c ∷ cs) = same_bytes b c && all_same b cs

pub data Under : Type 0 where
  nothing : Under
  one : List ℕ → Under
  several : Under

abbrev pub among_frames : List (List ℕ) → Under
among_frames [] = nothing
among_frames (b ∷ bs) = cond (all_same b bs) (one b) several

abbrev pub under : ℕ → List Entry → Under
under x es = among_frames (frames_under x es)

-- ---- the answer

-- the first of the n entries from entry i on that is under x
abbrev pub first_from : List ℕ → ℕ → ℕ → ℕ → ℕ
first_from s x zero i = i
first_from s x (suc n) i = cond (eqb (sender s i) x) i (first_from s x n (i + 1))

abbrev pub answer : List ℕ → ℕ → Under → Found
answer s i nothing = Nothing
answer s i (one b) = At (offset_of s i) (length_of s i)
answer s i several = Several

abbrev pub found : List ℕ → ℕ → Found
found s x = answer s (first_from s x (entry_count s) 0) (under x (entries s))

abbrev pub meaning : List ℕ → Found → Under
meaning s (At o n) = one (part s o n)
meaning s Nothing = nothing
meaning s Several = several
