-- What is claimed of every list of calls from a start, worked trays and refused ones of any bytes: document 02, "A13. Link use of a run".
--     answered ks     what the calls ks answer, in order
--     answers c       what the controller c's calls answer, the start's first
--     bytes_of l      what the lengths in the answers l add up to
--     bytes_sent c    that of all answers of c
--     sent_in t a     the length in the answer a where it has a state of round t, else 0
--     bytes_in c t    what these of all answers of c add up to
--     longest n t     the length of a frame of round t, whose list, if it has one, is of n numbers
--     headers n       how many frames are sent at most where nothing is from round 3 + 3n on; full_lists n, how many of these have a list
--     link_limit n    the bytes of so many headers, and of so many lists of n numbers
--     LinkUse n c     the claim, with n = 64 of every controller, and of those in a run of n controllers with this n
use Rattle.std.proofs.Common.{List, ◌∷◌, map}
use Rattle.std.specs.Prelude.{ℕ, ◌+◌, ◌*◌, ◌≤◌, cond, eqb, ltb}
use mathlib.Core.List.{sum}
use Rattle.controller.specs.Bytes.{frame_header, number_width, kind_of, max_count}
use Rattle.controller.specs.declared.state.Answer.{Answer}
use Rattle.run.specs.Run.{TrayCall, Controller}

abbrev pub answered : List TrayCall → List Answer
answered ks = map (λ (k : TrayCall). k.answer) ks

-- "all its frames from start, each tray with the state that the call before it returned": a `Controller` is such a list of calls
abbrev pub answers : Controller → List Answer
answers c = c.start.answer ∷ answered c.trays

-- "The total is defined by the lengths returned"
abbrev pub bytes_of : List Answer → ℕ
bytes_of l = sum ◌+◌ 0 (map (λ (a : Answer). a.length) l)

abbrev pub bytes_sent : Controller → ℕ
bytes_sent c = bytes_of (answers c)

abbrev pub sent_in : ℕ → Answer → ℕ
sent_in t a = cond (eqb a.state.round t) a.length 0

abbrev pub bytes_in : Controller → ℕ → ℕ
bytes_in c t = sum ◌+◌ 0 (map (sent_in t) (answers c))

abbrev pub longest : ℕ → ℕ → ℕ
longest n t = frame_header + number_width * cond (ltb 0 (max_count (kind_of t))) n 0

-- rounds 1 to 2 + 3n: "A7 leaves round 195 silent"
abbrev pub headers : ℕ → ℕ
headers n = 2 + 3 * n

-- the roster's round 2 and the turns' 5, 8, .. 2 + 3n
abbrev pub full_lists : ℕ → ℕ
full_lists n = 1 + n

-- "the figure is 194 headers and 65 full lists", for n = 64
abbrev pub link_limit : ℕ → ℕ
link_limit n = headers n * frame_header + full_lists n * (n * number_width)

pub record LinkUse (n : ℕ) (c : Controller) : Type 0 where
  -- in each round
  pub rounds : (t : ℕ) → bytes_in c t ≤ longest n t
  -- in all: "The bytes sent by one controller .., added up over all its frames from start, .. never exceed 18,192, for any trays"
  pub total : bytes_sent c ≤ link_limit n
