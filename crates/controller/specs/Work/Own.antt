-- Words for own.rt: how many sent the own list. They are no part of the rules: the laws tie them to the rules' words.
--     Agrees l m h k        k of the lists l 0 to l (h - 1) are the list m, as far as counts tell: each number of m is in k of them, and any other in no
--                           more than the rest
--     SharesList h s b t k  so it is with the lists that the first h notes of t are of, and with the list of the frame s, in any round
--     WritesOwn s o n       the first n bytes of o are a frame with the list that the state s sends
--     AgreesOwn s b t k     so it is with the lists received by the state s, and with the list that it sent
use Rattle.std.specs.Prelude.{ℕ, ◌+◌, ◌≤◌, true, false, List, ◌≡◌, length, get_or, take}
use Rattle.wire.specs.Frame.{content}
use Rattle.controller.specs.Lists.{mem}
use Rattle.controller.specs.Received.{list_in}
use Rattle.controller.specs.State.{view, undecided, sound_rules}
use Rattle.controller.specs.Work.Opened.{list_under, noted_list, having}
use Rattle.controller.specs.Work.Received.{sent_count}
use Rattle.controller.specs.declared.state.State.{State}

abbrev pub Agrees : (ℕ → List ℕ) → List ℕ → ℕ → ℕ → Type 0
Agrees l m h k = (y : ℕ) → (mem y m ≡ true → k ≤ having l h y) × (mem y m ≡ false → having l h y + k ≤ h)

pub record SharesList (h : ℕ) (s b t : List ℕ) (k : ℕ) : Type 0 where
  pub few : k ≤ h
  pub agrees : (round : ℕ) → Agrees (λ j. list_under round (list_in (content s round)) b (get_or t j 0)) (list_in (content s round)) h k

pub record WritesOwn (s : State) (out : List ℕ) (n : ℕ) : Type 0 where
  pub inside : n ≤ length out
  pub own : sound_rules s ≡ true → undecided (view s) ≡ true → list_in (content (take n out) s.round) ≡ take (sent_count s) s.echoes.at

pub record AgreesOwn (s : State) (b t : List ℕ) (k : ℕ) : Type 0 where
  pub few : k ≤ s.heard.len
  pub agrees : Agrees (noted_list s b t) (take (sent_count s) s.echoes.at) s.heard.len k
