-- Laws of the received lists, by the places of those heard: what the tally finds of them in the state and in the tray.
use Rattle.std.specs.Prelude.{ℕ, zero, suc, ◌+◌, ◌-◌, ◌≤◌, ◌<◌, true, List, [], ◌∷◌, ◌≡◌, refl, length, get_or, take}
use mathlib.Core.List.Memᴰ
use Rattle.std.specs.Prelude.{Option, Some, None}
use Rattle.std.proofs.Common.{ap, arith, length-append}
use Rattle.std.proofs.lemmas.List.{length-replicate}
use Rattle.wire.specs.Frame.{Content, writable}
use Rattle.wire.specs.Laws.Frame.{writable_gives, writable_count}
use Rattle.wire.specs.Limits.{max_numbers}
use Rattle.wire.specs.Numbers.{stored, listed}
use Rattle.wire.specs.Found.{Under}
use Rattle.wire.specs.Tray.{Entry}
use Rattle.wire.specs.Words.{Below}
use Rattle.controller.specs.Lists.{In}
use Rattle.controller.specs.State.{View, undecided, sound_rules}
use Rattle.controller.specs.Received.{ReceivedLists, read_in, receive, list_in, lists}
use Rattle.controller.specs.Laws.Lists.{rising_gives}
use Rattle.controller.specs.Laws.State.{SoundList, Sound, rules_give, rules_stored}
use Rattle.controller.specs.Laws.Received.{read_allowed, received_allowed}
use Rattle.controller.specs.declared.state.State.{State}

-- ---- the received lists, by the places of those heard

abbrev pub nth_list : ReceivedLists → ℕ → List ℕ
nth_list l j = l.list (get_or l.heard j 0)

list_sound : (o : Option Content) → ((c : Content) → o ≡ Some c → writable c ≡ true) → SoundList (list_in o)
list_sound None allowed = record { short = omega arith; rises = tt; positive = λ y i. absurd (Memᴰ.not-nil i) }
list_sound (Some c) allowed =
    let up = rising_gives c.numbers (writable_gives c (allowed c refl)).rise in
    record { short = writable_count c (allowed c refl); rises = up.0; positive = up.1 }

-- what is read has a list's numbers
pub read_sound : (t : ℕ) (u : Under) → SoundList (list_in (read_in t u))
read_sound t u = list_sound (read_in t u) (read_allowed t u)

pub list_at_sound : (v : View) (es : List Entry) → Sound v → undecided v ≡ true → (j : ℕ) → SoundList (nth_list (lists (receive v es)) j)
list_at_sound v es h u j =
    let x = get_or (receive v es).heard j 0 in
    list_sound ((receive v es).from x) (received_allowed v es h u x)

-- a bound on the places is one on the numbers, and on those of the first places
pub below_in : {k : ℕ} (l : List ℕ) → Below k l → (x : ℕ) → In x l → x < k
below_in [] small x i = absurd (Memᴰ.not-nil i)
below_in (y ∷ l) small x (Memᴰ.head e) = omega (arith, small 0, e)
below_in (y ∷ l) small x (Memᴰ.tail i) = below_in l (λ j. small (suc j)) x i

pub below_take : {k : ℕ} (n : ℕ) (l : List ℕ) → Below k l → Below k (take n l)
below_take zero l small i = omega (arith, small (length l))
below_take (suc n) [] small i = small i
below_take (suc n) (y ∷ l) small zero = small 0
below_take (suc n) (y ∷ l) small (suc i) = below_take n l (λ j. small (suc j)) i

-- the echoes of a sound state have their 64 places
pub echoes_sized : (s : State) → sound_rules s ≡ true → (s.echoes.len ≤ max_numbers) × (length s.echoes.at ≡ max_numbers)
echoes_sized s test =
    let l = listed s.echoes in
    let short : length l ≤ max_numbers = (rules_give s test).echoes.short in
    let size : length (stored l).at ≡ length l + (max_numbers - length l) = simp (length-append, length-replicate) in
    (omega (arith, ap (λ (t : State). t.echoes.len) (rules_stored s test)), omega (arith, ap (λ (t : State). length t.echoes.at) (rules_stored s test)))
