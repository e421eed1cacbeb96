-- `controller::rotation::roster` meets its contract: after j turns the list has those of the first j heard that sent init.
use Rattle.std.specs.Prelude.{ℕ, ◌+◌, ◌-◌, ◌<◌, Bool, true, false, List, [], ◌∷◌, ◌++◌, ◌≡◌, refl, eqb, length, get_or, take}
use Rattle.std.specs.Prelude.{Option, Some, None}
use Rattle.std.specs.Option.{option_eq}
use Rattle.std.proofs.Common.{sym, ap, ◌∙◌, add-one, arith, length-append, take-suc, get_or-take, append-nil}
use Rattle.std.proofs.Math.ListN.{set}
use Rattle.std.proofs.lemmas.List.{length-replicate}
use Rattle.std.proofs.Math.Seq.{take_all}
use Rattle.controller.specs.Laws.Lists.{keep_append}
use Rattle.controller.specs.Laws.Work.Ready.{ready_few, ready_listed, ready_used, ready_says}
use Rattle.controller.specs.Laws.Work.Lists.{opened_first, opened_stored, inserted_last}
use Rattle.controller.specs.Lists.{keep}
use Rattle.controller.specs.Received.{says}
use Rattle.controller.specs.Rotation.{roster}
use Rattle.controller.specs.Work.Received.{received_by, Ready, bit_had, bit_under}
use Rattle.controller.specs.declared.state.State.{State}
use Rattle.wire.specs.Frame.{kind_of}
use Rattle.wire.specs.Laws.Numbers.{listed_stored}
use Rattle.wire.specs.Limits.{max_numbers}
use Rattle.wire.specs.Numbers.{stored, listed}
use Rattle.wire.specs.declared.frame.Numbers.{Numbers}
use Rattle.controller.proofs.rotation.roster.Invariants.{sent_init, senders}
use Rattle.controller.proofs.rotation.roster.Goals.{then-eq, else-eq}
use Rattle.controller.proofs.rotation.roster.Goals as goal

module _ (f : ℕ → Bool) (l : List ℕ) (j : ℕ) (h : j < length l) where
  passes : f (get_or l j 0) ≡ true → keep f (take (j + 1) l) ≡ keep f (take j l) ++ get_or l j 0 ∷ []
  passes t = rw (add-one j, take-suc l j 0, keep_append, t)

  fails : f (get_or l j 0) ≡ false → keep f (take (j + 1) l) ≡ keep f (take j l)
  fails t = rw (add-one j, take-suc l j 0, keep_append, t) (append-nil (keep f (take j l)))

-- a number behind a list that is not full
pushed : (n : Numbers) (l : List ℕ) (x : ℕ) → n ≡ stored l → n.len < max_numbers
    → ◌≡◌ {A = Numbers} (record { len = n.len + 1; at = set n.at n.len x }) (stored (l ++ x ∷ []))
pushed n l x e h =
    let same : listed n ≡ l = ap listed e ∙ listed_stored l in
    let back : stored (listed n) ≡ n = ap stored same ∙ sym e in
    let used : length (listed n) ≡ n.len = ap (λ (m : Numbers). m.len) back in
    let size : length n.at ≡ length l + (max_numbers - length l) = ap (λ (m : Numbers). length m.at) e ∙ simp (length-append, length-replicate) in
    let most : length l ≡ n.len = sym (ap (λ (m : Numbers). m.len) e) in
    opened_stored n n.len x (set n.at n.len x) back h (omega arith) (opened_first x n.len n.at (omega arith))
    ∙ ap stored (inserted_last n.len x (listed n) used ∙ ap (λ (m : List ℕ). m ++ x ∷ []) same)

-- the test for no bit
no_bit : (d : Option ℕ) → option_eq eqb d (Some 2) ≡ eqb (bit_had d) 2
no_bit None = refl
no_bit (Some b) = refl

-- one turn: the bit d that is read at place j, t whether it is none, and the list before it
module _ {s : State} {b f : List ℕ} (ready : Ready s b f) (first : kind_of s.round ≡ 1) (j : ℕ) (d : Option ℕ) (t : Bool) (h : j < s.heard.len)
    (read : bit_had d ≡ bit_under s.round s.said b (get_or f j 0)) (test : t ≡ option_eq eqb d (Some 2)) (n : Numbers) (list : n ≡ stored (senders s b j)) where
  asked : t ≡ sent_init s b (get_or (listed s.heard) j 0)
  asked =
      test ∙ no_bit d ∙ ap (λ (i : ℕ). eqb i 2) read ∙ ready_says ready j 2 h (omega arith) (λ e. omega arith)
      ∙ ap (λ (k : ℕ). says k 2 ((received_by s b).from (get_or (listed s.heard) j 0))) first

  within : j < length (listed s.heard)
  within = omega (arith, ready_used ready)

  taken : t ≡ true → n.len < max_numbers
      → ◌≡◌ {A = Numbers} (record { len = n.len + 1; at = set n.at n.len (get_or s.heard.at j 0) }) (stored (senders s b (j + 1)))
  taken e room =
      pushed n (senders s b j) (get_or s.heard.at j 0) list room
      ∙ ap stored (
      ap (λ (x : ℕ). senders s b j ++ x ∷ []) (sym (get_or-take s.heard.len s.heard.at j 0 h))
      ∙ sym (passes (sent_init s b) (listed s.heard) j within (sym asked ∙ e))
      )

  left : t ≡ false → n ≡ stored (senders s b (j + 1))
  left e = list ∙ ap stored (sym (fails (sent_init s b) (listed s.heard) j within (sym asked ∙ e)))

pub loop-j-init : goal.loop-j-init
loop-j-init c = (ready_few c.requires.ready, omega (arith, ap (λ (n : Numbers). n.len) c.no_numbers-list.ensures), c.no_numbers-list.ensures)

pub loop-j-preserved : goal.loop-j-preserved
loop-j-preserved c =
    let j = c.loop-j.j in
    let bit = c.received_bit-bit in
    let ready = c.requires.ready in
    let first = c.requires.kind in
    let so_far = c.loop-j.invariant in
    let inside = c.loop-j-test.true in
    let room : c.loop-j.list.len < max_numbers = omega arith in
    elim c.if-eq.branch [
      | then-eq w ↦ (
        so_far.0,
        omega (arith, ap (λ (n : Numbers). n.len) w.list-is),
        w.list-is ∙ taken ready first j bit.result c.eq.result inside bit.ensures c.eq.ensures _ so_far.2 w.if-eq.true room,
      )
      | else-eq w ↦ (
        so_far.0,
        omega (arith, ap (λ (n : Numbers). n.len) w.list-is),
        w.list-is ∙ left ready first j bit.result c.eq.result inside bit.ensures c.eq.ensures _ so_far.2 w.if-eq.false,
      )
    ]

pub returns : goal.returns
unfolding roster
returns c =
    c.loop-j.invariant.2
    ∙ ap (λ (l : List ℕ). stored (keep (sent_init c.args.state.now c.args.noted.now.tray.now) l))
    (take_all c.loop-j.j (listed c.args.state.now.heard) (omega (arith, ready_used c.requires.ready)) ∙ ready_listed c.requires.ready)
