-- `controller::received::senders_fit` meets its contract: the senders that are left fit exactly if all do.
use Rattle.std.specs.Prelude.{ℕ, ◌+◌, ◌-◌, ◌≤◌, ◌<◌, true, false, not, List, ◌∷◌, ◌≢◌, ◌≡◌}
use Rattle.std.proofs.Common.{sym, ◌∙◌, arith, eq-eqb, ne_eqb, inl, inr}
use Rattle.std.proofs.Math.Bool.{and-false}
use Rattle.std.proofs.Math.Nat.{sub-zero}
use Rattle.controller.proofs.Directory.{entry_sent}
use Rattle.controller.specs.Laws.Received.{senders_step}
use Rattle.controller.specs.Lists.{mem}
use Rattle.controller.specs.Work.Received.{others_only}
use Rattle.wire.specs.Tray.{sender, entries}
use Rattle.controller.proofs.received.senders_fit.Invariants.{rest}
use Rattle.controller.proofs.received.senders_fit.Goals.{After-entry_sender-sender}
use Rattle.controller.proofs.received.senders_fit.Goals as goal

module _ (b : List ℕ) (own n i x : ℕ) (h : i < n) (e : x ≡ sender b i) where
  next : rest b n i ≡ x ∷ rest b n (i + 1)
  next = senders_step b n i h ∙ rw e

  nobody : x ≡ 0 → false ≡ others_only own (rest b n i)
  nobody z = rw (next, eq-eqb 0 x (sym z))

  oneself : x ≡ own → false ≡ others_only own (rest b n i)
  oneself o = rw (next, eq-eqb own x (sym o)) (sym (and-false (not (mem 0 (x ∷ rest b n (i + 1))))))

  another : x ≢ 0 → x ≢ own → others_only own (rest b n (i + 1)) ≡ others_only own (rest b n i)
  another z o = rw (next, ne_eqb 0 x (λ d. z (sym d)), ne_eqb own x (λ d. o (sym d)))

done : (b : List ℕ) (own n i : ℕ) → n ≤ i → true ≡ others_only own (rest b n i)
done b own n i h = let e : n - i ≡ 0 = omega arith in rw e

-- the sender that is read
read : (c : After-entry_sender-sender) → c.entry_sender-sender.result ≡ sender c.args.tray.now c.loop-i.i
read c = entry_sent _ c.directory-entries.ensures _ _ c.entry_sender-sender.ensures

pub loop-i-init : goal.loop-i-init
unfolding entries
loop-i-init c = rw (c.entry_count-i-end.ensures, sub-zero)

pub returns-then-sender-eq0 : goal.returns-then-sender-eq0
returns-then-sender-eq0 c =
    let it = read (goal.at.returns-then-sender-eq0 c).After-entry_sender-sender in
    elim c.then-sender-eq0.either [
      | inl z ↦ nobody _ _ _ _ _ c.loop-i-test.true it z ∙ c.loop-i.invariant
      | inr o ↦ oneself _ _ _ _ _ c.loop-i-test.true it o.1 ∙ c.loop-i.invariant
    ]

pub loop-i-preserved : goal.loop-i-preserved
loop-i-preserved c =
    let it = read (goal.at.loop-i-preserved c).After-entry_sender-sender in
    another _ _ _ _ _ c.loop-i-test.true it c.if-sender-eq0.false c.if-sender-own.false ∙ c.loop-i.invariant

pub returns : goal.returns
returns c = done _ _ _ _ c.loop-i-test.false ∙ c.loop-i.invariant
