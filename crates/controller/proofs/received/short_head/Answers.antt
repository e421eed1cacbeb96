-- `controller::received::short_head` meets its contract: a frame of eight bytes says a bit exactly if it is the header with that bit, and any other is void.
use Rattle.std.specs.Prelude.{ℕ, List, ◌≢◌, ◌≡◌}
use Rattle.std.proofs.Common.{◌∙◌, ap, arith, ne_eqb}
use Rattle.wire.specs.Found.{meaning}
use Rattle.wire.specs.Frame.{content, bit_in}
use Rattle.wire.specs.Heads.{Short, head_from, head_of}
use Rattle.wire.specs.Laws.Heads.{short_says, long_void}
use Rattle.wire.specs.Limits.{frame_header}
use Rattle.wire.specs.Notes.{found_by}
use Rattle.wire.specs.Tray.{part}
use Rattle.wire.specs.Words.{Below}
use Rattle.wire.specs.declared.found.Found.{Found}
use Rattle.wire.specs.declared.found.Found.TheVariants.{At}
use Rattle.controller.specs.Received.{read_in}
use Rattle.controller.specs.Work.Received.{bit_under, Votes}
use Rattle.controller.proofs.Noted.{read_at}
use Rattle.controller.proofs.received.short_head.Goals as goal

module _ (b : List ℕ) (k d t o n : ℕ) (short : Short t) (found : At o n ≡ found_by k) where
  under : bit_under t d b k ≡ bit_in (content (part b o n) t)
  under = read_at d (λ (f : Found). bit_in (read_in t (meaning b f))) k o n found

  no_vote : n ≢ frame_header → Votes t d b k 0
  no_vote other bit l =
      let least = short.least in
      let void : bit_under t d b k ≡ 3 = under ∙ ap bit_in (long_void b o n t short other) in
      rw (void, ne_eqb 0 (head_of t bit) (λ e. omega arith), ne_eqb 3 bit (λ e. omega arith))

  vote : Below 256 b → n ≡ frame_header → (head : ℕ) → head ≡ head_from b o → Votes t d b k head
  vote bytes eight head read bit l = rw (read, under, eight) (short_says b o t bit bytes short l)

pub returns-in-At : goal.returns-in-At
returns-in-At c t d short own =
    vote c.args.tray.now c.args.note d t _ _ short c.in-At.ensures (λ i. (c.type_inv.tray i).fits) c.if-len-eq-FRAME_HEADER.true _ c.read_head.ensures

pub returns-in_default : goal.returns-in_default
returns-in_default c t d short own = no_vote c.args.tray.now c.args.note d t _ _ short c.in-At.ensures c.if-len-eq-FRAME_HEADER.false
