-- Laws of settling: what one number more makes of the lists that hold those settled before it.
use Rattle.std.specs.Prelude.{ℕ, ◌+◌, ◌*◌, ◌≤◌, ◌<◌, true, List, ◌⊎◌, ◌≡◌, ltb, length}
use Rattle.std.proofs.Common.{inl, inr, sym, ap, ◌∙◌, subst, arith, lt-ltb}
use Rattle.std.proofs.Math.Decide.{ℕ_discrete}
use Rattle.wire.specs.Limits.{max_numbers}
use Rattle.wire.specs.Numbers.{stored, listed}
use Rattle.wire.specs.Laws.Numbers.{listed_stored}
use Rattle.wire.specs.declared.frame.Numbers.{Numbers}
use Rattle.controller.specs.Laws.Lists.{count_all, insert_in, insert_rising}
use Rattle.controller.specs.Laws.State.{SoundList, ListTests, sound_list_gives, sound_list_test}
use Rattle.controller.specs.Laws.Work.Lists.{below_length, below_more, below_insert, insert_place, inserted_length}
use Rattle.controller.specs.Laws.Thirds.{third_is, two_thirds_is}
use Rattle.controller.specs.Lists.{In, insert}
use Rattle.controller.specs.Work.Lists.{below, inserted_at}
use Rattle.controller.specs.Thirds.{two_thirds}
use Rattle.controller.specs.Work.Tally.{HasJust, Echoed, Settles, Crowd, TooMany}
use Rattle.controller.specs.declared.tally.Settled.{Settled}

-- ---- a list that holds the numbers with a property

pub holds_other : {P Q : ℕ → Type 0} {n : Numbers} → HasJust P n → ((y : ℕ) → P y → Q y) → ((y : ℕ) → Q y → P y) → HasJust Q n
holds_other g there back = record { sound = g.sound; has = λ y. (λ i. there y ((g.has y).0 i), λ q. (g.has y).1 (back y q)) }

module _ {P : ℕ → Type 0} {n : Numbers} (g : HasJust P n) (x : ℕ) (out : ¬ In x (listed n)) (pos : 0 < x) where
  tests : ListTests n
  tests = sound_list_gives n g.sound

  put_in : inserted_at (below x (listed n)) x (listed n) ≡ insert x (listed n)
  put_in = insert_place x (listed n) tests.list.rises out

  put_length : length (insert x (listed n)) ≡ n.len + 1
  put_length = ap length (sym put_in) ∙ inserted_length (below x (listed n)) x (listed n) (below_length x (listed n)) ∙ ap (λ (m : ℕ). m + 1) tests.used

  -- x put in at its place
  module _ {Q : ℕ → Type 0} (room : n.len < max_numbers) (there : (y : ℕ) → (y ≡ x) ⊎ P y → Q y) (back : (y : ℕ) → Q y → (y ≡ x) ⊎ P y) where
    holds_more : {m : Numbers} {i : ℕ} → i ≡ below x (listed n) → m ≡ stored (inserted_at i x (listed n)) → HasJust Q m
    holds_more {m} here made =
        let whole : m ≡ stored (insert x (listed n)) = made ∙ ap stored (ap (λ (j : ℕ). inserted_at j x (listed n)) here ∙ put_in) in
        let all : SoundList (insert x (listed n)) = record {
          short = omega (arith, put_length);
          rises = insert_rising x (listed n) tests.list.rises;
          positive = λ y i. elim ((insert_in x (listed n)).0 i) [ inl e ↦ omega (arith, e) | inr j ↦ tests.list.positive y j ];
        } in
        rw whole (record {
          sound = sound_list_test (insert x (listed n)) all;
          has = λ y. rw (listed_stored (insert x (listed n))) (
            λ i. there y (elim ((insert_in x (listed n)).0 i) [ inl e ↦ inl e | inr j ↦ inr ((g.has y).0 j) ]),
            λ q. (insert_in x (listed n)).1 (elim (back y q) [ inl e ↦ inl e | inr p ↦ inr ((g.has y).1 p) ]),
          );
        })

  -- one more would be too many
  holds_crowd : {Q : ℕ → Type 0} → max_numbers ≤ n.len → Q x → ((y : ℕ) → P y → Q y) → Crowd Q
  holds_crowd {Q} full new old = (
    insert x (listed n),
    insert_rising x (listed n) tests.list.rises,
    omega (arith, put_length),
    λ y i. elim ((insert_in x (listed n)).0 i) [ inl e ↦ subst Q (sym e) new | inr j ↦ old y ((g.has y).0 j) ],
  )

-- ---- one number more is settled

-- what holds of the numbers below x holds of those below a later number
pub below_later : {A B : Type 0} {x y z : ℕ} → x ≤ z → A ⊎ ((y < x) × B) → A ⊎ ((y < z) × B)
below_later le (inl a) = inl a
below_later le (inr b) = inr (omega (arith, b.0, le), b.1)

-- and of those below the next but for x itself
below_next : {A B : Type 0} {x y : ℕ} → A ⊎ ((y < x + 1) × B) → (y ≡ x) ⊎ (A ⊎ ((y < x) × B))
below_next (inl a) = inr (inl a)
below_next {x = x} {y = y} (inr b) = elim (ℕ_discrete y x) [ yes q ↦ inl q | no d ↦ inr (inr (omega (arith, b.0), b.1)) ]

module _ {v : ℕ → ℕ} {h x : ℕ} {c : List ℕ} {s : Settled} (was : Settles v h c x s) where
  -- nothing changes where x is not to be echoed, and no candidate that is not one
  passes : (¬ Echoed v h c x) → (two_thirds (v x) h ≡ true → In x c) → Settles v h c (x + 1) s
  passes out known =
      record {
        echoes = holds_other was.echoes
            (λ y p. (omega (arith, p.0), p.1))
            (λ y p. elim (ℕ_discrete y x) [ yes q ↦ absurd (out (subst (Echoed v h c) q p.1)) | no d ↦ (omega (arith, p.0), p.1) ]);
        candidates = holds_other was.candidates
            (λ y p. below_later (omega arith) p)
            (λ y p. elim p [
              | inl i ↦ inl i
              | inr t ↦ elim (below_next {A = In y c} (inr t)) [
                | inl q ↦ inl (subst (λ z. In z c) (sym q) (known (subst (λ z. two_thirds (v z) h ≡ true) q t.1)))
                | inr earlier ↦ earlier
              ]
            ]);
        place = omega (arith, was.place, below_more x (x + 1) (listed s.candidates) (omega arith));
      }

  -- too few have it
  pub settles_few : 3 * v x < h → Settles v h c (x + 1) s
  settles_few few = passes (λ p. absurd (omega (arith, (third_is (v x) h).0 p.0))) (λ t. absurd (omega (arith, (two_thirds_is (v x) h).0 t)))

  -- it is a candidate
  pub settles_known : In x (listed s.candidates) → Settles v h c (x + 1) s
  settles_known i =
      let known : In x c = elim ((was.candidates.has x).0 i) [ inl j ↦ j | inr t ↦ absurd (omega (arith, t.0)) ] in
      passes (λ p. p.1 known) (λ t. known)

  module _ (one : h ≤ 3 * v x) (out : ¬ In x (listed s.candidates)) (pos : 0 < x) where
    new : Echoed v h c x
    new = ((third_is (v x) h).1 one, λ i. out ((was.candidates.has x).1 (inl i)))

    -- the echoes so far are below x, so that its place is behind them
    unechoed : ¬ In x (listed s.echoed)
    unechoed i = absurd (omega (arith, ((was.echoes.has x).0 i).0))

    last : s.echoed.len ≡ below x (listed s.echoed)
    last =
        sym (count_all (λ y. ltb y x) (listed s.echoed) (λ y i. lt-ltb y x ((was.echoes.has y).0 i).0)
        ∙ (sound_list_gives s.echoed was.echoes.sound).used)

    more_echoes : {e : Numbers} → s.echoed.len < max_numbers → e ≡ stored (inserted_at s.echoed.len x (listed s.echoed))
        → HasJust (λ y. (y < x + 1) × Echoed v h c y) e
    more_echoes room made =
        holds_more was.echoes x unechoed pos room
        (λ y p. elim p [ inl q ↦ (omega (arith, q), subst (Echoed v h c) (sym q) new) | inr t ↦ (omega (arith, t.0), t.1) ])
        (λ y t. elim (ℕ_discrete y x) [ yes q ↦ inl q | no d ↦ inr (omega (arith, t.0), t.1) ])
        last made

    -- there are 64 echoes already
    pub settles_crowds_echoes : max_numbers ≤ s.echoed.len → TooMany v h c
    settles_crowds_echoes full = inl (holds_crowd was.echoes x unechoed pos full new (λ y p. p.1))

    -- it is echoed only
    pub settles_echoes : {e : Numbers} {p : ℕ} → 3 * v x < 2 * h → s.echoed.len < max_numbers → p ≡ below x (listed s.candidates)
        → e ≡ stored (inserted_at s.echoed.len x (listed s.echoed)) → Settles v h c (x + 1) (record { echoed = e; candidates = s.candidates; place = p })
    settles_echoes less room here made =
        record {
          echoes = more_echoes room made;
          candidates = holds_other was.candidates
              (λ y p. below_later (omega arith) p)
              (λ y p. elim p [
                | inl i ↦ inl i
                | inr t ↦ elim (below_next {A = In y c} (inr t)) [
                  | inl q ↦ absurd (omega (arith, (two_thirds_is (v x) h).0 (subst (λ z. two_thirds (v z) h ≡ true) q t.1)))
                  | inr earlier ↦ earlier
                ]
              ]);
          place = omega (arith, here, below_more x (x + 1) (listed s.candidates) (omega arith));
        }

    module _ (two : 2 * h ≤ 3 * v x) where
      joins : two_thirds (v x) h ≡ true
      joins = (two_thirds_is (v x) h).1 two

      -- there are 64 candidates already
      pub settles_crowds_candidates : max_numbers ≤ s.candidates.len → TooMany v h c
      settles_crowds_candidates full =
          inr (holds_crowd was.candidates x out pos full (inr joins) (λ y p. elim p [ inl i ↦ inl i | inr q ↦ inr q.1 ]))

      pub settles_joins : {r : Settled} → s.echoed.len < max_numbers → s.candidates.len < max_numbers → r.place ≡ below x (listed s.candidates)
          → r.echoed ≡ stored (inserted_at s.echoed.len x (listed s.echoed)) → r.candidates ≡ stored (inserted_at r.place x (listed s.candidates))
          → Settles v h c (x + 1) r
      settles_joins {r} room free here made grown =
          let l = listed s.candidates in
          let up = (sound_list_gives s.candidates was.candidates.sound).list.rises in
          let all : listed r.candidates ≡ insert x l =
          ap listed grown ∙ listed_stored (inserted_at r.place x l) ∙ ap (λ (j : ℕ). inserted_at j x l) here ∙ insert_place x l up out in
          record {
            echoes = more_echoes room made;
            candidates =
                holds_more was.candidates x out pos free
                (λ y p. elim p [
                  | inl q ↦ inr (omega (arith, q), subst (λ z. two_thirds (v z) h ≡ true) (sym q) joins)
                  | inr q ↦ below_later (omega arith) q
                ])
                (λ y p. below_next p)
                here grown;
            place = rw all (omega (arith, here, below_more x (x + 1) l (omega arith), below_insert x (x + 1) l up));
          }
