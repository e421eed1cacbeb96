-- Laws of the heads: where a list stands, and how the number x is passed in all lists.
--     waiting w t m x   the sum of w j over the lists j whose head is x
--     Waits t m x j     list j is one of them
--     Around l j x ..   list l, as list j, stands at x, or at x + 1
--     Passing ..        so does each list, and those that have x and stand at x + 1 are counted
--     Climbing ..       so it is, and k is the node up to which the tree is in order again; its key is above x
use Rattle.std.specs.Prelude.{ℕ, ◌+◌, ◌-◌, ◌*◌, ◌/◌, ◌%◌, ◌≤◌, ◌<◌, true, false, cond, List, [], ◌∷◌, ◌⊎◌, ◌≢◌, ◌≡◌, refl, eqb, ltb, min, length, get_or, set}
use Rattle.std.proofs.Common.{inl, inr, sym, ap, ◌∙◌, zero-add, arith, lt-ltb, le-ltb, eq-eqb, ne_eqb, length-set, get_or-set_same, get_or-set_other}
use Rattle.std.proofs.Math.Decide.{ℕ_discrete, dec_lt}
use Rattle.std.proofs.Math.ListN.{get_or-eq_default}
use Rattle.wire.specs.Limits.{max_numbers}
use Rattle.controller.specs.Lists.{mem, Rising}
use Rattle.controller.specs.Work.Lists.{below}
use Rattle.controller.specs.Work.OpenList.{total, end_mark, max_lists, open_list, Opens, weighed, starts_of, counts_of, sent_of}
use Rattle.controller.specs.Work.Heads.{slots, key_of, Stands, Standing, Moves, sibling_of, Ordered, Roomy, Passes, keys_of, places_of}
use Rattle.controller.specs.Laws.Lists.{get_or_inside, count_none}
use Rattle.controller.specs.Laws.Work.Opened.{list_from_length}
use Rattle.controller.specs.Laws.Work.Lists.{below_past, below_finds, below_length, below_misses}
use Rattle.controller.specs.Laws.Work.Total.{total_same, total_one, total_none}
use Rattle.controller.specs.Laws.Work.Tree.{LeafOf, OrderedBut, leaf_of, ordered_all, ordered_beside}
use Rattle.controller.specs.Laws.Work.Tree.{ordered_but, ordered_climbs, ordered_leaf, root_least, sibling_inside}
use Rattle.controller.specs.Laws.Work.Weights.{weighed_most}
use Rattle.controller.specs.declared.heads.Heads.{Heads}
use Rattle.controller.specs.declared.open_list.OpenLists.{OpenLists}

-- ---- the head of a list

-- the number at the place of x is not below x
head_low : (x : ℕ) (l : List ℕ) → Rising l → x ≤ end_mark → x ≤ get_or l (below x l) end_mark
head_low x l up h = elim (dec_lt (below x l) (length l)) [
  | yes k ↦ rw (get_or_inside l (below x l) end_mark 0 k) (elim (dec_lt (get_or l (below x l) 0) x) [
    | yes lt ↦ absurd (omega (arith, below_past x l (below x l) up k lt))
    | no n ↦ omega arith
  ])
  | no k ↦ rw (get_or-eq_default l end_mark {n = below x l} (omega arith)) h
]

head_mem : (x : ℕ) (l : List ℕ) → Rising l → x < end_mark → eqb (get_or l (below x l) end_mark) x ≡ mem x l
head_mem x l up h = elim (dec_lt (below x l) (length l)) [
  | yes k ↦ rw (get_or_inside l (below x l) end_mark 0 k) (below_finds x l up k)
  | no k ↦ rw (get_or-eq_default l end_mark {n = below x l} (omega arith), ne_eqb end_mark x (omega arith), below_misses x l (omega arith))
]

-- the place of x + 1 is that behind x, if x is in the list
below_next : (x : ℕ) (l : List ℕ) → Rising l → below (x + 1) l ≡ below x l + cond (mem x l) 1 0
below_next x [] up = refl
below_next x (y ∷ l) up =
    let rest = below_next x l up.1 in
    elim (ℕ_discrete x y) [
      | yes e ↦
          let behind = count_none (λ z. ltb z (x + 1)) l (λ z i. le-ltb z (x + 1) (omega (arith, up.0 z i))) in
          let before = count_none (λ z. ltb z x) l (λ z i. le-ltb z x (omega (arith, up.0 z i))) in
          rw (lt-ltb y (x + 1) (omega arith), le-ltb y x (omega arith), eq-eqb x y e, behind, before)
      | no d ↦ elim (dec_lt y x) [
        | yes h ↦ rw (lt-ltb y (x + 1) (omega arith), lt-ltb y x h, ne_eqb x y d) (omega (arith, rest))
        | no h ↦ rw (le-ltb y (x + 1) (omega arith), le-ltb y x (omega arith), ne_eqb x y d) rest
      ]
    ]

-- no number is below 0
pub stands_first : (l : List ℕ) (j key next : ℕ) → key ≡ key_of j (get_or l 0 end_mark) → next ≡ key_of j (get_or l 1 end_mark) → Stands l j 0 key next 1
stands_first l j key next e f =
    let none : below 0 l ≡ 0 = count_none (λ z. ltb z 0) l (λ z i. le-ltb z 0 (omega arith)) in
    record { head = rw none e; ahead = rw none f; place = rw none }

module _ {l : List ℕ} {j x key next i : ℕ} (up : Rising l) (few : j < slots) (s : Stands l j x key next i) where
  stands_list : key % slots ≡ j
  stands_list = omega (arith, s.head)

  pub stands_head : key / slots ≡ get_or l (below x l) end_mark
  stands_head = omega (arith, s.head)

  stands_low : x ≤ end_mark → x ≤ key / slots
  stands_low h = omega (arith, stands_head, head_low x l up h)

  stands_mem : x < end_mark → eqb (key / slots) x ≡ mem x l
  stands_mem h = rw stands_head (head_mem x l up h)

  stands_moves : x < end_mark → key / slots ≡ x → Stands l j (x + 1) next (key_of j (get_or l (i + 1) end_mark)) (i + 1)
  stands_moves h e =
      let has : mem x l ≡ true = sym (stands_mem h) ∙ eq-eqb (key / slots) x e in
      let more : below (x + 1) l ≡ below x l + 1 = rw has at (below_next x l up) in
      let place = s.place in
      record { head = rw more s.ahead; ahead = rw (more, place); place = omega arith }

  stands_stays : x < end_mark → key / slots ≢ x → Stands l j (x + 1) key next i
  stands_stays h d =
      let no : mem x l ≡ false = sym (stands_mem h) ∙ ne_eqb (key / slots) x d in
      let same : below (x + 1) l ≡ below x l = omega (arith, rw no at (below_next x l up)) in
      record { head = rw same s.head; ahead = rw same s.ahead; place = rw same s.place }

-- ---- the room that the heads stand in

pub room_set : {t p i : List ℕ} (j k key next place : ℕ) → Roomy t p i → Roomy (set t k key) (set p j next) (set i j place)
room_set j k key next place room =
    record { tree = simp length-set room.tree; nexts = simp length-set room.nexts; places = simp length-set room.places }

-- where list j is set, it is as set, and each other list as it was
pub heads_set : {t p i : List ℕ} {m j key next place : ℕ} (P : ℕ → ℕ → ℕ → ℕ → Type 0) → Roomy t p i → m ≤ max_lists → j < m → P j key next place
    → (q : ℕ) → (q ≢ j → P q (get_or t (m + q) 0) (get_or p q 0) (get_or i q 0))
    → P q (get_or (set t (m + j) key) (m + q) 0) (get_or (set p j next) q 0) (get_or (set i j place) q 0)
heads_set {t} {p} {i} {m} {j} {key} {next} {place} P room few low here q other = elim (ℕ_discrete q j) [
  | yes e ↦ rw (e, get_or-set_same t (m + j) key 0 (omega arith), get_or-set_same p j next 0 (omega arith), get_or-set_same i j place 0 (omega arith)) here
  | no d ↦ rw (get_or-set_other t (m + j) (m + q) key 0 (omega arith), get_or-set_other p j q next 0 d, get_or-set_other i j q place 0 d) (other d)
]

-- ---- the lists whose head is x

abbrev pub waiting : (ℕ → ℕ) → List ℕ → ℕ → ℕ → ℕ
waiting w t m x = total (λ (j : ℕ). cond (eqb (get_or t (m + j) 0 / slots) x) (w j) 0) m

abbrev pub Waits : List ℕ → ℕ → ℕ → ℕ → Type 0
Waits t m x j = (j < m) × (get_or t (m + j) 0 / slots ≡ x)

module _ (w : ℕ → ℕ) (t : List ℕ) (m x : ℕ) where
  -- another key of an inner node does not matter
  pub waiting_inner : (k v : ℕ) → k < m → waiting w (set t k v) m x ≡ waiting w t m x
  waiting_inner k v h = total_same _ _ m (λ j i. rw (get_or-set_other t k (m + j) v 0 (omega arith)))

  -- list j moves on to a key above x
  waiting_moves : (j v : ℕ) → Waits t m x j → m + m ≤ length t → x < v / slots → waiting w (set t (m + j) v) m x + w j ≡ waiting w t m x
  waiting_moves j v h room later =
      let low = h.0 in
      let f : ℕ → ℕ = λ k. cond (eqb (get_or (set t (m + j) v) (m + k) 0 / slots) x) (w k) 0 in
      let g : ℕ → ℕ = λ k. cond (eqb (get_or t (m + k) 0 / slots) x) (w k) 0 in
      let others = total_one f g m j low (λ k i d. rw (get_or-set_other t (m + j) (m + k) v 0 (omega arith))) in
      let before : g j ≡ w j = rw (eq-eqb (get_or t (m + j) 0 / slots) x h.1) in
      let after : f j ≡ 0 = rw (get_or-set_same t (m + j) v 0 (omega arith), ne_eqb (v / slots) x (omega arith)) in
      omega (arith, others, before, after)

  waiting_none : ((j : ℕ) → j < m → x < get_or t (m + j) 0 / slots) → waiting w t m x ≡ 0
  waiting_none above = total_none _ m (λ j i. rw (ne_eqb (get_or t (m + j) 0 / slots) x (omega (arith, above j i))))

-- ---- passing x

abbrev pub Around : List ℕ → ℕ → ℕ → ℕ → ℕ → ℕ → Type 0
Around l j x key next i = Stands l j x key next i ⊎ Stands l j (x + 1) key next i

pub record Passing (own b s n c : List ℕ) (m x : ℕ) (t p i : List ℕ) (count : ℕ) : Type 0 where
  pub room : Roomy t p i
  pub each : (j : ℕ) → j < m → Around (open_list own b s n j) j x (get_or t (m + j) 0) (get_or p j 0) (get_or i j 0)
  pub counted : count + waiting (λ (j : ℕ). get_or c j 0) t m x ≡ weighed own b s n c m x

pub record Climbing (own b s n c : List ℕ) (m x : ℕ) (t p i : List ℕ) (count key k : ℕ) : Type 0 where
  pub passing : Passing own b s n c m x t p i count
  pub some : 0 < k
  pub inside : k < 2 * m
  pub held : key ≡ get_or t k 0
  pub later : x < key / slots
  pub but : OrderedBut t m k

-- the same of the code's records
abbrev pub ClimbingIn : OpenLists → ℕ → Heads → ℕ → ℕ → ℕ → Type 0
ClimbingIn o x h count key k =
    Climbing o.own.now o.tray.now (starts_of o.lists) (counts_of o.lists) (sent_of o.lists) o.len x h.tree (keys_of h.ahead) (places_of h.ahead) count key k

module _ {own b s n c : List ℕ} {m x : ℕ} (o : Opens own b s n c m) (low : x < end_mark) where
  pub passing_start : {t p i : List ℕ} → Roomy t p i → Standing own b s n m x t p i → Passing own b s n c m x t p i 0
  passing_start {t} {p} {i} room stands =
      let few = o.few in
      record {
        room = room;
        each = λ j h. inl (stands j h);
        counted = rw zero-add (total_same _ _ m (λ j h. rw (stands_mem (o.rises j h) (omega arith) (stands j h) low)));
      }

  module _ {t p i : List ℕ} {count : ℕ} (g : Passing own b s n c m x t p i count) where
    -- each leaf names its list, and no head is below x
    leaf_list : (j : ℕ) → j < m → get_or t (m + j) 0 % slots ≡ j
    leaf_list j h =
        let few = o.few in
        elim (g.each j h) [ inl e ↦ stands_list (o.rises j h) (omega arith) e | inr e ↦ stands_list (o.rises j h) (omega arith) e ]

    leaf_low : (j : ℕ) → j < m → x ≤ get_or t (m + j) 0 / slots
    leaf_low j h =
        let few = o.few in
        elim (g.each j h) [
          | inl e ↦ stands_low (o.rises j h) (omega arith) e (omega arith)
          | inr e ↦ omega (arith, stands_low (o.rises j h) (omega arith) e (omega arith))
        ]

    -- a list that waits stands at x
    waits_stands : (j : ℕ) → Waits t m x j → Stands (open_list own b s n j) j x (get_or t (m + j) 0) (get_or p j 0) (get_or i j 0)
    waits_stands j h =
        let few = o.few in
        let number = h.1 in
        elim (g.each j h.0) [ inl e ↦ e | inr e ↦ absurd (omega (arith, stands_low (o.rises j h.0) (omega arith) e (omega arith))) ]

    pub passing_place : (j : ℕ) → j < m → get_or i j 0 ≤ max_lists
    passing_place j h =
        let lies = o.lies j h in
        let size = list_from_length own b j (get_or s j 0) (get_or n j 0) lies in
        let short = lies.short in
        elim (g.each j h) [
          | inl e ↦ omega (arith, e.place, size, below_length x (open_list own b s n j))
          | inr e ↦ omega (arith, e.place, size, below_length (x + 1) (open_list own b s n j))
        ]

    pub passing_fits : (j : ℕ) → Waits t m x j → count + get_or c j 0 ≤ max_numbers
    passing_fits j h =
        let few = o.few in
        let size = g.room.tree in
        let rest = waiting_moves (λ (k : ℕ). get_or c k 0) t m x j ((x + 1) * slots) h (omega arith) (omega arith) in
        omega (arith, rest, g.counted, weighed_most own b s n c m o x)

    -- the list whose key a node has waits, if that key is not above x
    passing_finds : (k : ℕ) (l : LeafOf t m k) → get_or t k 0 < (x + 1) * slots → Waits t m x (get_or t k 0 % slots) × (m + get_or t k 0 % slots ≡ l.leaf)
    passing_finds k l h =
        let j = l.leaf - m in
        let low = l.low in
        let high = l.high in
        let at : m + j ≡ l.leaf = omega arith in
        let same : get_or t (m + j) 0 ≡ get_or t k 0 = rw at l.same in
        let list : get_or t k 0 % slots ≡ j = rw same at (leaf_list j (omega arith)) in
        let number : get_or t (m + j) 0 / slots ≡ x = omega (arith, leaf_low j (omega arith), same) in
        rw list ((omega arith, number), at)

    passing_inner : (k v : ℕ) → k < m → Passing own b s n c m x (set t k v) p i count
    passing_inner k v h =
        record {
          room = record { tree = simp length-set g.room.tree; nexts = g.room.nexts; places = g.room.places };
          each = λ j e. rw (get_or-set_other t k (m + j) v 0 (omega arith)) (g.each j e);
          counted = ap (λ (r : ℕ). count + r) (waiting_inner (λ (j : ℕ). get_or c j 0) t m x k v h) ∙ g.counted;
        }

    module _ {j key : ℕ} {t' p' i' : List ℕ} (h : Waits t m x j) (v : Moves (open_list own b s n j) m j t p i key t' p' i') where
      moved : Stands (open_list own b s n j) j (x + 1) key (key_of j (get_or (open_list own b s n j) (get_or i j 0 + 1) end_mark)) (get_or i j 0 + 1)
      moved = let few = o.few in rw v.head (stands_moves (o.rises j h.0) (omega arith) (waits_stands j h) low h.1)

      moved_later : x < key / slots
      moved_later = let few = o.few in omega (arith, stands_low (o.rises j h.0) (omega arith) moved (omega arith))

      -- it waits no more
      pub moved_fewer : (w : ℕ → ℕ) → waiting w t' m x + w j ≡ waiting w t m x
      moved_fewer w = let few = o.few in let size = g.room.tree in rw v.tree (waiting_moves w t m x j key h (omega arith) moved_later)

      passing_moves : Passing own b s n c m x t' p' i' (count + get_or c j 0)
      passing_moves =
          record {
            room = rw (v.tree, v.nexts, v.places) (room_set j (m + j) _ _ _ g.room);
            each = λ q e.
                rw (v.tree, v.nexts, v.places)
                (heads_set (λ r. Around (open_list own b s n r) r x) g.room o.few h.0 (inr moved) q (λ d. g.each q e));
            counted = omega (arith, moved_fewer (λ (k : ℕ). get_or c k 0), g.counted);
          }

      climbing_moves : OrderedBut t m (m + j) → Climbing own b s n c m x t' p' i' (count + get_or c j 0) key (m + j)
      climbing_moves but =
          let few = o.few in
          let low = h.0 in
          let size = g.room.tree in
          record {
            passing = passing_moves;
            some = omega arith;
            inside = omega arith;
            held = rw v.tree (sym (get_or-set_same t (m + j) key 0 (omega arith)));
            later = moved_later;
            but = rw v.tree (ordered_leaf t m (m + j) key (omega arith) but);
          }

  -- the first list that moves on is that of node 1
  module _ {t p i : List ℕ} {first : ℕ} (room : Roomy t p i) (stands : Standing own b s n m x t p i) (ordered : Ordered t m) (e : first ≡ get_or t 1 0)
      (number : first / slots ≡ x)
    where
      pub first_waits : Waits t m x (first % slots)
      first_waits =
          let some = o.some in
          let l = leaf_of t m 1 1 (ordered_but t m 1 ordered) (omega arith) (omega arith) in
          rw e (passing_finds (passing_start room stands) 1 l (omega arith)).0

      pub climbing_starts : {key : ℕ} {t' p' i' : List ℕ} → Moves (open_list own b s n (first % slots)) m (first % slots) t p i key t' p' i'
          → Climbing own b s n c m x t' p' i' (get_or c (first % slots) 0) key (m + first % slots)
      climbing_starts v = rw zero-add at (climbing_moves (passing_start room stands) first_waits v (ordered_but t m (m + first % slots) ordered))

  -- from node k, whose sibling is q, the way goes on
  module _ {t p i : List ℕ} {count key k : ℕ} (g : Climbing own b s n c m x t p i count key k) where
    module _ {q : ℕ} (more : 1 < k) (e : q ≡ sibling_of k) where
      pub beside_inside : q < length t
      beside_inside =
          let few = o.few in
          let size = g.passing.room.tree in
          omega (arith, (sibling_inside m k more g.inside).1)

      beside_leaf : LeafOf t m q
      beside_leaf = let h = sibling_inside m k more g.inside in rw e (leaf_of t m k (sibling_of k) g.but h.0 h.1)

      pub beside_waits : get_or t q 0 < (x + 1) * slots → Waits t m x (get_or t q 0 % slots)
      beside_waits h = (passing_finds g.passing q beside_leaf h).0

      pub climbing_jumps : {key' : ℕ} {t' p' i' : List ℕ} → get_or t q 0 < (x + 1) * slots
          → Moves (open_list own b s n (get_or t q 0 % slots)) m (get_or t q 0 % slots) t p i key' t' p' i'
          → Climbing own b s n c m x t' p' i' (count + get_or c (get_or t q 0 % slots) 0) key' (m + get_or t q 0 % slots)
      climbing_jumps h v =
          let l = beside_leaf in
          let f = passing_finds g.passing q l h in
          climbing_moves g.passing f.0 v (rw f.1 (ordered_beside t m k l.leaf l.steps (l.under ∙ e) g.but))

      pub climbing_climbs : {v : ℕ} → (x + 1) * slots ≤ get_or t q 0 → v ≡ min key (get_or t q 0)
          → Climbing own b s n c m x (set t (k / 2) v) p i count v (k / 2)
      climbing_climbs {v} h f =
          let few = o.few in
          let size = g.passing.room.tree in
          let inside = g.inside in
          let later = g.later in
          let made : v ≡ min (get_or t k 0) (get_or t (sibling_of k) 0) = rw (← g.held, ← e) f in
          record {
            passing = passing_inner g.passing (k / 2) v (omega arith);
            some = omega arith;
            inside = omega arith;
            held = sym (get_or-set_same t (k / 2) v 0 (omega arith));
            later = omega arith;
            but = ordered_climbs t m k v more (omega arith) made g.but;
          }

    pub climbing_ends : k ≤ 1 → Passes own b s n c m x (record { count = count; first = key }) t p i
    climbing_ends h =
        let few = o.few in
        let some = g.some in
        let top : k ≡ 1 = omega arith in
        let first : key ≡ get_or t 1 0 = rw top at g.held in
        let ordered : Ordered t m = ordered_all t m (rw top at g.but) in
        let later = g.later in
        let above : (j : ℕ) → j < m → x < get_or t (m + j) 0 / slots = λ j i. omega (arith, root_least t m (m + j) ordered (omega arith) (omega arith)) in
        record {
          count = omega (arith, g.passing.counted, waiting_none (λ (j : ℕ). get_or c j 0) t m x above);
          first = first;
          later = later;
          ordered = ordered;
          standing = λ j r. elim (g.passing.each j r) [
            | inl e ↦ stands_stays (o.rises j r) (omega arith) e low (omega (arith, above j r))
            | inr e ↦ e
          ];
        }
