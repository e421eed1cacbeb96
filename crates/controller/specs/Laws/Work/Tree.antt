-- Laws of the tree of keys. Where the key of a node is new, the nodes above it need not be the lesser of the two below them until they are made anew.
--     up d i            the node d steps above node i
--     Above p i         node p stands above node i
--     Node t p          node p of the tree t is the lesser of the two below it
--     OrderedBut t m i  so is each inner node that does not stand above node i
--     LeafOf t m j      a leaf at or below node j that has its key
use Rattle.std.specs.Prelude.{ℕ, zero, suc, ◌+◌, ◌*◌, ◌/◌, ◌%◌, ◌≤◌, ◌<◌, List, ◌⊎◌, ◌≢◌, ◌≡◌, refl, min, length, get_or, set}
use Rattle.std.proofs.Common.{inl, inr, sym, ap, ◌∙◌, arith, eq-eqb, ne_eqb, get_or-set_same, get_or-set_other}
use Rattle.std.proofs.Math.Decide.{ℕ_discrete, dec_lt}
use Rattle.std.proofs.Math.Nat.{min_comm, min-eq_left, min-eq_right}
use Rattle.controller.specs.Work.Heads.{sibling_of, Ordered}

-- ---- the sibling

-- the two nodes below node p are siblings
sibling_even : (i : ℕ) → i % 2 ≡ 0 → sibling_of i ≡ i + 1
sibling_even i e = rw (eq-eqb (i % 2) 0 e)

sibling_odd : (i : ℕ) → i % 2 ≡ 1 → sibling_of i + 1 ≡ i
sibling_odd i e = rw (ne_eqb (i % 2) 0 (omega arith)) (omega arith)

sibling_half : (i : ℕ) → sibling_of i / 2 ≡ i / 2
sibling_half i = elim (ℕ_discrete (i % 2) 0) [
  | yes e ↦ rw (sibling_even i e) (omega arith)
  | no n ↦ let e = sibling_odd i (omega arith) in omega arith
]

pub sibling_inside : (m i : ℕ) → 1 < i → i < 2 * m → (i / 2 < sibling_of i) × (sibling_of i < 2 * m)
sibling_inside m i some inside = elim (ℕ_discrete (i % 2) 0) [
  | yes e ↦ rw (sibling_even i e) (omega arith, omega arith)
  | no n ↦ let e = sibling_odd i (omega arith) in (omega arith, omega arith)
]

-- ---- the nodes above a node

abbrev pub up : ℕ → ℕ → ℕ
up zero i = i
up (suc d) i = up d (i / 2)

up_low : (d i : ℕ) → up d i ≤ i
up_low zero i = omega arith
up_low (suc d) i = omega (arith, up_low d (i / 2))

up_half : (d i : ℕ) → up d i / 2 ≡ up d (i / 2)
up_half zero i = refl
up_half (suc d) i = up_half d (i / 2)

up_up : (d e i : ℕ) → (f : ℕ) × (up f i ≡ up e (up d i))
up_up zero e i = (e, refl)
up_up (suc d) e i = let r = up_up d e (i / 2) in (suc r.0, r.1)

abbrev pub Above : ℕ → ℕ → Type 0
Above p i = (d : ℕ) × (up d (i / 2) ≡ p)

above_low : (p i : ℕ) → Above p i → p ≤ i / 2
above_low p i a = omega (arith, a.1, up_low a.0 (i / 2))

-- ---- the order of the tree

abbrev pub Node : List ℕ → ℕ → Type 0
Node t p = get_or t p 0 ≡ min (get_or t (2 * p) 0) (get_or t (2 * p + 1) 0)

abbrev pub OrderedBut : List ℕ → ℕ → ℕ → Type 0
OrderedBut t m i = (p : ℕ) → 0 < p → p < m → Node t p ⊎ Above p i

-- another key of node i matters for node i and the one above it
pub node_set : (t : List ℕ) (p i v : ℕ) → p ≢ i → i / 2 ≢ p → Node t p → Node (set t i v) p
node_set t p i v d e n =
    rw (get_or-set_other t i p v 0 d, get_or-set_other t i (2 * p) v 0 (omega arith), get_or-set_other t i (2 * p + 1) v 0 (omega arith)) n

-- node p, made anew
pub node_made : (t : List ℕ) (p v : ℕ) → 0 < p → p < length t → v ≡ min (get_or t (2 * p) 0) (get_or t (2 * p + 1) 0) → Node (set t p v) p
node_made t p v some inside e =
    rw (get_or-set_same t p v 0 inside, get_or-set_other t p (2 * p) v 0 (omega arith), get_or-set_other t p (2 * p + 1) v 0 (omega arith)) e

-- a node and its sibling are the two nodes below one
siblings_least : (t : List ℕ) (i p : ℕ) → 0 < i → i / 2 ≡ p
    → min (get_or t i 0) (get_or t (sibling_of i) 0) ≡ min (get_or t (2 * p) 0) (get_or t (2 * p + 1) 0)
siblings_least t i p some e = elim (ℕ_discrete (i % 2) 0) [
  | yes z ↦
      let left : i ≡ 2 * p = omega arith in
      let right : sibling_of i ≡ 2 * p + 1 = omega (arith, sibling_even i z) in
      rw (right, left)
  | no z ↦
      let right : i ≡ 2 * p + 1 = omega arith in
      let left : sibling_of i ≡ 2 * p = omega (arith, sibling_odd i (omega arith)) in
      rw (left, right) (min_comm (get_or t (2 * p + 1) 0) (get_or t (2 * p) 0))
]

pub ordered_but : (t : List ℕ) (m i : ℕ) → Ordered t m → OrderedBut t m i
ordered_but t m i o p a b = inl (o p a b)

pub ordered_all : (t : List ℕ) (m : ℕ) → OrderedBut t m 1 → Ordered t m
ordered_all t m o p a b = elim (o p a b) [ inl n ↦ n | inr r ↦ absurd (omega (arith, above_low p 1 r)) ]

-- a new key for a leaf
pub ordered_leaf : (t : List ℕ) (m l v : ℕ) → m ≤ l → OrderedBut t m l → OrderedBut (set t l v) m l
ordered_leaf t m l v h o p a b = elim (ℕ_discrete (l / 2) p) [
  | yes e ↦ inr (0, e)
  | no d ↦ elim (o p a b) [ inl n ↦ inl (node_set t p l v (omega arith) d n) | inr r ↦ inr r ]
]

-- the nodes above node i stand above whatever stands below its sibling
pub ordered_beside : (t : List ℕ) (m i l d : ℕ) → up d l ≡ sibling_of i → OrderedBut t m i → OrderedBut t m l
ordered_beside t m i l d e o p a b = elim (o p a b) [
  | inl n ↦ inl n
  | inr r ↦
      let half : up d (l / 2) ≡ i / 2 = sym (up_half d l) ∙ ap (λ (k : ℕ). k / 2) e ∙ sibling_half i in
      let s = up_up d r.0 (l / 2) in
      inr (s.0, s.1 ∙ ap (up r.0) half ∙ r.1)
]

-- the node above node i is made anew
pub ordered_climbs : (t : List ℕ) (m i v : ℕ) → 1 < i → i / 2 < length t → v ≡ min (get_or t i 0) (get_or t (sibling_of i) 0) → OrderedBut t m i
    → OrderedBut (set t (i / 2) v) m (i / 2)
ordered_climbs t m i v some inside e o p a b = elim (ℕ_discrete p (i / 2)) [
  | yes s ↦ inl (rw s (node_made t (i / 2) v (omega arith) inside (e ∙ siblings_least t i (i / 2) (omega arith) refl)))
  | no d ↦ elim (ℕ_discrete (i / 2 / 2) p) [
    | yes s ↦ inr (0, s)
    | no f ↦ elim (o p a b) [
      | inl n ↦ inl (node_set t p (i / 2) v d f n)
      | inr (zero, s) ↦ absurd (d (sym s))
      | inr (suc g, s) ↦ inr (g, s)
    ]
  ]
]

-- ---- keys and leaves

pub record LeafOf (t : List ℕ) (m j : ℕ) : Type 0 where
  pub leaf : ℕ
  pub steps : ℕ
  pub low : m ≤ leaf
  pub high : leaf < 2 * m
  pub under : up steps leaf ≡ j
  pub same : get_or t leaf 0 ≡ get_or t j 0

-- a leaf of a node below node j with node j's key is one of node j
leaf_up : {t : List ℕ} {m : ℕ} (j k : ℕ) → k / 2 ≡ j → get_or t k 0 ≡ get_or t j 0 → LeafOf t m k → LeafOf t m j
leaf_up j k e s r =
    record {
      leaf = r.leaf;
      steps = suc r.steps;
      low = r.low;
      high = r.high;
      under = sym (up_half r.steps r.leaf) ∙ ap (λ (n : ℕ). n / 2) r.under ∙ e;
      same = r.same ∙ s;
    }

leaf_from : (t : List ℕ) (m i : ℕ) → OrderedBut t m i → (n j : ℕ) → 2 * m ≤ n + j → i / 2 < j → j < 2 * m → LeafOf t m j
leaf_from t m i o zero j h above inside = absurd (omega arith)
leaf_from t m i o (suc n) j h above inside = elim (dec_lt j m) [
  | no l ↦ record { leaf = j; steps = 0; low = omega arith; high = inside; under = refl; same = refl }
  | yes l ↦ elim (o j (omega arith) l) [
    | inr r ↦ absurd (omega (arith, above_low j i r))
    | inl s ↦ elim (dec_lt (get_or t (2 * j) 0) (get_or t (2 * j + 1) 0)) [
      | yes lt ↦
          leaf_up j (2 * j) (omega arith) (sym (s ∙ min-eq_left (omega arith))) (leaf_from t m i o n (2 * j) (omega arith) (omega arith) (omega arith))
      | no le ↦
          leaf_up j (2 * j + 1) (omega arith) (sym (s ∙ min-eq_right (omega arith)))
          (leaf_from t m i o n (2 * j + 1) (omega arith) (omega arith) (omega arith))
    ]
  ]
]

-- a node that does not stand above node i has the key of a leaf
pub leaf_of : (t : List ℕ) (m i j : ℕ) → OrderedBut t m i → i / 2 < j → j < 2 * m → LeafOf t m j
leaf_of t m i j o above inside = leaf_from t m i o (2 * m) j (omega arith) above inside

root_from : (t : List ℕ) (m : ℕ) → Ordered t m → (n l : ℕ) → l ≤ n → 0 < l → l < 2 * m → get_or t 1 0 ≤ get_or t l 0
root_from t m o zero l h some inside = absurd (omega arith)
root_from t m o (suc n) l h some inside = elim (dec_lt 1 l) [
  | no e ↦ let one : l ≡ 1 = omega arith in rw one (omega arith)
  | yes e ↦
      let p = l / 2 in
      let rest = root_from t m o n p (omega arith) (omega arith) (omega arith) in
      let node = o p (omega arith) (omega arith) in
      elim (ℕ_discrete (l % 2) 0) [
        | yes z ↦ let left : l ≡ 2 * p = omega arith in rw left (omega (arith, node, rest))
        | no z ↦ let right : l ≡ 2 * p + 1 = omega arith in rw right (omega (arith, node, rest))
      ]
]

-- no key is below that of node 1
pub root_least : (t : List ℕ) (m l : ℕ) → Ordered t m → 0 < l → l < 2 * m → get_or t 1 0 ≤ get_or t l 0
root_least t m l o some inside = root_from t m o l l (omega arith) some inside
