-- Laws of the open lists.
use Rattle.std.specs.Prelude.{Bool, true, false, ◌⊎◌, ◌≢◌, ◌≡◌, refl, ltb, eqb, length, get_or, set, take}
use Rattle.std.proofs.Math.Bool.{cond}
use mathlib.Core.List.Memᴰ
use Rattle.std.proofs.Common.{inl, inr, ◌∙◌, subst, add-one, arith, eqb-true, ne_eqb, length-set, length-take-le, get_or-set_same, get_or-set_other}
use Rattle.std.proofs.Common.{ℕ, ◌+◌, ◌≤◌, ◌<◌, List, []}
use Rattle.std.specs.Prelude.{Some}
use Rattle.std.proofs.Math.Path.{sym, ap}
use Rattle.std.proofs.Math.Decide.{ℕ_discrete}
use Rattle.std.proofs.Math.ListN.{get_or-map}
use Rattle.std.proofs.Math.Seq.{map-set_same}
use Rattle.std.proofs.lemmas.List.{map-set}
use Rattle.wire.specs.Frame.{kind_of, max_count}
use Rattle.wire.specs.Laws.Words.{words_length}
use Rattle.wire.specs.Limits.{max_numbers}
use Rattle.wire.specs.Notes.{no_frame}
use Rattle.wire.specs.Tray.{entries}
use Rattle.wire.specs.Words.{words_at}
use Rattle.controller.specs.Lists.{In, mem, Rising}
use Rattle.controller.specs.Received.{frame_of, read_in, list_in, lists}
use Rattle.controller.specs.Rotation.{tally}
use Rattle.controller.specs.State.{view}
use Rattle.controller.specs.Work.Received.{noted, received_by, Ready, sent_count}
use Rattle.controller.specs.Work.OpenList.{total, end_mark, max_lists, list_from, open_list, Lies, Opens, weighed, starts_of, counts_of, sent_of, no_list}
use Rattle.controller.specs.Work.Opened.{SpanOf, list_under, noted_list, having, nth_open, weighed_in, sent_in, received_list}
use Rattle.controller.specs.Work.Opened.{OpensOwn, Recalls, Placeable, Adds}
use Rattle.controller.specs.Laws.State.{SoundList, rules_give}
use Rattle.controller.specs.Laws.Work.Ready.{ready_list, ready_size}
use Rattle.controller.specs.Laws.Work.Tally.{nth_list, list_at_sound, read_sound, below_in, echoes_sized}
use Rattle.controller.specs.Laws.Work.Total.{total_same, total_grows, count_total}
use Rattle.controller.specs.declared.open_list.OpenList.{OpenList}
use Rattle.controller.specs.declared.open_list.OpenLists.{OpenLists}
use Rattle.controller.specs.declared.state.State.{State}

-- what weighs nothing counts for nothing
nothing : (t : Bool) (k : ℕ) → k ≡ 0 → cond t k 0 ≡ 0
nothing true k e = e
nothing false k e = refl

-- ---- the numbers of a list

pub list_from_length : (own b : List ℕ) (j start count : ℕ) → Lies own b j start count → length (list_from own b j start count) ≡ count
list_from_length own b j start count lies = pick (eqb j 0) refl
  where
    pick : (t : Bool) → eqb j 0 ≡ t → length (cond t (take count own) (words_at b start count)) ≡ count
    pick true e = length-take-le count own (lies.mine (eqb-true j 0 e))
    pick false e = words_length b start count

-- the list at a place of the code's record, as it is read there: its columns say the same, behind the end too
abbrev pub list_at : List OpenList → ℕ → OpenList
list_at l j = get_or l j no_list

module _ (l : List OpenList) (j : ℕ) where
  pub start_at : get_or (starts_of l) j 0 ≡ (list_at l j).start
  start_at = get_or-map (λ (a : OpenList). a.start) l j no_list

  pub count_at : get_or (counts_of l) j 0 ≡ (list_at l j).count
  count_at = get_or-map (λ (a : OpenList). a.count) l j no_list

  pub sent_at : get_or (sent_of l) j 0 ≡ (list_at l j).sent
  sent_at = get_or-map (λ (a : OpenList). a.sent) l j no_list

-- the list that a state sends
pub own_list : (s : State) → list_in (Some (frame_of (view s))) ≡ take (sent_count s) s.echoes.at
unfolding frame_of
own_list s = pick (ltb 0 (max_count (kind_of s.round)))
  where
    pick : (a : Bool) → cond a (take s.echoes.len s.echoes.at) [] ≡ take (cond a s.echoes.len 0) s.echoes.at
    pick true = refl
    pick false = refl

-- ---- the lists under the notes

-- they are those that the state receives, if it is ready
module _ {s : State} {b t : List ℕ} (ready : Ready s b t) where
  -- the places of the echoes, and the list that is sent
  pub own_places : length s.echoes.at ≡ max_numbers
  own_places = (echoes_sized s ready.sound).1

  pub own_sound : (sent_count s ≤ max_numbers) × SoundList (take (sent_count s) s.echoes.at)
  own_sound = pick (ltb 0 (max_count (kind_of s.round)))
    where
      pick : (a : Bool) → (cond a s.echoes.len 0 ≤ max_numbers) × SoundList (take (cond a s.echoes.len 0) s.echoes.at)
      pick true = ((echoes_sized s ready.sound).0, (rules_give s ready.sound).echoes)
      pick false = (omega arith, record { short = omega arith; rises = tt; positive = λ y i. absurd (Memᴰ.not-nil i) })

  under_is : (j : ℕ) → j < s.heard.len → noted_list s b t j ≡ nth_list (lists (received_by s b)) j
  under_is j l = ap (λ (m : List ℕ). list_under s.round m b (get_or t j 0)) (sym (own_list s)) ∙ ready_list ready j l

  pub under_sound : (j : ℕ) → j < s.heard.len → SoundList (noted_list s b t j)
  under_sound j l = subst SoundList (sym (under_is j l)) (list_at_sound (view s) (entries b) (rules_give s ready.sound) ready.active j)

  pub under_tally : (x : ℕ) → having (noted_list s b t) s.heard.len x ≡ tally (lists (received_by s b)) x
  unfolding tally
  under_tally x =
      let l = lists (received_by s b) in
      let has : ℕ → ℕ = λ j. cond (mem x (nth_list l j)) 1 0 in
      total_same (λ (j : ℕ). cond (mem x (noted_list s b t j)) 1 0) has s.heard.len (λ j k. ap (λ (m : List ℕ). cond (mem x m) 1 0) (under_is j k))
      ∙ ap (total has) (ready_size ready)
      ∙ sym (count_total (λ (y : ℕ). mem x (l.list y)) l.heard)

-- ---- one more that sent a list

-- what it makes of the m open lists that one more sent l: p are open then, and l is the one at place r
pub record Counted (own b l s n w : List ℕ) (m : ℕ) (t k v : List ℕ) (p r : ℕ) : Type 0 where
  pub opens : Opens own b t k v p
  pub one : r < p
  pub list : open_list own b t k r ≡ l
  pub kept : (j : ℕ) → j < m → open_list own b t k j ≡ open_list own b s n j
  pub more : m ≤ p
  pub few : p ≤ m + 1
  pub sent : total (λ (j : ℕ). get_or v j 0) p ≡ total (λ (j : ℕ). get_or w j 0) m + 1
  pub counts : (x : ℕ) → weighed own b t k v p x ≡ weighed own b s n w m x + cond (mem x l) 1 0

module _ {own b s n w : List ℕ} {m : ℕ} (g : Opens own b s n w m) (light : total (λ (j : ℕ). get_or w j 0) m < max_numbers) where
  -- the one at place r is counted once more
  module _ (r : ℕ) (one : r < m) where
    abbrev more : List ℕ
    more = set w r (get_or w r 0 + 1)

    more_there : get_or more r 0 ≡ get_or w r 0 + 1
    more_there = get_or-set_same w r (get_or w r 0 + 1) 0 (omega (arith, g.weights, g.few))

    more_else : (j : ℕ) → j ≢ r → get_or more j 0 ≡ get_or w j 0
    more_else j d = get_or-set_other w r j (get_or w r 0 + 1) 0 d

    more_weight : total (λ (j : ℕ). get_or more j 0) m ≡ total (λ (j : ℕ). get_or w j 0) m + 1
    more_weight = total_grows (λ (j : ℕ). get_or more j 0) (λ (j : ℕ). get_or w j 0) m r 1 one more_there (λ j h d. more_else j d)

    more_counts : (x : ℕ) → weighed own b s n more m x ≡ weighed own b s n w m x + cond (mem x (open_list own b s n r)) 1 0
    more_counts x =
        let has : ℕ → Bool = λ j. mem x (open_list own b s n j) in
        total_grows (λ (j : ℕ). cond (has j) (get_or more j 0) 0) (λ (j : ℕ). cond (has j) (get_or w j 0) 0) m r (cond (has r) 1 0) one
        (rw more_there (pick (has r)))
        (λ j h d. ap (λ (y : ℕ). cond (has j) y 0) (more_else j d))
      where
        pick : (t : Bool) → cond t (get_or w r 0 + 1) 0 ≡ cond t (get_or w r 0) 0 + cond t 1 0
        pick true = refl
        pick false = refl

    again : Counted own b (open_list own b s n r) s n w m s n more m r
    again =
        record {
          opens =
              record {
                some = g.some;
                few = g.few;
                starts = g.starts;
                counts = g.counts;
                weights = simp length-set g.weights;
                lies = g.lies;
                rises = g.rises;
                fit = g.fit;
                light = omega (arith, more_weight);
              };
          one = one;
          list = refl;
          kept = λ j h. refl;
          more = omega arith;
          few = omega arith;
          sent = more_weight;
          counts = more_counts;
        }

  -- one more is opened behind the others, which one sent
  module _ {l : List ℕ} {start count : ℕ}
      (room : m < max_lists)
      (span : SpanOf b l start count)
      (sound : SoundList l)
    where
      abbrev opened_list : ℕ → List ℕ
      opened_list j = open_list own b (set s m start) (set n m count) j

      kept : (l : List ℕ) (j a : ℕ) → j < m → get_or (set l m a) j 0 ≡ get_or l j 0
      kept l j a h = get_or-set_other l m j a 0 (λ e. omega arith)

      list_kept : (j : ℕ) → j < m → opened_list j ≡ open_list own b s n j
      list_kept j h i = list_from own b j (kept s j start h i) (kept n j count h i)

      list_last : opened_list m ≡ l
      list_last =
          (λ i. list_from own b m (get_or-set_same s m start 0 (omega (arith, g.starts)) i) (get_or-set_same n m count 0 (omega (arith, g.counts)) i))
          ∙ rw (ne_eqb m 0 (λ e. omega (arith, g.some))) span.is

      weight_last : get_or (set w m 1) m 0 ≡ 1
      weight_last = get_or-set_same w m 1 0 (omega (arith, g.weights))

      weight_more : total (λ (j : ℕ). get_or (set w m 1) j 0) (m + 1) ≡ total (λ (j : ℕ). get_or w j 0) m + 1
      weight_more =
          let before = total_same (λ (j : ℕ). get_or (set w m 1) j 0) (λ (j : ℕ). get_or w j 0) m (λ j h. kept w j 1 h) in
          rw (add-one m) (omega (arith, before, weight_last))

      counts_more : (x : ℕ) → weighed own b (set s m start) (set n m count) (set w m 1) (m + 1) x ≡ weighed own b s n w m x + cond (mem x l) 1 0
      counts_more x =
          let now : ℕ → ℕ = λ j. cond (mem x (opened_list j)) (get_or (set w m 1) j 0) 0 in
          let before =
          total_same now (λ (j : ℕ). cond (mem x (open_list own b s n j)) (get_or w j 0) 0) m
          (λ j h. rw (kept w j 1 h) (ap (λ (k : List ℕ). cond (mem x k) (get_or w j 0) 0) (list_kept j h))) in
          let last : now m ≡ cond (mem x l) 1 0 = rw (weight_last, list_last) in
          rw add-one (omega (arith, before, last))

      -- each list is one of those before, or the last
      each : (P : ℕ → Type 0) → ((j : ℕ) → j < m → P j) → P m → (j : ℕ) → j < m + 1 → P j
      each P before last j h = elim (ℕ_discrete j m) [ yes e ↦ subst P (sym e) last | no d ↦ before j (omega arith) ]

      lies_last : Lies own b m start count
      lies_last =
          record {
            short = omega (arith, sound.short, ap length span.is, words_length b start count);
            low = span.low;
            mine = λ e. absurd (omega (arith, g.some));
            inside = λ h. span.inside;
          }

      fit_last : (y : ℕ) → In y l → (0 < y) × (y < end_mark)
      fit_last y i = (sound.positive y i, below_in l span.words y i)

      appended : Counted own b l s n w m (set s m start) (set n m count) (set w m 1) (m + 1) m
      appended =
          record {
            opens =
                record {
                  some = omega arith;
                  few = omega arith;
                  starts = simp length-set g.starts;
                  counts = simp length-set g.counts;
                  weights = simp length-set g.weights;
                  lies =
                      each (λ j. Lies own b j (get_or (set s m start) j 0) (get_or (set n m count) j 0))
                      (λ j h. rw (kept s j start h, kept n j count h) (g.lies j h))
                      (rw (get_or-set_same s m start 0 (omega (arith, g.starts)), get_or-set_same n m count 0 (omega (arith, g.counts))) lies_last);
                  rises =
                      each (λ j. Rising (opened_list j))
                      (λ j h. subst Rising (sym (list_kept j h)) (g.rises j h))
                      (subst Rising (sym list_last) sound.rises);
                  fit =
                      each (λ j. (y : ℕ) → In y (opened_list j) → (0 < y) × (y < end_mark))
                      (λ j h y i. g.fit j h y (subst (In y) (list_kept j h) i))
                      (λ y i. fit_last y (subst (In y) list_last i));
                  light = omega (arith, weight_more);
                };
            one = omega arith;
            list = list_last;
            kept = list_kept;
            more = omega arith;
            few = omega arith;
            sent = weight_more;
            counts = counts_more;
          }

-- ---- in the code's record

abbrev pub CountedIn : OpenLists → List ℕ → List OpenList → ℕ → ℕ → Type 0
CountedIn o l lists m r =
    Counted o.own.now o.tray.now l (starts_of o.lists) (counts_of o.lists) (sent_of o.lists) o.len
    (starts_of lists) (counts_of lists) (sent_of lists) m r

pub counted_adds : {o : OpenLists} {l : List ℕ} {lists : List OpenList} {m r : ℕ} → CountedIn o l lists m r
    → (h : _) → Adds l o r (record o { lists = lists; len = m; opens = h })
counted_adds g h =
    record {
      own = refl;
      tray = refl;
      one = g.one;
      list = g.list;
      kept = g.kept;
      more = g.more;
      few = g.few;
      sent = g.sent;
      counts = g.counts;
    }

module _ (o : OpenLists) (light : sent_in o < max_numbers) where
  -- the list at place r with one more that sent it
  module _ (r : ℕ) (one : r < o.len) where
    abbrev counted_once : OpenList
    counted_once = record (list_at o.lists r) { sent = (list_at o.lists r).sent + 1 }

    sent_more : sent_of (set o.lists r counted_once) ≡ set (sent_of o.lists) r (get_or (sent_of o.lists) r 0 + 1)
    sent_more =
        map-set (λ (a : OpenList). a.sent) o.lists r counted_once
        ∙ ap (λ (k : ℕ). set (sent_of o.lists) r (k + 1)) (sym (sent_at o.lists r))

    pub counted_again : CountedIn o (nth_open o r) (set o.lists r counted_once) o.len r
    counted_again =
        rw (
          map-set_same (λ (a : OpenList). a.start) o.lists r counted_once no_list refl,
          map-set_same (λ (a : OpenList). a.count) o.lists r counted_once no_list refl,
          sent_more,
        ) (again o.opens light r one)

  pub counted_first : {l : List ℕ} (a : OpenList) → o.len < max_lists → SpanOf o.tray.now l a.start a.count → a.sent ≡ 1 → SoundList l
      → CountedIn o l (set o.lists o.len a) (o.len + 1) o.len
  counted_first a room span fresh sound =
      rw (
        map-set (λ (x : OpenList). x.start) o.lists o.len a,
        map-set (λ (x : OpenList). x.count) o.lists o.len a,
        map-set (λ (x : OpenList). x.sent) o.lists o.len a,
        fresh,
      ) (appended o.opens light room span sound)

-- ---- the list received with a note

module _ (o : OpenLists) where
  own_open : SoundList (nth_open o 0)
  own_open =
      let lies = o.opens.lies 0 o.opens.some in
      record {
        short = omega (arith, list_from_length o.own.now o.tray.now 0 _ _ lies, lies.short);
        rises = o.opens.rises 0 o.opens.some;
        positive = λ y i. (o.opens.fit 0 o.opens.some y i).0;
      }

  -- its numbers are a list's, as those of the own one are
  pub received_sound : (round note : ℕ) → SoundList (received_list round o note)
  received_sound round note = pick (eqb note no_frame)
    where
      pick : (t : Bool) → SoundList (cond t (nth_open o 0) (list_in (read_in round (noted o.tray.now note))))
      pick true = own_open
      pick false = read_sound round (noted o.tray.now note)

-- ---- the received lists, opened one by one

-- the lists of the first j notes are open, and the open ones count each number as those do
pub record Opening (s : State) (b t : List ℕ) (o : OpenLists) (last slot j : ℕ) : Type 0 where
  pub own : o.own.now ≡ s.echoes.at
  pub tray : o.tray.now ≡ b
  pub mine : nth_open o 0 ≡ take (sent_count s) s.echoes.at
  pub few : o.len ≤ j + 1
  pub sent : sent_in o ≡ j
  pub counts : (x : ℕ) → weighed_in o x ≡ having (noted_list s b t) j x
  pub recalls : Recalls s.round o last slot

module _ {s : State} {b t : List ℕ} where
  -- the own list is all that is open at first
  pub opening_start : (o : OpenLists) (n : ℕ) → n ≡ sent_count s → OpensOwn s.echoes.at b n o → Opening s b t o no_frame 0 0
  opening_start o n count g =
      let mine : get_or (counts_of o.lists) 0 0 ≡ sent_count s = count_at o.lists 0 ∙ ap (λ (a : OpenList). a.count) g.first ∙ count in
      let none : get_or (sent_of o.lists) 0 0 ≡ 0 = sent_at o.lists 0 ∙ ap (λ (a : OpenList). a.sent) g.first in
      record {
        own = g.own;
        tray = g.tray;
        mine = rw (mine, g.own);
        few = omega (arith, g.len);
        sent = rw g.len (omega (arith, none));
        counts = λ x. rw g.len (omega (arith, nothing (mem x (nth_open o 0)) (get_or (sent_of o.lists) 0 0) none));
        recalls = record { one = omega (arith, g.len); same = refl };
      }

  -- then the list of note j is counted
  module _ {o : OpenLists} {last slot j : ℕ} (g : Opening s b t o last slot j) where
    pub opening_placeable : j < max_numbers → Placeable s.round o last slot
    opening_placeable inside = record { free = omega (arith, g.few); light = omega (arith, g.sent); recalls = g.recalls }

    module _ {p : OpenLists} {r last' slot' : ℕ} (adds : Adds (received_list s.round o (get_or t j 0)) o r p)
        (recalled : ((last' ≡ get_or t j 0) × (slot' ≡ r)) ⊎ ((last' ≡ last) × (slot' ≡ slot)))
      where
        list : received_list s.round o (get_or t j 0) ≡ noted_list s b t j
        list = rw (g.mine, g.tray)

        first : nth_open p 0 ≡ nth_open o 0
        first = adds.kept 0 o.opens.some

        received : (k : ℕ) → received_list s.round p k ≡ received_list s.round o k
        received k i = list_under s.round (first i) (adds.tray i) k

        recalls : Recalls s.round p last' slot'
        recalls = elim recalled [
          | inl e ↦ rw (e.0, e.1) (record { one = adds.one; same = adds.list ∙ sym (received (get_or t j 0)) })
          | inr e ↦ rw (e.0, e.1) (record {
            one = omega (arith, g.recalls.one, adds.more);
            same = adds.kept slot g.recalls.one ∙ g.recalls.same ∙ sym (received last);
          })
        ]

        pub opening_more : Opening s b t p last' slot' (j + 1)
        opening_more =
            record {
              own = adds.own ∙ g.own;
              tray = adds.tray ∙ g.tray;
              mine = first ∙ g.mine;
              few = omega (arith, adds.few, g.few);
              sent = omega (arith, adds.sent, g.sent);
              counts =
                  λ x.
                  let has : List ℕ → ℕ = λ l. cond (mem x l) 1 0 in
                  let next : having (noted_list s b t) (j + 1) x ≡ having (noted_list s b t) j x + has (noted_list s b t j) = rw add-one in
                  omega (arith, next, adds.counts x, g.counts x, ap has list);
              recalls = recalls;
            }
