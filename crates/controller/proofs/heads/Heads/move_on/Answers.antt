-- `crate::heads::Heads::move_on` meets its contract: what is written beside a list's head is written to the columns of keys and of places.
use Rattle.std.proofs.Common.{List, ℕ, sym, refl, ◌+◌, ◌≡◌, get_or, set}
use Rattle.std.proofs.Math.ListN.{get_or-map}
use Rattle.std.proofs.lemmas.List.{map-set}
use Rattle.controller.specs.Work.Heads.{key_of, keys_of, places_of, Moves}
use Rattle.controller.specs.Work.OpenList.{end_mark}
use Rattle.controller.specs.declared.heads.Ahead.{Ahead}
use Rattle.controller.proofs.heads.Heads.move_on.Goals as goal

abbrev nothing : Ahead
nothing = record { key = 0; at = 0 }

moves : (l : List ℕ) (m j : ℕ) (t : List ℕ) (a : List Ahead) (key : ℕ) → key ≡ key_of j (get_or l ((get_or a j nothing).at + 1) end_mark)
    → Moves l m j t (keys_of a) (places_of a) (get_or a j nothing).key (set t (m + j) (get_or a j nothing).key)
    (keys_of (set a j (record { key = key; at = (get_or a j nothing).at + 1 }))) (places_of (set a j (record { key = key; at = (get_or a j nothing).at + 1 })))
moves l m j t a key next =
    let at : get_or (places_of a) j 0 ≡ (get_or a j nothing).at = get_or-map (λ (e : Ahead). e.at) a j nothing in
    record {
      head = sym (get_or-map (λ (e : Ahead). e.key) a j nothing);
      tree = refl;
      nexts = rw (map-set (λ (e : Ahead). e.key) a j, at, next);
      places = rw (map-set (λ (e : Ahead). e.at) a j, at);
    }

pub returns : goal.returns
returns c = moves (_) _ _ _ _ _ c.key_at.ensures
