-- A walk between two visits: no node is on the path.
use Rattle.std.proofs.Common.{◌≡◌, ◌≢◌, ℕ, ◌<◌, Bool, List, [], length, set, refl, sym, ◌∙◌, arith}
use Rattle.al_base_graph.specs.Graphs.{IsOnCycle, Marks}
use Rattle.al_base_graph.specs.Walks.{place_of, IsWalk, KeepsSeen}
use Rattle.al_base_graph.specs.declared.walk.Place.{Place}
use Rattle.al_base_graph.specs.declared.walk.Place.TheVariants.{Unseen, OnPath, Done}
use Rattle.std.proofs.lemmas.List.{get_or-set_same}
use Rattle.al_base_graph.proofs.ListLemmas.{Contains-none}
use Rattle.al_base_graph.proofs.FlagLemmas.{Marks-from_below, on_cycle_within}

pub empty_path : {g : List (List ℕ)} {places : List Place} {left path begins : List ℕ} {flags : List Bool} → IsWalk g places left path [] begins flags → (i : ℕ) → i < length path → ⊥
empty_path w i l = Contains-none 0 (w.begins_visiting 0 (w.first_begins (omega arith)))

done_or : (p : Place) → p ≢ Unseen → ((i : ℕ) → p ≡ OnPath i → ⊥) → p ≡ Done
done_or Unseen n f = absurd (n refl)
done_or (OnPath i) n f = absurd (f i refl)
done_or Done n f = refl

pub walk_marks : {g : List (List ℕ)} {places : List Place} {left path begins : List ℕ} {flags : List Bool} → IsWalk g places left path [] begins flags → ((a : ℕ) → a < length g → place_of places a ≢ Unseen) → Marks flags (length g) (IsOnCycle g)
walk_marks {g} {places} {left} {path} {begins} {flags} w seen =
    Marks-from_below flags (length g) (IsOnCycle g) (on_cycle_within g) w.flags_count
    (λ a l. w.done_flags a (done_or (place_of places a) (seen a l) (λ i p. empty_path w i (w.of_path a i p).0)))

-- a node that was entered is seen from then on
pub entered_model : (places later : List Place) (a i : ℕ) → a < length places → KeepsSeen (set places a (OnPath i)) later → place_of later a ≢ Unseen
entered_model places later a i l keeps p =
    let q : OnPath i ≡ Unseen = sym (get_or-set_same places a (OnPath i) Unseen l) ∙ keeps a p in
    absurd cc
