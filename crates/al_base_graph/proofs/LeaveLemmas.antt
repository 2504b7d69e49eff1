-- A walk where the visit of a node is over.
use Rattle.std.proofs.Common.{◌≡◌, ◌≢◌, ◌↔◌, ◌⊎◌, ℕ, ◌+◌, ◌-◌, ◌<◌, ◌≤◌, Bool, false, List, [], ◌∷◌, ◌++◌, length, get_or, set, take, drop, sym, ap, ◌∙◌, subst, inl, inr, arith, IsTrue}
use Rattle.std.specs.List.{Contains, fold}
use Rattle.std.proofs.lemmas.Bool.{cases_eq, cases_lt}
use Rattle.std.proofs.lemmas.List.{get_or_past, get_or_default, get_or-take, get_or-drop, length-take-le, length-drop}
use Rattle.std.proofs.lemmas.List.Elements.{Contains-append_left, Contains-push, Contains-push_cases}
use Rattle.al_base_graph.specs.Graphs.{successors_of, Step, Reaches, IsOnCycle, IsAscending}
use Rattle.al_base_graph.specs.Graphs.Reaches.{here}
use Rattle.al_base_graph.specs.Walks.{place_of, IsJoined, IsSettled, IsWalk, KeepsSeen}
use Rattle.al_base_graph.specs.declared.walk.Place.{Place}
use Rattle.al_base_graph.specs.declared.walk.Place.TheVariants.{Unseen, OnPath, Done}
use Rattle.al_base_graph.proofs.ListLemmas.{Contains-same, contains_or_not, length-written, written, not_written, some_from_contains}
use Rattle.al_base_graph.proofs.ReachLemmas.{least, first_step, Reaches-trans}
use Rattle.al_base_graph.proofs.AscendingLemmas.{IsAscending-front, below_last, upto_last}

-- where nodes are written as done, others stay as they are
pub written_keeps : (places : List Place) (nodes : List ℕ) → KeepsSeen places (fold (λ ys node. set ys node Done) places nodes)
written_keeps places nodes a p =
    elim (cases_lt a (length places)) [
      | inl l ↦ elim (contains_or_not nodes a) [
        | inl h ↦ let q : Done ≡ Unseen = sym (written Done Unseen places nodes a l h) ∙ p in absurd cc
        | inr absent ↦ sym (not_written Done Unseen places nodes a absent) ∙ p
      ]
      | inr past ↦ get_or_past places a Unseen past
    ]

module _ (g : List (List ℕ)) (places : List Place) (left path front begins : List ℕ) (flags : List Bool) (at : ℕ) (w : IsWalk g places left path (front ++ at ∷ []) begins flags) (none : get_or left (get_or path at 0) 0 ≡ 0) where
  pub at_in : at < length path
  at_in = w.visiting_within at (Contains-push front at)

  pub begins_upto : (b : ℕ) → Contains begins b → b ≤ at
  begins_upto b h = upto_last front at b w.visiting_ascends (w.begins_visiting b h)

  pub some_begins : 0 < length begins
  some_begins = some_from_contains begins 0 (w.first_begins (let l = at_in in omega arith))

  pub node_in : (i : ℕ) → i < length path → get_or path i 0 < length places
  node_in i m =
      elim (cases_lt (get_or path i 0) (length places)) [
        | inl below ↦ below
        | inr past ↦ let q : OnPath i ≡ Unseen = sym (w.on_path i m) ∙ get_or_past places (get_or path i 0) Unseen past in absurd cc
      ]

  -- the node does not begin its stretch
  pub leave_walks : (Contains begins at → ⊥) → IsWalk g places left path front begins flags
  leave_walks absent = record {
    places_count = w.places_count;
    left_count = w.left_count;
    flags_count = w.flags_count;
    on_path = w.on_path;
    of_path = w.of_path;
    left_fits = w.left_fits;
    unseen_left = w.unseen_left;
    leads_on = w.leads_on;
    leads_back = w.leads_back;
    looked_at = w.looked_at;
    visiting_or_all = λ i m. elim (w.visiting_or_all i m) [
      | inl there ↦ elim (Contains-push_cases front at i there) [
        | inl old ↦ inl old
        | inr e ↦ inr (ap (λ k. get_or left (get_or path k 0) 0) (sym e) ∙ none)
      ]
      | inr all ↦ inr all
    ];
    visiting_within = λ i h. w.visiting_within i (Contains-append_left front (at ∷ []) i h);
    visiting_ascends = IsAscending-front front at w.visiting_ascends;
    begins_ascend = w.begins_ascend;
    begins_visiting = λ b h. elim (Contains-push_cases front at b (w.begins_visiting b h)) [
      | inl old ↦ old
      | inr e ↦ let P : ℕ → Type 0 = λ n. Contains begins n in absurd (absent (subst P (sym e) h))
    ];
    first_begins = w.first_begins;
    done_closed = w.done_closed;
    done_flags = w.done_flags;
  }

  -- all of the stretch is looked at
  all_left : (i : ℕ) → at ≤ i → i < length path → get_or left (get_or path i 0) 0 ≡ 0
  all_left i m k =
      elim (w.visiting_or_all i k) [
        | inl there ↦ elim (Contains-push_cases front at i there) [
          | inl old ↦ let b = below_last front at i w.visiting_ascends old in absurd (omega arith)
          | inr e ↦ ap (λ n. get_or left (get_or path n 0) 0) (sym e) ∙ none
        ]
        | inr all ↦ all
      ]

  -- where a step from the stretch leads
  step_settled : (i b : ℕ) → at ≤ i → i < length path → Step g (get_or path i 0) b → IsSettled places begins i b
  step_settled i b m k s =
      let a : ℕ = get_or path i 0 in
      let zero_left : get_or left a 0 ≡ 0 = all_left i m k in
      let P : ℕ → Type 0 = λ x. IsSettled places begins i x in
      subst P (get_or_default (successors_of g a) s.0 0 b s.1 ∙ s.2) (w.looked_at i s.0 k (omega arith) s.1)

  -- the node begins its stretch
  module _ (now : List ℕ) (is : begins ≡ now ++ at ∷ []) where
    at_begins : Contains begins at
    at_begins = Contains-same _ _ at (sym is) (Contains-push now at)

    in_stretch : (i j b : ℕ) → at ≤ i → IsJoined begins j i → at ≤ j
    in_stretch i j b m joined = elim (cases_lt j at) [ inl before ↦ let l = joined at at_begins before in absurd (omega arith) | inr from ↦ from ]

    joined_stretch : (i j : ℕ) → at ≤ j → IsJoined begins j i
    joined_stretch i j m b h k = let l = begins_upto b h in absurd (omega arith)

    mutual_reach : (i j : ℕ) → at ≤ i → i < length path → at ≤ j → j < length path → Reaches g (get_or path i 0) (get_or path j 0)
    mutual_reach i j m k n l =
        elim (cases_lt j i) [
          | inl back ↦ w.leads_back i j (omega arith) k (joined_stretch i j n)
          | inr on ↦ w.leads_on i j on l
        ]

    other_node : (i j : ℕ) → i < length path → j < length path → i ≢ j → get_or path i 0 ≢ get_or path j 0
    other_node i j m n d e =
        let q : OnPath i ≡ OnPath j = sym (w.on_path i m) ∙ ap (place_of places) e ∙ w.on_path j n in
        let same : i ≡ j = cc in
        d same

    two_cycle : (i j : ℕ) → at ≤ i → i < length path → at ≤ j → j < length path → i ≢ j → IsOnCycle g (get_or path i 0)
    two_cycle i j m k n l d =
        let first = first_step g (get_or path i 0) (get_or path j 0) (other_node i j k l d) (mutual_reach i j m k n l) in
        (first.0, first.1, Reaches-trans first.0 (get_or path j 0) (get_or path i 0) first.2 (mutual_reach j i n l m k))

    many_cycle : at + 1 < length path → (i : ℕ) → at ≤ i → i < length path → IsOnCycle g (get_or path i 0)
    many_cycle many i m k =
        elim (cases_eq i at) [
          | inl e ↦ two_cycle i (at + 1) m k (omega arith) many (omega arith)
          | inr n ↦ two_cycle i at m k (omega arith) (omega arith) n
        ]

    not_done : (i : ℕ) → i < length path → place_of places (get_or path i 0) ≡ Done → ⊥
    not_done i m p = let q : OnPath i ≡ Done = sym (w.on_path i m) ∙ p in absurd cc

    -- from what is done no step leads back to the path
    done_stays : (a b : ℕ) → place_of places a ≡ Done → Reaches g a b → place_of places b ≡ Done
    done_stays a b p r = least g a b (λ x. place_of places x ≡ Done) (λ c d q s. w.done_closed c d q s) p r

    cycle_means : (i : ℕ) → at ≤ i → i < length path → IsOnCycle g (get_or path i 0) → (at + 1 < length path) ⊎ Step g (get_or path at 0) (get_or path at 0)
    cycle_means i m k cycle =
        elim (cases_lt (at + 1) (length path)) [
          | inl many ↦ inl many
          | inr one ↦ inr (elim (step_settled i cycle.0 m k cycle.1) [
            | inl done ↦ absurd (not_done i k (done_stays cycle.0 (get_or path i 0) done cycle.2))
            | inr on ↦
                let there = w.of_path cycle.0 on.0 on.1 in
                let l : on.0 < length path = there.0 in
                let from = in_stretch i on.0 cycle.0 m on.2 in
                let e : on.0 ≡ at = omega arith in
                let f : i ≡ at = omega arith in
                let P : ℕ → Type 0 = λ n. Step g (get_or path n 0) cycle.0 in
                let Q : ℕ → Type 0 = λ x. Step g (get_or path at 0) x in
                subst Q (sym there.1 ∙ ap (λ n. get_or path n 0) e) (subst P f cycle.1)
          ])
        ]

    cycle_from : (i : ℕ) → at ≤ i → i < length path → (at + 1 < length path) ⊎ Step g (get_or path at 0) (get_or path at 0) → IsOnCycle g (get_or path i 0)
    cycle_from i m k means =
        elim (cases_lt (at + 1) (length path)) [
          | inl many ↦ many_cycle many i m k
          | inr one ↦ elim means [
            | inl many ↦ absurd (omega arith)
            | inr itself ↦
                let f : at ≡ i = omega arith in
                let P : ℕ → Type 0 = λ n. IsOnCycle g (get_or path n 0) in
                subst P f (get_or path at 0, itself, here)
          ]
        ]

    -- afterwards
    module _ (on_cycle : Bool) (flag_is : IsTrue on_cycle ↔ ((at + 1 < length path) ⊎ Step g (get_or path at 0) (get_or path at 0))) where
      abbrev after : List Place
      after = fold (λ ys node. set ys node Done) places (drop at path)

      abbrev flags_after : List Bool
      flags_after = fold (λ ys node. set ys node on_cycle) flags (drop at path)

      index_of : (b : ℕ) → Contains (drop at path) b → (i : ℕ) × (at ≤ i) × (i < length path) × (get_or path i 0 ≡ b)
      index_of b h =
          let l : h.0 < length (drop at path) = h.1 in
          let count = length-drop at path in
          let m : at + h.0 < length path = omega arith in
          (at + h.0, omega arith, m, get_or_default path (at + h.0) 0 b m ∙ sym (get_or-drop at path h.0 b) ∙ h.2)

      of_index : (i b : ℕ) → at ≤ i → i < length path → get_or path i 0 ≡ b → Contains (drop at path) b
      of_index i b m k e =
          let count = length-drop at path in
          let n : at + (i - at) ≡ i = omega arith in
          (i - at, omega arith, get_or-drop at path (i - at) b ∙ ap (λ j. get_or path j b) n ∙ get_or_default path i b 0 k ∙ e)

      place_in : (b : ℕ) → Contains (drop at path) b → place_of after b ≡ Done
      place_in b h = let i = index_of b h in let m : b < length places = let n = node_in i.0 i.2 in let e = i.3 in omega arith in written Done Unseen places (drop at path) b m h

      place_out : (b : ℕ) → (Contains (drop at path) b → ⊥) → place_of after b ≡ place_of places b
      place_out b absent = not_written Done Unseen places (drop at path) b absent

      before_at : (i : ℕ) → i < at → Contains (drop at path) (get_or path i 0) → ⊥
      before_at i m h =
          let j = index_of (get_or path i 0) h in
          let from : at ≤ j.0 = j.1 in
          let l = at_in in
          other_node i j.0 (omega arith) j.2 (omega arith) (sym j.3)

      done_after : (b : ℕ) → place_of places b ≡ Done → place_of after b ≡ Done
      done_after b p = elim (contains_or_not (drop at path) b) [ inl h ↦ place_in b h | inr absent ↦ place_out b absent ∙ p ]

      on_after : (b j : ℕ) → place_of places b ≡ OnPath j → j < at → place_of after b ≡ OnPath j
      on_after b j p m =
          let there = w.of_path b j p in
          let P : ℕ → Type 0 = λ x. Contains (drop at path) x → ⊥ in
          place_out b (subst P there.1 (before_at j m)) ∙ p

      on_done : (b j : ℕ) → place_of places b ≡ OnPath j → at ≤ j → place_of after b ≡ Done
      on_done b j p m = let there = w.of_path b j p in place_in b (of_index j b m there.0 there.1)

      path_at : (i : ℕ) → i < at → get_or (take at path) i 0 ≡ get_or path i 0
      path_at i m = get_or-take at path i 0 m

      path_count : length (take at path) ≡ at
      path_count = length-take-le at path (let l = at_in in omega arith)

      on_path_after : (i : ℕ) → i < length (take at path) → place_of after (get_or (take at path) i 0) ≡ OnPath i
      on_path_after i m =
          let count = path_count in
          let l = at_in in
          let n : i < at = omega arith in
          ap (place_of after) (path_at i n) ∙ on_after (get_or path i 0) i (w.on_path i (omega arith)) n

      of_path_after : (b i : ℕ) → place_of after b ≡ OnPath i → (i < length (take at path)) × (get_or (take at path) i 0 ≡ b)
      of_path_after b i p = elim (contains_or_not (drop at path) b) [
        | inl h ↦ let q : Done ≡ OnPath i = sym (place_in b h) ∙ p in absurd cc
        | inr absent ↦
            let there = w.of_path b i (sym (place_out b absent) ∙ p) in
            let count = path_count in
            elim (cases_lt i at) [
              | inl before ↦ (omega arith, path_at i before ∙ there.1)
              | inr from ↦ absurd (absent (of_index i b from there.0 there.1))
            ]
      ]

      leads_on_after : (i j : ℕ) → i ≤ j → j < length (take at path) → Reaches g (get_or (take at path) i 0) (get_or (take at path) j 0)
      leads_on_after i j m k =
          let count = path_count in
          let l = at_in in
          let P : ℕ → Type 0 = λ x. Reaches g x (get_or (take at path) j 0) in
          let Q : ℕ → Type 0 = λ y. Reaches g (get_or path i 0) y in
          subst P (sym (path_at i (omega arith))) (subst Q (sym (path_at j (omega arith))) (w.leads_on i j m (omega arith)))

      joined_before : (i j : ℕ) → i < at → IsJoined now j i → IsJoined begins j i
      joined_before i j m joined b h k = elim (Contains-push_cases now at b (Contains-same _ _ b is h)) [ inl old ↦ joined b old k | inr e ↦ omega arith ]

      leads_back_after : (i j : ℕ) → j ≤ i → i < length (take at path) → IsJoined now j i → Reaches g (get_or (take at path) i 0) (get_or (take at path) j 0)
      leads_back_after i j m k joined =
          let count = path_count in
          let l = at_in in
          let P : ℕ → Type 0 = λ x. Reaches g x (get_or (take at path) j 0) in
          let Q : ℕ → Type 0 = λ y. Reaches g (get_or path i 0) y in
          subst P (sym (path_at i (omega arith))) (subst Q (sym (path_at j (omega arith))) (w.leads_back i j m (omega arith) (joined_before i j (omega arith) joined)))

      settled_after : (i b : ℕ) → IsSettled places begins i b → IsSettled after now i b
      settled_after i b s = elim s [
        | inl done ↦ inl (done_after b done)
        | inr on ↦ elim (cases_lt on.0 at) [
          | inl before ↦ inr (on.0, on_after b on.0 on.1 before, λ c h k. on.2 c (Contains-same _ _ c (sym is) (Contains-append_left now (at ∷ []) c h)) k)
          | inr from ↦ inl (on_done b on.0 on.1 from)
        ]
      ]

      looked_after : (i k : ℕ) → i < length (take at path) → get_or left (get_or (take at path) i 0) 0 ≤ k → k < length (successors_of g (get_or (take at path) i 0)) → IsSettled after now i (get_or (successors_of g (get_or (take at path) i 0)) k 0)
      looked_after i k m from within =
          let count = path_count in
          let l = at_in in
          let n : i < at = omega arith in
          let P : ℕ → Type 0 = λ x. get_or left x 0 ≤ k in
          let Q : ℕ → Type 0 = λ x. k < length (successors_of g x) in
          let R : ℕ → Type 0 = λ x. IsSettled after now i (get_or (successors_of g x) k 0) in
          subst R (sym (path_at i n)) (settled_after i _ (w.looked_at i k (omega arith) (subst P (path_at i n) from) (subst Q (path_at i n) within)))

      visiting_after : (i : ℕ) → i < length (take at path) → Contains front i ⊎ (get_or left (get_or (take at path) i 0) 0 ≡ 0)
      visiting_after i m =
          let count = path_count in
          let l = at_in in
          let n : i < at = omega arith in
          elim (w.visiting_or_all i (omega arith)) [
            | inl there ↦ elim (Contains-push_cases front at i there) [ inl old ↦ inl old | inr e ↦ absurd (omega arith) ]
            | inr all ↦ inr (ap (λ x. get_or left x 0) (path_at i n) ∙ all)
          ]

      closed_after : (b c : ℕ) → place_of after b ≡ Done → Step g b c → place_of after c ≡ Done
      closed_after b c p s = elim (contains_or_not (drop at path) b) [
        | inl h ↦
            let i = index_of b h in
            let P : ℕ → Type 0 = λ x. Step g x c in
            elim (step_settled i.0 c i.1 i.2 (subst P (sym i.3) s)) [
              | inl done ↦ done_after c done
              | inr on ↦ on_done c on.0 on.1 (in_stretch i.0 on.0 c i.1 on.2)
            ]
        | inr absent ↦ done_after c (w.done_closed b c (sym (place_out b absent) ∙ p) s)
      ]

      done_flags_after : (b : ℕ) → place_of after b ≡ Done → IsTrue (get_or flags_after b false) ↔ IsOnCycle g b
      done_flags_after b p = elim (contains_or_not (drop at path) b) [
        | inl h ↦
            let i = index_of b h in
            let m : b < length flags = let n = node_in i.0 i.2 in let e : get_or path i.0 0 ≡ b = i.3 in let c1 = w.places_count in let c2 = w.flags_count in omega arith in
            let flag : get_or flags_after b false ≡ on_cycle = written on_cycle false flags (drop at path) b m h in
            let P : Bool → Type 0 = λ t. IsTrue t ↔ IsOnCycle g b in
            let Q : ℕ → Type 0 = λ x. IsTrue on_cycle ↔ IsOnCycle g x in
            let same : IsTrue on_cycle ↔ IsOnCycle g (get_or path i.0 0) = (λ t. cycle_from i.0 i.1 i.2 (flag_is.0 t), λ c. flag_is.1 (cycle_means i.0 i.1 i.2 c)) in
            subst P (sym flag) (subst Q i.3 same)
        | inr absent ↦
            let flag : get_or flags_after b false ≡ get_or flags b false = not_written on_cycle false flags (drop at path) b absent in
            let P : Bool → Type 0 = λ t. IsTrue t ↔ IsOnCycle g b in
            subst P (sym flag) (w.done_flags b (sym (place_out b absent) ∙ p))
      ]

      pub close_walks : IsWalk g after left (take at path) front now flags_after
      close_walks = record {
        places_count = length-written Done Unseen places (drop at path) ∙ w.places_count;
        left_count = w.left_count;
        flags_count = length-written on_cycle false flags (drop at path) ∙ w.flags_count;
        on_path = on_path_after;
        of_path = of_path_after;
        left_fits = w.left_fits;
        unseen_left = λ b p. w.unseen_left b (written_keeps places (drop at path) b p);
        leads_on = leads_on_after;
        leads_back = leads_back_after;
        looked_at = looked_after;
        visiting_or_all = visiting_after;
        visiting_within = λ i h. let count = path_count in let l = below_last front at i w.visiting_ascends h in omega arith;
        visiting_ascends = IsAscending-front front at w.visiting_ascends;
        begins_ascend = IsAscending-front now at (subst IsAscending is w.begins_ascend);
        begins_visiting = λ b h.
            let up : IsAscending (now ++ at ∷ []) = subst IsAscending is w.begins_ascend in
            let l = below_last now at b up h in
            elim (Contains-push_cases front at b (w.begins_visiting b (Contains-same _ _ b (sym is) (Contains-append_left now (at ∷ []) b h)))) [ inl old ↦ old | inr e ↦ absurd (omega arith) ];
        first_begins = λ m.
            let count = path_count in
            let l = at_in in
            elim (Contains-push_cases now at 0 (Contains-same _ _ 0 is (w.first_begins (omega arith)))) [ inl old ↦ old | inr e ↦ absurd (omega arith) ];
        done_closed = closed_after;
        done_flags = done_flags_after;
      }
