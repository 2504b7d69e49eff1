-- A walk where a step leads back to the path, and where one successor less is left.
use Rattle.std.proofs.Common.{◌≡◌, ◌≢◌, ◌⊎◌, ℕ, ◌-◌, ◌<◌, ◌≤◌, Bool, List, [], ◌∷◌, ◌++◌, length, get_or, set, sym, ap, ◌∙◌, subst, inl, inr, arith}
use Rattle.std.specs.List.{Contains}
use Rattle.std.proofs.lemmas.Bool.{cases_eq, cases_lt}
use Rattle.std.proofs.lemmas.List.Elements.{Contains-push_cases}
use Rattle.std.proofs.lemmas.List.{get_or_append_left, get_or_default, length_push, length-set, get_or-set_same, get_or-set_other}
use Rattle.al_base_graph.specs.Graphs.{successors_of, Step, Reaches}
use Rattle.al_base_graph.specs.Graphs.Reaches.{further}
use Rattle.al_base_graph.specs.Walks.{place_of, IsJoined, IsSettled, IsWalk, IsCut}
use Rattle.al_base_graph.specs.declared.walk.Place.{Place}
use Rattle.al_base_graph.specs.declared.walk.Place.TheVariants.{Unseen, OnPath, Done}
use Rattle.al_base_graph.proofs.ListLemmas.{within_from_some}
use Rattle.al_base_graph.proofs.ReachLemmas.{Reaches-trans}
use Rattle.al_base_graph.proofs.EnterLemmas.{enter_walks}

module _ (g : List (List ℕ)) (places : List Place) (left path visiting begins : List ℕ) (flags : List Bool) (w : IsWalk g places left path visiting begins flags) (at : ℕ) (at_in : at < length path) (last : (i : ℕ) → Contains visiting i → i ≤ at) where
  -- each node of the path leads to the last one that is visited
  pub leads_to_last : (i : ℕ) → i < length path → Reaches g (get_or path i 0) (get_or path at 0)
  leads_to_last i m =
      elim (cases_lt at i) [
        | inl above ↦ w.leads_back i at (omega arith) m (λ b h k. let n = last b (w.begins_visiting b h) in absurd (omega arith))
        | inr below ↦ w.leads_on i at below at_in
      ]

  -- a step leads to a place of the path
  module _ (to : ℕ) (to_in : to < length path) (step : Step g (get_or path at 0) (get_or path to 0)) (now : List ℕ) (cut : IsCut begins now to) where
    leads_to : (i : ℕ) → i < length path → Reaches g (get_or path i 0) (get_or path to 0)
    leads_to i m = further (get_or path at 0) (leads_to_last i m) step

    cut_joined : (i j : ℕ) → IsJoined begins j i → IsJoined now j i
    cut_joined i j joined b h k = joined b (cut.only b h).0 k

    leads_back_now : (i j : ℕ) → j ≤ i → i < length path → IsJoined now j i → Reaches g (get_or path i 0) (get_or path j 0)
    leads_back_now i j m k joined =
        elim (cases_lt j to) [
          | inl before ↦ elim (cases_lt i to) [
            | inl both ↦ w.leads_back i j m k (λ b h n. elim (cases_lt to b) [ inl past ↦ omega arith | inr kept ↦ joined b (cut.all b h kept) n ])
            | inr over ↦ Reaches-trans _ _ _ (leads_to i k) (w.leads_back to j (omega arith) to_in
                (λ b h n. elim (cases_lt to b) [ inl past ↦ past | inr kept ↦ let p = joined b (cut.all b h kept) n in absurd (omega arith) ]))
          ]
          | inr from ↦ Reaches-trans _ _ _ (leads_to i k) (w.leads_on to j from (omega arith))
        ]

    pub join_walks : IsWalk g places left path visiting now flags
    join_walks = record {
      places_count = w.places_count;
      left_count = w.left_count;
      flags_count = w.flags_count;
      on_path = w.on_path;
      of_path = w.of_path;
      left_fits = w.left_fits;
      unseen_left = w.unseen_left;
      leads_on = w.leads_on;
      leads_back = leads_back_now;
      looked_at = λ i k m from within. elim (w.looked_at i k m from within) [ inl done ↦ inl done | inr on ↦ inr (on.0, on.1, cut_joined i on.0 on.2) ];
      visiting_or_all = w.visiting_or_all;
      visiting_within = w.visiting_within;
      visiting_ascends = w.visiting_ascends;
      begins_ascend = cut.ascends;
      begins_visiting = λ i h. w.begins_visiting i (cut.only i h).0;
      first_begins = λ m. cut.all 0 (w.first_begins m) (omega arith);
      done_closed = w.done_closed;
      done_flags = w.done_flags;
    }

-- the last successor that is left is settled
module _ (g : List (List ℕ)) (places : List Place) (left path visiting begins : List ℕ) (flags : List Bool) (w : IsWalk g places left path visiting begins flags) (at a : ℕ) (at_in : at < length path) (is : get_or path at 0 ≡ a) (some : 0 < get_or left a 0) (settled : IsSettled places begins at (get_or (successors_of g a) (get_or left a 0 - 1) 0)) (within : a < length left) where
  same_left : (b : ℕ) → b ≢ a → get_or (set left a (get_or left a 0 - 1)) b 0 ≡ get_or left b 0
  same_left b n = get_or-set_other left a b (get_or left a 0 - 1) 0 n

  less_left : get_or (set left a (get_or left a 0 - 1)) a 0 ≡ get_or left a 0 - 1
  less_left = get_or-set_same left a (get_or left a 0 - 1) 0 within

  fits_now : (b : ℕ) → get_or (set left a (get_or left a 0 - 1)) b 0 ≤ length (successors_of g b)
  fits_now b =
      elim (cases_eq b a) [
        | inl e ↦
            let P : ℕ → Type 0 = λ n. get_or (set left a (get_or left a 0 - 1)) n 0 ≤ length (successors_of g n) in
            let fit = w.left_fits a in
            let less = less_left in
            let here_now : get_or (set left a (get_or left a 0 - 1)) a 0 ≤ length (successors_of g a) = omega arith in
            subst P (sym e) here_now
        | inr n ↦ let fit = w.left_fits b in let same = same_left b n in omega arith
      ]

  unseen_now : (b : ℕ) → place_of places b ≡ Unseen → get_or (set left a (get_or left a 0 - 1)) b 0 ≡ length (successors_of g b)
  unseen_now b p =
      elim (cases_eq b a) [
        | inl e ↦ let q : Unseen ≡ OnPath at = sym p ∙ ap (place_of places) (e ∙ sym is) ∙ w.on_path at at_in in absurd cc
        | inr n ↦ same_left b n ∙ w.unseen_left b p
      ]

  looked_now : (i k : ℕ) → i < length path → get_or (set left a (get_or left a 0 - 1)) (get_or path i 0) 0 ≤ k → k < length (successors_of g (get_or path i 0)) → IsSettled places begins i (get_or (successors_of g (get_or path i 0)) k 0)
  looked_now i k m from in_list =
      elim (cases_eq (get_or path i 0) a) [
        | inl e ↦
            let q : OnPath i ≡ OnPath at = sym (w.on_path i m) ∙ ap (place_of places) (e ∙ sym is) ∙ w.on_path at at_in in
            let same : i ≡ at = cc in
            let P : ℕ → Type 0 = λ x. get_or (set left a (get_or left a 0 - 1)) x 0 ≤ k in
            let low : get_or (set left a (get_or left a 0 - 1)) a 0 ≤ k = subst P e from in
            let less = less_left in
            elim (cases_lt k (get_or left a 0)) [
              | inl new ↦
                  let here_now : get_or left a 0 - 1 ≡ k = omega arith in
                  let Q : ℕ → Type 0 = λ n. IsSettled places begins at (get_or (successors_of g a) n 0) in
                  let R : ℕ → Type 0 = λ x. IsSettled places begins at (get_or (successors_of g x) k 0) in
                  let S : ℕ → Type 0 = λ n. IsSettled places begins n (get_or (successors_of g (get_or path i 0)) k 0) in
                  subst S (sym same) (subst R (sym e) (subst Q here_now settled))
              | inr old ↦ let T : ℕ → Type 0 = λ x. get_or left x 0 ≤ k in w.looked_at i k m (subst T (sym e) old) in_list
            ]
        | inr n ↦ let same = same_left (get_or path i 0) n in w.looked_at i k m (omega arith) in_list
      ]

  visiting_now : (i : ℕ) → i < length path → Contains visiting i ⊎ (get_or (set left a (get_or left a 0 - 1)) (get_or path i 0) 0 ≡ 0)
  visiting_now i m =
      elim (w.visiting_or_all i m) [
        | inl there ↦ inl there
        | inr all ↦ inr (elim (cases_eq (get_or path i 0) a) [
          | inl e ↦ let P : ℕ → Type 0 = λ x. get_or left x 0 ≡ 0 in let z : get_or left a 0 ≡ 0 = subst P e all in absurd (omega arith)
          | inr n ↦ same_left (get_or path i 0) n ∙ all
        ])
      ]

  pub look_walks : IsWalk g places (set left a (get_or left a 0 - 1)) path visiting begins flags
  look_walks = record {
    places_count = w.places_count;
    left_count = length-set left a (get_or left a 0 - 1) ∙ w.left_count;
    flags_count = w.flags_count;
    on_path = w.on_path;
    of_path = w.of_path;
    left_fits = fits_now;
    unseen_left = unseen_now;
    leads_on = w.leads_on;
    leads_back = w.leads_back;
    looked_at = looked_now;
    visiting_or_all = visiting_now;
    visiting_within = w.visiting_within;
    visiting_ascends = w.visiting_ascends;
    begins_ascend = w.begins_ascend;
    begins_visiting = w.begins_visiting;
    first_begins = w.first_begins;
    done_closed = w.done_closed;
    done_flags = w.done_flags;
  }

pub IsWalk-same : {g : List (List ℕ)} {places places' : List Place} {left left' path path' visiting visiting' begins begins' : List ℕ} {flags flags' : List Bool} → places' ≡ places → left' ≡ left → path' ≡ path → visiting' ≡ visiting → begins' ≡ begins → flags' ≡ flags → IsWalk g places left path visiting begins flags → IsWalk g places' left' path' visiting' begins' flags'
IsWalk-same {g} {places} {places'} {left} {left'} {path} {path'} {visiting} {visiting'} {begins} {begins'} {flags} {flags'} e1 e2 e3 e4 e5 e6 w =
    let P1 : List Place → Type 0 = λ x. IsWalk g x left path visiting begins flags in
    let P2 : List ℕ → Type 0 = λ x. IsWalk g places' x path visiting begins flags in
    let P3 : List ℕ → Type 0 = λ x. IsWalk g places' left' x visiting begins flags in
    let P4 : List ℕ → Type 0 = λ x. IsWalk g places' left' path' x begins flags in
    let P5 : List ℕ → Type 0 = λ x. IsWalk g places' left' path' visiting' x flags in
    let P6 : List Bool → Type 0 = λ x. IsWalk g places' left' path' visiting' begins' x in
    subst P6 (sym e6) (subst P5 (sym e5) (subst P4 (sym e4) (subst P3 (sym e3) (subst P2 (sym e2) (subst P1 (sym e1) w)))))

-- the last successor that is left of the last node that is visited
module _ (g : List (List ℕ)) (places : List Place) (left path visiting begins : List ℕ) (flags : List Bool) (w : IsWalk g places left path visiting begins flags) (at : ℕ) (at_in : at < length path) (last : (i : ℕ) → Contains visiting i → i ≤ at) (node n next : ℕ) (is_node : get_or path at 0 ≡ node) (is_left : get_or left node 0 ≡ n) (some : 0 < n) (is_next : get_or (successors_of g node) (n - 1) 0 ≡ next) where
  one_of : n - 1 < length (successors_of g node)
  one_of = let fits = w.left_fits node in omega arith

  step_next : Step g node next
  step_next = (n - 1, one_of, get_or_default (successors_of g node) (n - 1) next 0 one_of ∙ is_next)

  node_within : node < length left
  node_within = within_from_some left node (omega arith)

  leads_next : (i : ℕ) → i < length path → Reaches g (get_or path i 0) next
  leads_next i m =
      let P : ℕ → Type 0 = λ x. Step g x next in
      further (get_or path at 0) (leads_to_last g places left path visiting begins flags w at at_in last i m) (subst P (sym is_node) step_next)

  settle_left : {places' : List Place} {path' visiting' begins' : List ℕ} → IsWalk g places' left path' visiting' begins' flags → at < length path' → get_or path' at 0 ≡ node → IsSettled places' begins' at next → IsWalk g places' (set left node (n - 1)) path' visiting' begins' flags
  settle_left {places'} {path'} {visiting'} {begins'} w' in' is' settled =
      let P : ℕ → Type 0 = λ k. IsSettled places' begins' at (get_or (successors_of g node) (k - 1) 0) in
      let Q : ℕ → Type 0 = λ k. IsWalk g places' (set left node (k - 1)) path' visiting' begins' flags in
      let R : ℕ → Type 0 = λ x. IsSettled places' begins' at x in
      subst Q is_left (look_walks g places' left path' visiting' begins' flags w' at node in' is' (omega arith) (subst P (sym is_left) (subst R (sym is_next) settled)) node_within)

  pub look_done : place_of places next ≡ Done → IsWalk g places (set left node (n - 1)) path visiting begins flags
  look_done done = settle_left w at_in is_node (inl done)

  pub look_back : (to : ℕ) (now : List ℕ) → place_of places next ≡ OnPath to → IsCut begins now to → IsWalk g places (set left node (n - 1)) path visiting now flags
  look_back to now on cut =
      let there = w.of_path next to on in
      let P : ℕ → Type 0 = λ x. Step g x (get_or path to 0) in
      let Q : ℕ → Type 0 = λ x. Step g node x in
      let step : Step g (get_or path at 0) (get_or path to 0) = subst P (sym is_node) (subst Q (sym there.1) step_next) in
      settle_left (join_walks g places left path visiting begins flags w at at_in last to there.0 step now cut) at_in is_node
      (inr (to, on, λ b h k. let most = (cut.only b h).1 in absurd (omega arith)))

  pub look_new : next < length g → place_of places next ≡ Unseen → IsWalk g (set places next (OnPath (length path))) (set left node (n - 1)) (path ++ next ∷ []) (visiting ++ length path ∷ []) (begins ++ length path ∷ []) flags
  look_new within unseen =
      let longer = length_push path next in
      let count = w.places_count in
      settle_left (enter_walks g places left path visiting begins flags w next within unseen leads_next) (omega arith) (get_or_append_left path (next ∷ []) 0 at at_in ∙ is_node)
      (inr (
        length path,
        get_or-set_same places next (OnPath (length path)) Unseen (omega arith),
        λ b h k. elim (Contains-push_cases begins (length path) b h) [
          | inl old ↦ let m = w.visiting_within b (w.begins_visiting b old) in absurd (omega arith)
          | inr e ↦ absurd (omega arith)
        ],
      ))
