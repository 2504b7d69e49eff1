-- The order of a graph's nodes as an order of units.
use Rattle.std.proofs.Common.{◌≡◌, ◌≢◌, ℕ, zero, suc, ◌+◌, ◌<◌, ◌≤◌, ◌⊎◌, inl, inr, true, List, [], ◌∷◌, ◌++◌, map, length, get_or, take, refl, ap, subst, sym, ◌∙◌, arith}
use Rattle.std.specs.List.{Contains, All}
use Rattle.std.proofs.lemmas.Bool.{cases_lt}
use Rattle.std.proofs.lemmas.List.{get_or-map, length-map, length-append, get_or_append_left}
use Rattle.std.specs.List.{take-map}
use Rattle.std.proofs.lemmas.List.Elements.{Contains-get_or, All-contains, All-take}
use Rattle.std.proofs.Math.Seq.{take-append_seam, get_or-append_seam}
use Rattle.al_base.specs.Batch.{Key, key_of}
use Rattle.al_base.specs.declared.unit_key.UnitKey.{UnitKey}
use Rattle.al_base.specs.FileNames.{file_name_of}
use Rattle.al_base.specs.declared.unit_key.UnitKind.TheVariants.{Decl}
use Rattle.al_base_graph.specs.Graphs.{Step}
use Rattle.al_base_graph.specs.Orders.{AreDistinct, IsCycle, IsOrder, IsOrdered, next_in}
use Rattle.al_base_graph.proofs.LawLemmas.{order_once}
use Rattle.al_unit_graph.specs.Headers.{Library, key_of_unit}
use Rattle.al_unit_graph.specs.Dependence.{direct, DependsOn}
use Rattle.al_unit_graph.specs.Dependence.DependsOn.{directly, through}
use Rattle.al_unit_graph.specs.Faults.Breaks.{cycle}
use Rattle.al_unit_graph.specs.Faults.{finding}
use Rattle.al_unit_graph.specs.Needed.{ListsUnits}
use Rattle.al_unit_graph.proofs.Lists.{from_map, into_map}
use Rattle.al_unit_faults.proofs.UnitLemmas.{at_key}
use Rattle.al_unit_faults.specs.Reached.{is_faultless, IsDependenceOrder}
use Rattle.al_unit_faults.specs.Steps.{StepsBelow, key_at}
use Rattle.al_unit_faults.proofs.FaultlessLemmas.{from_faultless, breaks_nothing, faultless_is_unit}
use Rattle.al_unit_faults.proofs.PlaceLemmas.{one_place}
use Rattle.al_unit_faults.proofs.StepLemmas.{default_free}

-- a faultless unit doesn't depend on itself
pub no_loop : (lib : Library) (key : Key) → is_faultless lib key ≡ true → DependsOn lib key key → ⊥
no_loop lib key is d =
    let s = from_faultless lib key is in
    let r = at_key lib key s.unit s.at in
    breaks_nothing lib key s.unit (finding (file_name_of key) (record { line = 1; col = 1 }) 203) is s.at (cycle (subst (λ k. DependsOn lib k k) (sym r.1) d))

abbrev AreFaultless : Library → List Key → Type 0
AreFaultless lib units = ListsUnits lib units (λ y. is_faultless lib y ≡ true)

module _ (lib : Library) (units : List Key) (g : List (List ℕ)) (lists : AreFaultless lib units) (below : StepsBelow lib units (length units) g) where
  faultless_at : (a : ℕ) → a < length units → is_faultless lib (key_at units a) ≡ true
  faultless_at a within = ((lists.all (key_at units a)).0 (Contains-get_or units a ([], Decl) within)).0

  -- there is no cycle
  module _ (nodes : List ℕ) (steps : (i : ℕ) → i < length nodes → Step g (get_or nodes i 0) (next_in nodes i)) where
    abbrev unit : ℕ → Key
    unit a = key_at units a

    on : (i : ℕ) → i < length nodes → DependsOn lib (unit (get_or nodes i 0)) (unit (next_in nodes i))
    on i l = directly ((below.steps (get_or nodes i 0) (next_in nodes i)).0 (steps i l)).2

    next_is : (i : ℕ) → i + 1 < length nodes → next_in nodes i ≡ get_or nodes (i + 1) 0
    next_is i l = default_free nodes (i + 1) (get_or nodes 0 0) 0 l

    round : (i : ℕ) → i < length nodes → DependsOn lib (unit (get_or nodes 0 0)) (unit (next_in nodes i))
    round zero l = on zero l
    round (suc i) l =
        let e : i + 1 ≡ suc i = omega arith in
        let before : DependsOn lib (unit (get_or nodes 0 0)) (unit (get_or nodes (suc i) 0)) = subst (λ n. DependsOn lib (unit (get_or nodes 0 0)) (unit n)) (next_is i (omega arith) ∙ ap (λ n. get_or nodes n 0) e) (round i (omega arith)) in
        through before (on (suc i) l)

    last_is : (n : ℕ) → length nodes ≡ suc n → next_in nodes n ≡ get_or nodes 0 0
    last_is n is = past nodes (n + 1) (get_or nodes 0 0) (omega arith)
      where
        past : (xs : List ℕ) (i d : ℕ) → length xs ≤ i → get_or xs i d ≡ d
        past [] i d l = refl
        past (x ∷ xs) zero d l = absurd (omega (arith, l))
        past (x ∷ xs) (suc i) d l = past xs i d (omega (arith, l))

    no_cycle_by : (n : ℕ) → length nodes ≡ suc n → ⊥
    no_cycle_by n is =
        let l : n < length nodes = omega arith in
        let z : 0 < length nodes = omega arith in
        let d = subst (λ m. DependsOn lib (unit (get_or nodes 0 0)) (unit m)) (last_is n is) (round n l) in
        let within : get_or nodes 0 0 < length units = ((below.steps (get_or nodes 0 0) (next_in nodes 0)).0 (steps 0 z)).0 in
        no_loop lib (unit (get_or nodes 0 0)) (faultless_at (get_or nodes 0 0) within) d

    some_more : (n : ℕ) → 0 < n → (m : ℕ) × (n ≡ suc m)
    some_more zero l = absurd (omega (arith, l))
    some_more (suc n) l = (n, refl)

    pub no_cycle : 0 < length nodes → ⊥
    no_cycle some = let m = some_more (length nodes) some in no_cycle_by m.0 m.1

  -- the order
  module _ (order : List ℕ) (ordered : IsOrder g order) where
    abbrev keys : List Key
    keys = map (key_at units) order

    node_in : (j : ℕ) → j < length order → get_or order j 0 < length units
    node_in j l = subst (λ n. get_or order j 0 < n) below.nodes (ordered.takes_least j l).0.0

    pub nodes_in : All (λ i. i < length units) order
    nodes_in k d l = subst (λ n. n < length units) (default_free order k 0 d l) (node_in k l)

    key_is : (j : ℕ) → j < length order → get_or keys j ([], Decl) ≡ key_at units (get_or order j 0)
    key_is j l = get_or-map (key_at units) order j 0 ([], Decl) l

    -- where the parts of the list stand
    module _ (before rest : List Key) (key : Key) (parts : keys ≡ before ++ key ∷ rest) where
      abbrev here : ℕ
      here = length before

      within_order : here < length order
      within_order =
          let a = ap length parts in
          let b = length-map order (key_at units) in
          let c = length-append before (key ∷ rest) in
          omega (arith, a, b, c)

      key_here : key_at units (get_or order here 0) ≡ key
      key_here = sym (key_is here within_order) ∙ ap (λ (ks : List Key). get_or ks here ([], Decl)) parts ∙ get_or-append_seam before key rest ([], Decl)

      taken : take here keys ≡ before
      taken = ap (λ (ks : List Key). take here ks) parts ∙ take-append_seam before (key ∷ rest)

      taken_nodes : map (key_at units) (take here order) ≡ before
      taken_nodes = sym (take-map (key_at units) here order) ∙ taken

      from_before : (k : Key) → Contains before k → (a : ℕ) × Contains (take here order) a × (key_at units a ≡ k)
      from_before k c = from_map (key_at units) (take here order) k (subst (λ ks. Contains ks k) (sym taken_nodes) c)

      node_of_taken : (a : ℕ) → Contains (take here order) a → a < length units
      node_of_taken a c = node_by order here a c nodes_in
        where
          node_by : (xs : List ℕ) (n a : ℕ) → Contains (take n xs) a → All (λ i. i < length units) xs → a < length units
          node_by xs n a c all = All-contains (λ i. i < length units) (take n xs) a (All-take (λ i. i < length units) n xs all) c

      never_twice : Contains before key → ⊥
      never_twice c =
          let r = from_before key c in
          let same : r.0 ≡ get_or order here 0 = one_place units r.0 (get_or order here 0) lists.ascend (node_of_taken r.0 r.1) (node_in here within_order) (r.2 ∙ sym key_here) in
          (ordered.takes_least here within_order).0.1 (subst (λ a. Contains (take here order) a) same r.1)

      comes_after : (d : Key) → Contains (direct lib key) d → is_faultless lib d ≡ true → Contains before d
      comes_after d c is =
          let u = (lists.all d).1 (is, faultless_is_unit lib d is) in
          let at : key_at units u.0 ≡ d = default_free units u.0 ([], Decl) d u.1 ∙ u.2 in
          let s : Step g (get_or order here 0) u.0 = (below.steps (get_or order here 0) u.0).1 (node_in here within_order, u.1, subst (λ k. Contains (direct lib (key_at units (get_or order here 0))) k) (sym at) (subst (λ k. Contains (direct lib k) d) (sym key_here) c)) in
          let b = (ordered.takes_least here within_order).0.2 u.0 s in
          subst (λ k. Contains before k) at (subst (λ ks. Contains ks (key_at units u.0)) taken_nodes (into_map (key_at units) (take here order) u.0 b))

    from_order : (key : Key) → Contains keys key → is_faultless lib key ≡ true
    from_order key c =
        let r = from_map (key_at units) order key c in
        let within = All-contains (λ i. i < length units) order r.0 nodes_in r.1 in
        subst (λ k. is_faultless lib k ≡ true) r.2 (faultless_at r.0 within)

    into_order : (key : Key) → is_faultless lib key ≡ true → Contains keys key
    into_order key is =
        let u = (lists.all key).1 (is, faultless_is_unit lib key is) in
        let at : key_at units u.0 ≡ key = default_free units u.0 ([], Decl) key u.1 ∙ u.2 in
        subst (λ k. Contains keys k) at (into_map (key_at units) order u.0 (ordered.all u.0 (subst (λ n. u.0 < n) (sym below.nodes) u.1)))

    pub order_of_units : IsDependenceOrder lib keys
    order_of_units = record {
      all = λ key. (from_order key, into_order key);
      once = λ before rest key parts. never_twice before rest key parts;
      after = λ before rest key d parts. comes_after before rest key parts d;
    }

-- the units as they are kept
pub steps_of_items : (lib : Library) (now items : List UnitKey) (g : List (List ℕ)) → now ≡ items → StepsBelow lib (map key_of now) (length now) g → StepsBelow lib (map key_of items) (length (map key_of items)) g
steps_of_items lib now items g same below =
    let P : List UnitKey → Type 0 = λ us. StepsBelow lib (map key_of us) (length us) g in
    subst (λ n. StepsBelow lib (map key_of items) n g) (sym (length-map items key_of)) (subst P same below)

pub within_items : (items now : List UnitKey) (order shown : List ℕ) → now ≡ items → shown ≡ order → All (λ i. i < length (map key_of items)) order → All (λ i. i < length now) shown
within_items items now order shown same seen all =
    let sized : length (map key_of items) ≡ length now = length-map items key_of ∙ ap (λ (us : List UnitKey). length us) (sym same) in
    subst (λ (n : ℕ). All (λ i. i < n) shown) sized (subst (λ (ns : List ℕ). All (λ i. i < length (map key_of items)) ns) (sym seen) all)
