-- The units that a partition needs are those in its image.
use Rattle.std.proofs.Common.{◌≡◌, ◌<◌, ◌⊎◌, inl, inr, ℕ, true, false, Bool, not, List, [], ◌∷◌, ◌++◌, length, get_or, Option, Some, None, if◌then◌else◌, refl, ap, subst, sym, ◌∙◌}
use Rattle.std.specs.Option.{is_some, option_map_or}
use Rattle.std.specs.List.{Contains}
use Rattle.std.proofs.lemmas.List.{get_or_default}
use Rattle.std.proofs.lemmas.List.Elements.{Contains-append_cases, Contains-append_left, Contains-append_right}
use Rattle.al_base.specs.Batch.{Key}
use Rattle.al_base.specs.declared.unit_key.UnitKind.{UnitKind}
use Rattle.al_base.specs.declared.unit_key.UnitKind.TheVariants.{Decl, Body, Sub}
use Rattle.al_base_graph.proofs.Members.{first, first_or_later, from_flat_map, into_flat_map, later, nowhere, the_one}
use Rattle.al_unit_graph.specs.Headers.{Header, Library}
use Rattle.al_unit_graph.specs.Library.{is_kind, is_unit, unit_at}
use Rattle.al_unit_graph.specs.Dependence.{direct}
use Rattle.al_unit_graph.specs.Needed.{Needed, present}
use Rattle.al_unit_graph.specs.Needed.Needed.{body as needed_body, dependence, subunit as needed_subunit}
use Rattle.al_unit_graph.proofs.BoolLemmas.{both, not_both}
use Rattle.al_unit_graph.proofs.Lists.{from_filter, into_filter}
use Rattle.al_unit_faults.specs.Reached.{is_faultless}
use Rattle.al_unit_faults.specs.Read.{NameParentBodies}
use Rattle.al_unit_faults.proofs.SoundUnits.{completes}
use Rattle.al_bind.specs.Binding.{IsElaboration, items_at, items_of, key_at}
use Rattle.al_bind.specs.Elaboration.{IsPartOf, is_pair, node_of}
use Rattle.al_bind.specs.Elaboration.IsPartOf.{itself, subunit}
use Rattle.al_bind.specs.Numbers.{is_node, nodes_among}
use Rattle.al_engine.specs.Placed.{ArePlaced, AreSubunits, nothing, item}
use Rattle.al_engine.proofs.Parts.{IsInBody, in_body, some_there}

-- a part of a needed item is needed
part_needed : (lib : Library) (main : List ℕ) (x p : Key) → Needed lib main x → IsPartOf lib x p → Needed lib main p
part_needed lib main x _ needed itself = needed
part_needed lib main x _ needed (subunit {p = p} {q = q} {h = h} part at c) = needed_subunit (part_needed lib main x p needed part) at c

-- each unit in the image is an item or a part of one
placed_needed : (lib : Library) (main : List ℕ) (items placed : List Key) → ArePlaced lib items placed → ((x : Key) → Contains items x → Needed lib main x) → (k : Key) → Contains placed k → Needed lib main k
placed_needed lib main _ _ nothing each k c = absurd (nowhere k c)
placed_needed lib main _ _ (item {x = x} {items = items} {subunits = subunits} {placed = placed} own more) each k c =
    let mine : Needed lib main x = each x (first x items) in
    elim (first_or_later x (subunits ++ placed) k c) as (λ _. Needed lib main k) [
      | inl same ↦ subst (λ (y : Key). Needed lib main y) same mine
      | inr h ↦ elim (Contains-append_cases subunits placed k h) as (λ _. Needed lib main k) [
        | inl d ↦ part_needed lib main x k mine ((own.all k).0 d).0
        | inr d ↦ placed_needed lib main items placed more (λ y e. each y (later x items y e)) k d
      ]
    ]

-- each item, and each subunit that is part of one, is in the image
part_placed : (lib : Library) (items placed : List Key) → ArePlaced lib items placed → (x p : Key) → Contains items x → IsPartOf lib x p → (p ≡ x) ⊎ (is_kind p.1 Sub ≡ true) → Contains placed p
part_placed lib _ _ nothing x p c part kind = absurd (nowhere x c)
part_placed lib _ _ (item {x = y} {items = items} {subunits = subunits} {placed = placed} own more) x p c part kind =
    elim (first_or_later y items x c) as (λ _. Contains (y ∷ (subunits ++ placed)) p) [
      | inl same ↦ elim kind as (λ _. Contains (y ∷ (subunits ++ placed)) p) [
        | inl is ↦ subst (λ (k : Key). Contains (y ∷ (subunits ++ placed)) k) (same ∙ sym is) (first y (subunits ++ placed))
        | inr is ↦ later y (subunits ++ placed) p (Contains-append_left subunits placed p ((own.all p).1 (subst (λ (k : Key). IsPartOf lib k p) (sym same) part, is)))
      ]
      | inr h ↦ later y (subunits ++ placed) p (Contains-append_right subunits placed p (part_placed lib items placed more x p h part kind))
    ]

asked : (o : Option Header) → option_map_or (λ h. h.has_elaborate_body) o false ≡ true → is_some o ≡ true
asked None is = absurd (cc)
asked (Some h) is = refl

module _ (lib : Library) (main : List ℕ) (named : NameParentBodies lib) (no_rule_broken : (k : Key) (h : Header) → unit_at lib k ≡ Some h → is_faultless lib k ≡ true) (direct_there : (k d : Key) (h : Header) → unit_at lib k ≡ Some h → Contains (direct lib k) d → is_unit lib d ≡ true) where
  faultless : (k : Key) → is_unit lib k ≡ true → is_faultless lib k ≡ true
  faultless k there = let h = some_there (unit_at lib k) there in no_rule_broken k h.0 h.1

  module _ (items placed : List Key) (elaboration : IsElaboration lib main items) (are : ArePlaced lib items placed) where
    abbrev nodes : List Key
    nodes = nodes_among lib elaboration.keys

    abbrev piece : ℕ → List Key
    piece i = items_of lib (key_at nodes i)

    -- a unit of a node is an item if the node is needed
    of_node : (node x : Key) → Needed lib main node → is_node lib node ≡ true → Contains (items_of lib node) x → Needed lib main x
    of_node (n, Decl) x needed node c = by (is_pair lib n) refl c
      where
        by : (b : Bool) → is_pair lib n ≡ b → Contains ((n, Decl) ∷ (if b then (n, Body) ∷ [] else [])) x → Needed lib main x
        by true pair d =
            elim (first_or_later (n, Decl) ((n, Body) ∷ []) x d) as (λ _. Needed lib main x) [
              | inl same ↦ subst (λ (y : Key). Needed lib main y) same needed
              | inr h ↦
                  let key : Key = (n, Body) in
                  let there : is_unit lib key ≡ true = (both _ _ pair).1 in
                  let here : Contains (present lib key) key = subst (λ (b : Bool). Contains (if b then key ∷ [] else []) key) (sym there) (first key []) in
                  subst (λ (y : Key). Needed lib main y) (the_one key x h) (needed_body needed here)
            ]
        by false pair d =
            elim (first_or_later (n, Decl) [] x d) as (λ _. Needed lib main x) [ inl same ↦ subst (λ (y : Key). Needed lib main y) same needed | inr h ↦ absurd (nowhere x h) ]
    of_node (n, Body) x needed node c = subst (λ (y : Key). Needed lib main y) (the_one (n, Body) x c) needed
    of_node (n, Sub) x needed node c = absurd (cc)

    item_needed : (x : Key) → Contains items x → Needed lib main x
    item_needed x c =
        let d : Contains (items_at lib nodes elaboration.order) x = subst (λ (l : List Key). Contains l x) elaboration.items_are c in
        let r = from_flat_map piece elaboration.order x d in
        let at = r.1 in
        let least = (elaboration.ordered.takes_least at.0 at.1).0.0 in
        let same : get_or elaboration.order at.0 0 ≡ r.0 = get_or_default elaboration.order at.0 0 r.0 at.1 ∙ at.2 in
        let within : r.0 < length nodes = subst (λ (i : ℕ). i < length nodes) same least in
        let node = key_at nodes r.0 in
        let among : Contains nodes node = (r.0, within, get_or_default nodes r.0 node ([], Decl) within) in
        let f = from_filter (is_node lib) elaboration.keys node among in
        of_node node x ((elaboration.lists.all node).0 f.0).0 f.1 r.2

    -- the node of a needed item
    declaration_needed : (n : List ℕ) → is_pair lib n ≡ true → Needed lib main (n, Body) → is_unit lib (n, Body) ≡ true → Needed lib main (n, Decl) × (is_unit lib (n, Decl) ≡ true)
    declaration_needed n pair needed there =
        let decl : is_unit lib (n, Decl) ≡ true = asked (unit_at lib (n, Decl)) (both _ _ pair).0 in
        (dependence needed (completes lib n named (faultless (n, Body) there) (faultless (n, Decl) decl)), decl)

    at_node : (node x : Key) → Needed lib main node → is_unit lib node ≡ true → is_node lib node ≡ true → Contains (items_of lib node) x → Contains items x
    at_node node x needed there is c =
        let m = into_filter (is_node lib) elaboration.keys node ((elaboration.lists.all node).1 (needed, there)) is in
        let same : key_at nodes m.0 ≡ node = get_or_default nodes m.0 ([], Decl) node m.1 ∙ m.2 in
        let here : Contains (piece m.0) x = subst (λ (k : Key). Contains (items_of lib k) x) (sym same) c in
        subst (λ (l : List Key). Contains l x) (sym elaboration.items_are) (into_flat_map piece elaboration.order m.0 x (elaboration.ordered.all m.0 m.1) here)

    needed_declaration : (n : List ℕ) → Needed lib main (n, Decl) → is_unit lib (n, Decl) ≡ true → Contains items (n, Decl)
    needed_declaration n needed there = at_node (n, Decl) (n, Decl) needed there refl (first (n, Decl) (if is_pair lib n then (n, Body) ∷ [] else []))

    needed_is_item : (n : List ℕ) → Needed lib main (n, Body) → is_unit lib (n, Body) ≡ true → Contains items (n, Body)
    needed_is_item n needed there = by (is_pair lib n) refl
      where
        by : (b : Bool) → is_pair lib n ≡ b → Contains items (n, Body)
        by true pair =
            let d = declaration_needed n pair needed there in
            let decl : Key = (n, Decl) in
            let own : Key = (n, Body) in
            let two : Contains (items_of lib decl) own = subst (λ (b : Bool). Contains (decl ∷ (if b then own ∷ [] else [])) own) (sym pair) (later decl (own ∷ []) own (first own [])) in
            at_node (n, Decl) (n, Body) d.0 d.1 refl two
        by false pair = at_node (n, Body) (n, Body) needed there (ap not pair) (first (n, Body) [])

    -- each needed unit of the library is in the image, and only needed ones are
    pub stands : (k : Key) → Needed lib main k → is_unit lib k ≡ true → Contains placed k
    stands (n, Decl) needed there = part_placed lib items placed are (n, Decl) (n, Decl) (needed_declaration n needed there) itself (inl refl)
    stands (n, Body) needed there = part_placed lib items placed are (n, Body) (n, Body) (needed_is_item n needed there) itself (inl refl)
    stands (n, Sub) needed there =
        let h = some_there (unit_at lib (n, Sub)) there in
        let b = in_body lib main named no_rule_broken direct_there n h.0 needed h.1 in
        part_placed lib items placed are (b.name, Body) (n, Sub) (needed_is_item b.name b.needed b.there) b.part (inr refl)

    pub only_needed : (k : Key) → Contains placed k → Needed lib main k
    only_needed k c = placed_needed lib main items placed are item_needed k c
