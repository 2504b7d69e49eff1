-- The ties of steps lead to all ties, and give the same order.
use Rattle.std.proofs.Common.{◌≡◌, ◌≢◌, ◌↔◌, ◌⊎◌, inl, inr, ℕ, ◌<◌, List, [], ◌∷◌, length, refl, sym, ap, subst, ◌∙◌}
use Rattle.std.specs.List.{All, Contains}
use Rattle.std.specs.List.Sorted.{IsStrictlySortedBy}
use Rattle.std.specs.declared.cmp.Ordering.{Ordering}
use Rattle.std.specs.declared.cmp.Ordering.TheVariants.{Less, Equal, Greater}
use Rattle.std.proofs.lemmas.Bool.{cases_eq}
use Rattle.std.proofs.lemmas.List.Kept.{IsStrictlySortedBy-filter}
use Rattle.al_base.specs.Batch.{Key}
use Rattle.al_base.specs.declared.unit_key.UnitKind.TheVariants.{Decl, Body, Sub}
use Rattle.al_base_graph.specs.Graphs.{Reaches}
use Rattle.al_base_graph.specs.Graphs.Reaches.{here, further}
use Rattle.al_base_graph.proofs.Members.{nowhere, first, later, first_or_later}
use Rattle.al_base_graph.proofs.ReachLemmas.{Reaches-trans}
use Rattle.al_base_graph.specs.Orders.{IsOrder}
use Rattle.al_base_graph.specs.Relations.{IsOrderBy}
use Rattle.al_base_graph.specs.Ties.{graph_from}
use Rattle.al_base_graph.specs.declared.edge.Edge.{Edge}
use Rattle.al_base_graph.specs.declared.edge.Reason.{Reason}
use Rattle.al_base_graph.specs.declared.edge.Reason.TheVariants.{Depends, Elaborate, ElaborateAll}
use Rattle.al_base_graph.proofs.RelationLemmas.{steps_suffice}
use Rattle.al_base_graph.proofs.TieLemmas.{step_tied}
use Rattle.al_unit_graph.specs.Headers.{Library}
use Rattle.al_unit_graph.specs.Dependence.{DependsOn, direct}
use Rattle.al_unit_graph.specs.Dependence.DependsOn.{directly, through}
use Rattle.al_unit_graph.specs.Needed.{ListsUnits, Needed}
use Rattle.al_unit_graph.specs.Orders.{key_cmp}
use Rattle.al_bind.specs.Elaboration.{IsItem, IsPartOf, Wants, node_of}
use Rattle.al_bind.specs.Elaboration.IsPartOf.{itself}
use Rattle.al_bind.specs.Elaboration.Wants.{depends, elaborate, elaborate_all_body, elaborate_all}
use Rattle.al_bind.specs.Numbers.{ComesAfter, IsAt, IsEnd, TellsEdge, TellsWant, is_node, nodes_among}
use Rattle.al_bind.specs.Steps.{ArePlaced, IsTold, WantsTold}
use Rattle.al_bind.specs.declared.places.End.{End}
use Rattle.al_bind.specs.declared.edges.Extent.{Extent}
use Rattle.al_bind.specs.declared.edges.Extent.TheVariants.{Whole, Steps}
use Rattle.al_bind.proofs.BindLemmas.{graph_count, tie_is_step}
use Rattle.al_bind.proofs.EdgeLemmas.{same_at}
use Rattle.al_bind.proofs.PlaceLemmas.{key_exact, key_itself}
use Rattle.al_bind.proofs.TieLemmas.{one_place}

-- what is listed is required
told_is_so : (extent : Extent) (lib : Library) (keys : List Key) (p y : Key) → IsTold extent lib keys p y → DependsOn lib p y
told_is_so Whole lib keys p y d = d
told_is_so Steps lib keys p y (inl s) = directly s.1
told_is_so Steps lib keys p y (inr n) = n.1

wants_is_so : (extent : Extent) (lib : Library) (keys : List Key) (p : Key) (r : Reason) (y : Key) → WantsTold extent lib keys p r y → Wants lib p r y
wants_is_so extent lib keys p r y (inl d) = subst (λ (s : Reason). Wants lib p s y) (sym d.0) (depends (told_is_so extent lib keys p y d.1))
wants_is_so extent lib keys p r y (inr o) = o.1

-- what is required is listed, if all is
wants_whole : (lib : Library) (keys : List Key) (p : Key) (r : Reason) (y : Key) → Wants lib p r y → WantsTold Whole lib keys p r y
wants_whole lib keys p _ y (depends d) = inl (refl, d)
wants_whole lib keys p _ _ (elaborate is c) = inr ((λ (e : Elaborate ≡ Depends). absurd (cc)), elaborate is c)
wants_whole lib keys p _ _ (elaborate_all_body is c) = inr ((λ (e : ElaborateAll ≡ Depends). absurd (cc)), elaborate_all_body is c)
wants_whole lib keys p _ y (elaborate_all is c needed) = inr ((λ (e : ElaborateAll ≡ Depends). absurd (cc)), elaborate_all is c needed)

pub tells_edge : (extent : Extent) (lib : Library) (main : List ℕ) (keys : List Key) (t : Edge) → TellsWant lib main keys (WantsTold extent lib keys) t → TellsEdge lib main keys t
tells_edge extent lib main keys t w = record {
  x = w.x;
  y = w.y;
  carries = record { after = w.after; before = w.before; follows = (w.part, w.is_part, wants_is_so extent lib keys w.part t.reason w.y w.wants); apart = w.apart };
  x_at = w.x_at;
  y_at = w.y_at;
  after_at = w.after_at;
  before_at = w.before_at;
}

pub whole_tells : (lib : Library) (main : List ℕ) (keys : List Key) (t : Edge) → TellsEdge lib main keys t → TellsWant lib main keys (WantsTold Whole lib keys) t
whole_tells lib main keys t edge =
    let (p, is_part, wants) = edge.carries.follows in
    record {
      x = edge.x;
      y = edge.y;
      after = edge.carries.after;
      before = edge.carries.before;
      part = p;
      is_part = is_part;
      wants = wants_whole lib keys p t.reason edge.y wants;
      apart = edge.carries.apart;
      x_at = edge.x_at;
      y_at = edge.y_at;
      after_at = edge.after_at;
      before_at = edge.before_at;
    }

-- dependence goes from one unit to another
data Chain (lib : Library) : Key → Key → Type 0 where
  last : {x y : Key} → Contains (direct lib x) y → Chain lib x y
  onward : {x m y : Key} → Contains (direct lib x) m → Chain lib m y → Chain lib x y

joined : (lib : Library) (x m y : Key) → Chain lib x m → Chain lib m y → Chain lib x y
joined lib x m y (last c) d = onward c d
joined lib x m y (onward {m = n} c e) d = onward c (joined lib n m y e d)

chain_of : (lib : Library) (x y : Key) → DependsOn lib x y → Chain lib x y
chain_of lib x y (directly c) = last c
chain_of lib x y (through {y = m} d e) = joined lib x m y (chain_of lib x m d) (chain_of lib m y e)

depends_of : (lib : Library) (x y : Key) → Chain lib x y → DependsOn lib x y
depends_of lib x y (last c) = directly c
depends_of lib x y (onward {m = m} c d) = through (directly c) (depends_of lib m y d)

-- whether a key is in a list
same_by : (a b : Key) (o : Ordering) → key_cmp a b ≡ o → (a ≡ b) ⊎ (a ≡ b → ⊥)
same_by a b Equal is = inl (key_exact a b is)
same_by a b Less is = inr (λ (e : a ≡ b). let s : key_cmp a b ≡ key_cmp a a = ap (λ (k : Key). key_cmp a k) (sym e) in let q = key_itself a in absurd (cc))
same_by a b Greater is = inr (λ (e : a ≡ b). let s : key_cmp a b ≡ key_cmp a a = ap (λ (k : Key). key_cmp a k) (sym e) in let q = key_itself a in absurd (cc))

in_or_not : (ks : List Key) (k : Key) → Contains ks k ⊎ (Contains ks k → ⊥)
in_or_not [] k = inr (λ c. nowhere k c)
in_or_not (x ∷ xs) k =
    elim (same_by x k (key_cmp x k) refl) [
      | inl same ↦ inl (subst (λ (y : Key). Contains (x ∷ xs) y) same (first x xs))
      | inr other ↦ elim (in_or_not xs k) [
        | inl c ↦ inl (later x xs k c)
        | inr none ↦ inr (λ c. elim (first_or_later x xs k c) [ inl same ↦ other same | inr old ↦ none old ])
      ]
    ]

module _ (lib : Library) (keys : List Key) where
  abbrev IsPlaced : Key → Type 0
  IsPlaced k = (end : End) × IsEnd lib keys k end

  item_placed_or_not : (k : Key) → (k.1 ≢ Sub) → IsPlaced k ⊎ (IsPlaced k → ⊥)
  item_placed_or_not k kind =
      elim (in_or_not keys k) [
        | inl item ↦ elim (in_or_not (nodes_among lib keys) (node_of lib k)) [
          | inl node ↦ inl (record { item = item.0; node = node.0 }, record { item_kind = kind; item_at = (item.1, item.2); node_at = (node.1, node.2) })
          | inr none ↦ inr (λ h. none (h.0.node, h.1.node_at.0, h.1.node_at.1))
        ]
        | inr none ↦ inr (λ h. none (h.0.item, h.1.item_at.0, h.1.item_at.1))
      ]

  placed_or_not : (k : Key) → IsPlaced k ⊎ (IsPlaced k → ⊥)
  placed_or_not (name, Decl) = item_placed_or_not (name, Decl) (λ (e : Decl ≡ Sub). absurd (cc))
  placed_or_not (name, Body) = item_placed_or_not (name, Body) (λ (e : Body ≡ Sub). absurd (cc))
  placed_or_not (name, Sub) = inr (λ h. h.1.item_kind refl)

  all_or_not : (ks : List Key) → ArePlaced lib keys ks ⊎ (ArePlaced lib keys ks → ⊥)
  all_or_not [] = inl (λ y c. absurd (nowhere y c))
  all_or_not (k ∷ ks) =
      elim (placed_or_not k) [
        | inr none ↦ inr (λ all. none (all k (first k ks)))
        | inl this ↦ elim (all_or_not ks) [
          | inr none ↦ inr (λ all. none (λ y c. all y (later k ks y c)))
          | inl rest ↦ inl (λ y c. elim (first_or_later k ks y c) [ inl same ↦ subst (λ (z : Key). IsPlaced z) same this | inr old ↦ rest y old ])
        ]
      ]

-- steps from item to item
module _ (lib : Library) (main : List ℕ) (keys : List Key) (lists : ListsUnits lib keys (Needed lib main)) (edges : List Edge) (tells : (t : Edge) → Contains edges t ↔ TellsWant lib main keys (WantsTold Steps lib keys) t) (within : All (λ t. (t.after < length (nodes_among lib keys)) × (t.before < length (nodes_among lib keys))) edges) where
  abbrev nodes : List Key
  nodes = nodes_among lib keys

  abbrev g : List (List ℕ)
  g = graph_from (length nodes) edges

  nodes_sorted : IsStrictlySortedBy key_cmp nodes
  nodes_sorted = IsStrictlySortedBy-filter key_cmp (is_node lib) keys lists.ascend

  led : (x y p : Key) (r : Reason) → IsItem lib main x → IsItem lib main y → IsPartOf lib x p → WantsTold Steps lib keys p r y → (a b : ℕ) → IsAt nodes (node_of lib x) a → IsAt nodes (node_of lib y) b → Reaches g a b
  led x y p r x_is y_is part wants a b a_at b_at =
      elim (cases_eq a b) [
        | inl same ↦ subst (λ (k : ℕ). Reaches g a k) same here
        | inr other ↦
            let (i, i_in, i_is) = (lists.all x).1 (x_is.0, x_is.1) in
            let (j, j_in, j_is) = (lists.all y).1 (y_is.0, y_is.1) in
            let t : Edge = record { after = a; before = b; reason = r; x = i; y = j } in
            let want : TellsWant lib main keys (WantsTold Steps lib keys) t = record {
              x = x;
              y = y;
              after = x_is;
              before = y_is;
              part = p;
              is_part = part;
              wants = wants;
              apart = λ e. other (one_place nodes (node_of lib x) a b nodes_sorted a_at (subst (λ (k : Key). IsAt nodes k b) (sym e) b_at));
              x_at = (i_in, i_is);
              y_at = (j_in, j_is);
              after_at = a_at;
              before_at = b_at;
            } in
            further a here (tie_is_step (length nodes) edges within t ((tells t).1 want))
      ]

  chained : (p y : Key) → Chain lib p y → (x : Key) → IsItem lib main x → IsPartOf lib x p → IsItem lib main y → (a b : ℕ) → IsAt nodes (node_of lib x) a → IsAt nodes (node_of lib y) b → Reaches g a b
  chained p y (last c) x x_is part y_is a b a_at b_at =
      elim (all_or_not lib keys (direct lib p)) [
        | inl all ↦ led x y p Depends x_is y_is part (inl (refl, inl (all, c))) a b a_at b_at
        | inr none ↦ led x y p Depends x_is y_is part (inl (refl, inr (none, directly c))) a b a_at b_at
      ]
  chained p y (onward {m = m} c d) x x_is part y_is a b a_at b_at =
      elim (all_or_not lib keys (direct lib p)) [
        | inl all ↦
            let (end, is_end) = all m c in
            let needed = (lists.all m).0 (end.item, is_end.item_at.0, is_end.item_at.1) in
            let m_is : IsItem lib main m = (needed.0, needed.1, is_end.item_kind) in
            Reaches-trans a end.node b (led x m p Depends x_is m_is part (inl (refl, inl (all, c))) a end.node a_at is_end.node_at) (chained m y d m m_is itself y_is end.node b is_end.node_at b_at)
        | inr none ↦ led x y p Depends x_is y_is part (inl (refl, inr (none, through (directly c) (depends_of lib m y d)))) a b a_at b_at
      ]

  wanted_led : (p : Key) (r : Reason) (y : Key) → Wants lib p r y → (x : Key) → IsItem lib main x → IsPartOf lib x p → IsItem lib main y → (a b : ℕ) → IsAt nodes (node_of lib x) a → IsAt nodes (node_of lib y) b → Reaches g a b
  wanted_led p _ y (depends d) x x_is part y_is a b a_at b_at = chained p y (chain_of lib p y d) x x_is part y_is a b a_at b_at
  wanted_led p _ _ (elaborate {q} is c) x x_is part y_is a b a_at b_at = led x (q, Body) p Elaborate x_is y_is part (inr ((λ (e : Elaborate ≡ Depends). absurd (cc)), elaborate is c)) a b a_at b_at
  wanted_led p _ _ (elaborate_all_body {q} is c) x x_is part y_is a b a_at b_at = led x (q, Body) p ElaborateAll x_is y_is part (inr ((λ (e : ElaborateAll ≡ Depends). absurd (cc)), elaborate_all_body is c)) a b a_at b_at
  wanted_led p _ y (elaborate_all is c needed) x x_is part y_is a b a_at b_at = led x y p ElaborateAll x_is y_is part (inr ((λ (e : ElaborateAll ≡ Depends). absurd (cc)), elaborate_all is c needed)) a b a_at b_at

  pub edge_reached : (t : Edge) → TellsEdge lib main keys t → Reaches g t.after t.before
  edge_reached t edge =
      let (p, part, wants) = edge.carries.follows in
      wanted_led p t.reason edge.y wants edge.x edge.carries.after part edge.carries.before t.after t.before edge.after_at edge.before_at

-- ties that represent edges, and from which all others follow, give the order of all
module _ (lib : Library) (main : List ℕ) (keys : List Key) (edges : List Edge) (within : All (λ t. (t.after < length (nodes_among lib keys)) × (t.before < length (nodes_among lib keys))) edges) (sound : (t : Edge) → Contains edges t → TellsEdge lib main keys t) (reached : (t : Edge) → TellsEdge lib main keys t → Reaches (graph_from (length (nodes_among lib keys)) edges) t.after t.before) where
  pub in_order_of_all : (order : List ℕ) → IsOrder (graph_from (length (nodes_among lib keys)) edges) order → IsOrderBy (length (nodes_among lib keys)) (ComesAfter lib main keys) order
  in_order_of_all order is =
      let count = length (nodes_among lib keys) in
      steps_suffice (graph_from count edges) order is count (graph_count count edges) (ComesAfter lib main keys)
      (λ a b step. let (t, c, between) = step_tied count edges within a b step in (t, sound t c, between))
      (λ a b (t, edge, between). (
        subst (λ (k : ℕ). Reaches (graph_from count edges) k b) between.0 (subst (λ (k : ℕ). Reaches (graph_from count edges) t.after k) between.1 (reached t edge)),
        λ e. edge.carries.apart (same_at (nodes_among lib keys) (node_of lib edge.x) (node_of lib edge.y) t.after edge.after_at (subst (λ (k : ℕ). IsAt (nodes_among lib keys) (node_of lib edge.y) k) (sym (between.0 ∙ e ∙ sym between.1)) edge.before_at)),
      ))

-- of all ties, and of steps
pub ordered_by : (extent : Extent) (lib : Library) (main : List ℕ) (keys : List Key) (edges : List Edge) → ListsUnits lib keys (Needed lib main) → All (λ t. (t.after < length (nodes_among lib keys)) × (t.before < length (nodes_among lib keys))) edges → ((t : Edge) → Contains edges t ↔ TellsWant lib main keys (WantsTold extent lib keys) t) → (order : List ℕ) → IsOrder (graph_from (length (nodes_among lib keys)) edges) order → IsOrderBy (length (nodes_among lib keys)) (ComesAfter lib main keys) order
ordered_by Whole lib main keys edges lists within tells order is =
    in_order_of_all lib main keys edges within (λ t c. tells_edge Whole lib main keys t ((tells t).0 c)) (λ t edge. further t.after here (tie_is_step (length (nodes_among lib keys)) edges within t ((tells t).1 (whole_tells lib main keys t edge)))) order is
ordered_by Steps lib main keys edges lists within tells order is =
    in_order_of_all lib main keys edges within (λ t c. tells_edge Steps lib main keys t ((tells t).0 c)) (λ t edge. edge_reached lib main keys lists edges tells within t edge) order is
