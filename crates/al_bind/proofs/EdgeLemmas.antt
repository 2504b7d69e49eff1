-- The ties that are listed are those of the edges.
use Rattle.std.proofs.Common.{◌≡◌, ◌↔◌, ◌⊎◌, inl, inr, ℕ, List, [], map, refl, sym, subst, ◌∙◌}
use Rattle.std.specs.List.{Contains}
use Rattle.std.specs.List.Sorted.{IsStrictlySortedBy}
use Rattle.std.proofs.lemmas.List.{get_or_default}
use Rattle.std.proofs.lemmas.List.Kept.{IsStrictlySortedBy-filter}
use Rattle.al_base.specs.Batch.{Key, key_of}
use Rattle.al_base.specs.declared.unit_key.UnitKey.{UnitKey}
use Rattle.al_base_graph.specs.declared.edge.Edge.{Edge}
use Rattle.al_base_graph.specs.declared.edge.Reason.{Reason}
use Rattle.al_base_graph.proofs.Members.{nowhere}
use Rattle.al_unit_graph.specs.Headers.{Library}
use Rattle.al_unit_graph.specs.Needed.{ListsUnits, Needed}
use Rattle.al_unit_graph.specs.Orders.{key_cmp}
use Rattle.al_unit_graph.proofs.Lists.{from_map, into_map}
use Rattle.al_bind.specs.Elaboration.{IsPartOf, node_of}
use Rattle.al_bind.specs.Numbers.{Adds, IsAt, IsEnd, OneOf, TellsWant, TiesBy, TiesFrom, is_node, nodes_among}
use Rattle.al_bind.specs.declared.places.End.{End}
use Rattle.al_bind.proofs.TieLemmas.{adds_by, adds_none, adds_same, one_place}

module _ (lib : Library) (keys : List Key) (W : Key → Reason → Key → Type 0) (key : Key) where
  pub item_none : (old : List Edge) → ((end : End) → IsEnd lib keys key end → ⊥) → Adds old old (TiesFrom lib keys W key)
  item_none old none = adds_none old (TiesFrom lib keys W key) (λ t from. none from.end from.is_end)

  -- a part requires it
  abbrev ByPart : Reason → Key → Type 0
  ByPart r y = (p : Key) × IsPartOf lib key p × W p r y

  module _ (sorted : IsStrictlySortedBy key_cmp keys) (x : End) (is_end : IsEnd lib keys key x) where
    from_here : (t : Edge) → TiesFrom lib keys W key t → TiesBy lib keys x (λ r y. (p : Key) × IsPartOf lib key p × W p r y) t
    from_here t from =
        let (y, follows, to) = from.edges in
        let item : from.end.item ≡ x.item = one_place keys key from.end.item x.item sorted from.is_end.item_at is_end.item_at in
        let node : from.end.node ≡ x.node = one_place (nodes_among lib keys) (node_of lib key) from.end.node x.node (IsStrictlySortedBy-filter key_cmp (is_node lib) keys sorted) from.is_end.node_at is_end.node_at in
        (y, follows, record { y_kind = to.y_kind; x_is = to.x_is ∙ item; after_is = to.after_is ∙ node; y_at = to.y_at; before_at = to.before_at; apart = to.apart })

    pub item_some : (parts : List UnitKey) (old new : List Edge) → ((p : Key) → Contains (map key_of parts) p ↔ IsPartOf lib key p) → Adds old new (OneOf parts (λ p. TiesBy lib keys x (W (key_of p)))) → Adds old new (TiesFrom lib keys W key)
    item_some parts old new all adds =
        adds_same old new (TiesBy lib keys x ByPart) (TiesFrom lib keys W key)
        (adds_by lib keys x parts (λ p. W (key_of p)) ByPart old new adds (λ r y c. (
          (λ h. (key_of h.0, (all (key_of h.0)).0 (into_map key_of parts h.0 h.1), h.2)),
          (λ h. let f = from_map key_of parts h.0 ((all h.0).1 h.1) in (f.0, f.1, subst (λ (p : Key). W p r y) (sym f.2) h.2)),
        )))
        (λ t. ((λ by. record { end = x; is_end = is_end; edges = by }), from_here t))

-- what is at one place is the same
pub same_at : (ks : List Key) (a b : Key) (i : ℕ) → IsAt ks a i → IsAt ks b i → a ≡ b
same_at ks a b i at too = sym at.1 ∙ get_or_default ks i a b at.0 ∙ too.1

module _ (lib : Library) (main : List ℕ) (items : List UnitKey) (W : Key → Reason → Key → Type 0) (sorted : IsStrictlySortedBy key_cmp (map key_of items)) (lists : ListsUnits lib (map key_of items) (Needed lib main)) where
  abbrev keys : List Key
  keys = map key_of items

  tells : (t : Edge) → OneOf items (λ k. TiesFrom lib keys W (key_of k)) t → TellsWant lib main keys W t
  tells t (k, c, from) =
      let x = key_of k in
      let (y, follows, to) = from.edges in
      let needed = (lists.all x).0 (into_map key_of items k c) in
      let wanted = (lists.all y).0 (t.y, to.y_at.0, to.y_at.1) in
      let x_at = subst (λ (i : ℕ). IsAt keys x i) (sym to.x_is) from.is_end.item_at in
      let after_at = subst (λ (i : ℕ). IsAt (nodes_among lib keys) (node_of lib x) i) (sym to.after_is) from.is_end.node_at in
      record {
        x = x;
        y = y;
        after = (needed.0, needed.1, from.is_end.item_kind);
        before = (wanted.0, wanted.1, to.y_kind);
        part = follows.0;
        is_part = follows.1;
        wants = follows.2;
        apart = λ e. to.apart (one_place (nodes_among lib keys) (node_of lib x) t.after t.before (IsStrictlySortedBy-filter key_cmp (is_node lib) keys sorted) after_at (subst (λ (n : Key). IsAt (nodes_among lib keys) n t.before) (sym e) to.before_at));
        x_at = x_at;
        y_at = to.y_at;
        after_at = after_at;
        before_at = to.before_at;
      }

  told : (t : Edge) → TellsWant lib main keys W t → OneOf items (λ k. TiesFrom lib keys W (key_of k)) t
  told t edge =
      let f = from_map key_of items edge.x (t.x, edge.x_at.0, edge.x_at.1) in
      let from : TiesFrom lib keys W edge.x t = record {
        end = record { item = t.x; node = t.after };
        is_end = record { item_kind = edge.after.2; item_at = edge.x_at; node_at = edge.after_at };
        edges = (
          edge.y,
          (edge.part, edge.is_part, edge.wants),
          record {
            y_kind = edge.before.2;
            x_is = refl;
            after_is = refl;
            y_at = edge.y_at;
            before_at = edge.before_at;
            apart = λ e. edge.apart (same_at (nodes_among lib keys) (node_of lib edge.x) (node_of lib edge.y) t.after edge.after_at (subst (λ (i : ℕ). IsAt (nodes_among lib keys) (node_of lib edge.y) i) (sym e) edge.before_at));
          },
        );
      } in
      (f.0, f.1, subst (λ (k : Key). TiesFrom lib keys W k t) (sym f.2) from)

  some_or_none : (t : Edge) → (P : Type 0) → Contains [] t ⊎ P → P
  some_or_none t P (inl c) = absurd (nowhere t c)
  some_or_none t P (inr p) = p

pub all_edges : (lib : Library) (main : List ℕ) (items : List UnitKey) (W : Key → Reason → Key → Type 0) (edges : List Edge) → IsStrictlySortedBy key_cmp (map key_of items) → ListsUnits lib (map key_of items) (Needed lib main) → Adds [] edges (OneOf items (λ k. TiesFrom lib (map key_of items) W (key_of k))) → (t : Edge) → Contains edges t ↔ TellsWant lib main (map key_of items) W t
all_edges lib main items W edges sorted lists adds t = (
  (λ c. tells lib main items W sorted lists t (some_or_none lib main items W sorted lists t (OneOf items (λ k. TiesFrom lib (map key_of items) W (key_of k)) t) ((adds.each t).0 c))),
  (λ edge. (adds.each t).1 (inr (told lib main items W sorted lists t edge))),
)
