use Rattle.std.proofs.Common.{◌≡◌, ◌↔◌, ℕ, ◌<◌, List, Result, Ok, Err, Vec, Global, length, map, sym, ap, subst, ◌∙◌, arith}
use Rattle.std.specs.List.{All, Contains}
use Rattle.std.specs.Result.{MatchResult}
use Rattle.std.proofs.lemmas.Grind.{common_steps}
use Rattle.std.proofs.lemmas.List.{length-map}
use Rattle.al_base.specs.Batch.{Key, key_of}
use Rattle.al_base.specs.declared.unit_key.UnitKey.{UnitKey}
use Rattle.al_base_graph.specs.Orders.{IsOrdered}
use Rattle.al_base_graph.specs.Ties.{IsFault, graph_from}
use Rattle.al_base_graph.specs.declared.edge.Edge.{Edge}
use Rattle.al_unit_graph.specs.Headers.{Library}
use Rattle.al_bind.specs.Binding.{items_at, line_of, line_model}
use Rattle.al_bind.specs.Numbers.{TellsEdge, TellsWant, nodes_among}
use Rattle.al_bind.specs.Steps.{WantsTold}
use Rattle.al_bind.specs.declared.edges.Extent.{Extent}
use Rattle.al_bind.specs.declared.edges.Extent.TheVariants.{Whole}
use Rattle.al_bind.proofs.BindLemmas.{order_within, shown_within, ties_within}
use Rattle.al_bind.proofs.StepLemmas.{ordered_by, tells_edge, whole_tells}
use Rattle.al_bind.proofs.binding.bound_by.Goals as goal

-- what is known of the answer of order_of_ties, if it counts as many nodes
abbrev Bound : List Edge → ℕ → Result (Vec ℕ Global) (Vec Edge Global) → Type 0
Bound edges count r = MatchResult r (λ order. IsOrdered (graph_from count edges) order.items) (λ shown. IsFault count edges shown.items)

at_bound : (edges told : List Edge) (count size : ℕ) (r s : Result (Vec ℕ Global) (Vec Edge Global)) → told ≡ edges → size ≡ count → r ≡ s → Bound told size r → Bound edges count s
at_bound edges told count size r s same sized is bound = subst (λ (ts : List Edge). Bound ts count s) same (subst (λ (n : ℕ). Bound told n s) sized (subst (λ (q : Result (Vec ℕ Global) (Vec Edge Global)). Bound told size q) is bound))

-- what the ties represent
each_tells : (extent : Extent) (lib : Library) (main : List ℕ) (keys : List Key) (edges : List Edge) → ((t : Edge) → Contains edges t ↔ TellsWant lib main keys (WantsTold extent lib keys) t) → (t : Edge) → Contains edges t → TellsEdge lib main keys t
each_tells extent lib main keys edges tells t c = tells_edge extent lib main keys t ((tells t).0 c)

all_edges : (extent : Extent) (lib : Library) (main : List ℕ) (keys : List Key) (edges : List Edge) → ((t : Edge) → Contains edges t ↔ TellsWant lib main keys (WantsTold extent lib keys) t) → extent ≡ Whole → (t : Edge) → Contains edges t ↔ TellsEdge lib main keys t
all_edges extent lib main keys edges tells is t =
    (each_tells extent lib main keys edges tells t, λ edge. (tells t).1 (subst (λ (e : Extent). TellsWant lib main keys (WantsTold e lib keys) t) (sym is) (whole_tells lib main keys t edge)))

size_of : (nodes : List UnitKey) (those : List Key) → map key_of nodes ≡ those → length nodes ≡ length those
size_of nodes those is = sym (length-map nodes key_of) ∙ ap (λ (ks : List Key). length ks) is

pub order_of_ties-requires : goal.order_of_ties-requires
order_of_ties-requires c =
    let lib = c.args.sources.now in
    let places = c.args.places.now in
    let keys = map key_of places.keys.items in
    let ok = places.nodes.ok in
    let size = size_of places.nodes.items (nodes_among lib keys) c.requires.places.nodes in
    let count : length (nodes_among lib keys) ≡ c.len.result = grind (arith, common_steps, c.len.ensures, ok, size) in
    let edges = c.in_ok-edges.edges.items in
    let within = ties_within lib c.args.main.now keys edges (each_tells c.args.extent lib c.args.main.now keys edges c.in_ok-edges.ensures) in
    let sized = subst (λ (n : ℕ). All (λ t. (t.after < n) × (t.before < n)) edges) count within in
    subst (λ (ts : List Edge). All (λ t. (t.after < c.len.result) × (t.before < c.len.result)) ts) (sym c.deref.ensures.value) sized

pub items_at-requires : goal.items_at-requires
items_at-requires c =
    let nodes = c.args.places.now.nodes.items in
    let edges = c.in_ok-edges.edges.items in
    let ok = c.args.places.now.nodes.ok in
    let count : c.len.result ≡ length nodes = grind (arith, common_steps, c.len.ensures, ok) in
    let is : Bound edges (length nodes) (Ok c.in-Ok.order) = at_bound edges c.deref.result.now (length nodes) c.len.result c.in_ok-order.field-0 (Ok c.in-Ok.order) c.deref.ensures.value count c.in-Ok.is c.in_ok-order.ensures in
    let within = order_within (length nodes) edges c.in-Ok.order.items is.0 in
    let there = subst (λ (ns : List UnitKey). All (λ i. i < length ns) c.in-Ok.order.items) (sym c.deref-in-Ok.ensures.value) within in
    subst (λ (os : List ℕ). All (λ i. i < length c.deref-in-Ok.result.now) os) (sym c.deref-in-Ok-2.ensures.value) there

pub returns-in-Ok : goal.returns-in-Ok
returns-in-Ok c =
    let lib = c.args.sources.now in
    let main = c.args.main.now in
    let places = c.args.places.now in
    let keys = map key_of places.keys.items in
    let nodes = nodes_among lib keys in
    let edges = c.in_ok-edges.edges.items in
    let ok = places.nodes.ok in
    let size = size_of places.nodes.items nodes c.requires.places.nodes in
    let count : c.len.result ≡ length nodes = grind (arith, common_steps, c.len.ensures, ok, size) in
    let is : Bound edges (length nodes) (Ok c.in-Ok.order) = at_bound edges c.deref.result.now (length nodes) c.len.result c.in_ok-order.field-0 (Ok c.in-Ok.order) c.deref.ensures.value count c.in-Ok.is c.in_ok-order.ensures in
    let items : map key_of c.in_ok-items-in-Ok.items.items ≡ items_at lib nodes c.in-Ok.order.items =
    c.in_ok-items-in-Ok.ensures
    ∙ ap (λ (ns : List UnitKey). items_at lib (map key_of ns) c.deref-in-Ok-2.result.now) c.deref-in-Ok.ensures.value
    ∙ ap (λ (os : List ℕ). items_at lib (map key_of places.nodes.items) os) c.deref-in-Ok-2.ensures.value
    ∙ ap (λ (ns : List Key). items_at lib ns c.in-Ok.order.items) c.requires.places.nodes in
    record {
      complete = c.requires.complete;
      keys = keys;
      lists = c.requires.lists;
      order = c.in-Ok.order.items;
      ordered = ordered_by c.args.extent lib main keys edges c.requires.lists (ties_within lib main keys edges (each_tells c.args.extent lib main keys edges c.in_ok-edges.ensures)) c.in_ok-edges.ensures c.in-Ok.order.items is.0;
      items_are = items;
    }

pub lines_of-requires : goal.lines_of-requires
lines_of-requires c =
    let lib = c.args.sources.now in
    let items = c.args.places.now.keys.items in
    let edges = c.in_ok-edges.edges.items in
    let shown = c.in-Err.shown.items in
    let is : Bound edges c.len.result (Err c.in-Err.shown) = at_bound edges c.deref.result.now c.len.result c.len.result c.in_ok-order.field-0 (Err c.in-Err.shown) c.deref.ensures.value (λ i. c.len.result) c.in-Err.is c.in_ok-order.ensures in
    let within = shown_within lib c.args.main.now (map key_of items) edges (each_tells c.args.extent lib c.args.main.now (map key_of items) edges c.in_ok-edges.ensures) c.len.result shown is in
    let sized = subst (λ (n : ℕ). All (λ t. (t.x < n) × (t.y < n)) shown) (length-map items key_of) within in
    let there = subst (λ (ks : List UnitKey). All (λ t. (t.x < length ks) × (t.y < length ks)) shown) (sym c.deref-in-Err.ensures.value) sized in
    subst (λ (ts : List Edge). All (λ t. (t.x < length c.deref-in-Err.result.now) × (t.y < length c.deref-in-Err.result.now)) ts) (sym c.deref-in-Err-2.ensures.value) there

pub returns : goal.returns
returns c =
    let lib = c.args.sources.now in
    let main = c.args.main.now in
    let places = c.args.places.now in
    let keys = map key_of places.keys.items in
    let nodes = nodes_among lib keys in
    let edges = c.in_ok-edges.edges.items in
    let ok = places.nodes.ok in
    let size = size_of places.nodes.items nodes c.requires.places.nodes in
    let count : c.len.result ≡ length nodes = grind (arith, common_steps, c.len.ensures, ok, size) in
    let is : Bound edges (length nodes) (Err c.in-Err.shown) = at_bound edges c.deref.result.now (length nodes) c.len.result c.in_ok-order.field-0 (Err c.in-Err.shown) c.deref.ensures.value count c.in-Err.is c.in_ok-order.ensures in
    let lines : map line_model c.in_ok-lines-in-Err.lines.items ≡ map (line_of keys) c.in-Err.shown.items =
    c.in_ok-lines-in-Err.ensures
    ∙ ap (λ (ks : List UnitKey). map (line_of (map key_of ks)) c.deref-in-Err-2.result.now) c.deref-in-Err.ensures.value
    ∙ ap (λ (ts : List Edge). map (line_of keys) ts) c.deref-in-Err-2.ensures.value in
    λ whole. record {
      complete = c.requires.complete;
      keys = keys;
      edges = edges;
      numbered = record { lists = c.requires.lists; tells = all_edges c.args.extent lib main keys edges c.in_ok-edges.ensures whole };
      shown = c.in-Err.shown.items;
      fault = is;
      lines_are = lines;
    }
