-- Libraries with the same headers except for places have the same partitions: what these lack, their orders of elaboration and
-- their cycles.
use Rattle.std.proofs.Common.{◌≡◌, ℕ, false, not, ◌&&◌, List, [], ◌∷◌, ◌++◌, length, Some, refl, sym, subst, ◌∙◌, if◌then◌else◌}
use Rattle.std.specs.Option.{option_map_or}
use Rattle.std.specs.List.{Contains, filter, flat_map}
use Rattle.al_base.specs.Batch.{Key}
use Rattle.al_base.specs.declared.unit_key.UnitKind.TheVariants.{Decl, Body, Sub}
use Rattle.al_base_graph.specs.Relations.{IsFree, IsOrderBy}
use Rattle.al_base_graph.specs.Ties.{IsFault}
use Rattle.al_base_graph.specs.declared.edge.Edge.{Edge}
use Rattle.al_base_graph.specs.declared.edge.Reason.{Reason}
use Rattle.al_unit_graph.specs.Headers.{Header, Library}
use Rattle.al_unit_graph.specs.Library.{is_kind, unit_at}
use Rattle.al_unit_graph.specs.Dependence.{DependsOn, directly, through}
use Rattle.al_unit_graph.specs.Needed.{ListsUnits, Needed, main_unit, dependence, body, subunit}
use Rattle.al_bind.specs.Binding.{IsBindFault, IsCycleOfItems, IsElaboration, items_at, items_of, key_at}
use Rattle.al_bind.specs.Elaboration as elaborating
use Rattle.al_bind.specs.Elaboration.{Carries, Follows, IsItem, IsPartOf, Wants, is_pair, node_of, itself, depends, elaborate, elaborate_all_body, elaborate_all}
use Rattle.al_bind.specs.Faults.{HasBodies, IsComplete, IsLack}
use Rattle.al_bind.specs.Missing.{IsLeastName, LacksBody, LacksSubunit, is_main, lacks_body, missing_bodies, missing_stub, missing_stubs}
use Rattle.al_bind.specs.Numbers.{ComesAfter, IsAt, TellsEdge, is_node, nodes_among}
use Rattle.al_bind.specs.declared.binding.BindFault.{BindFault}
use Rattle.al_bind.specs.declared.binding.BindFault.TheVariants.{Lacks, Cycle}
use Rattle.al_bind.specs.declared.binding.Line.{Line}
use Rattle.al_bind.specs.declared.lacking.MissingItem.{MissingItem}
use Rattle.al_bind.specs.declared.lacking.MissingItem.TheVariants as lacks
use Rattle.al_engine.specs.GraphGraphs.{GraphsGoByHeaders, HaveSameHeaders, unplaced}
use Rattle.al_engine.proofs.SameFaults.{breaks, faultless, same_dependence, the_faults}
use Rattle.al_engine.proofs.SameUnits.{back, by_unit, is_a_unit, there_too, the_body_of, the_declaration, the_subunits_of, the_unit_at, what_directly}

-- what is equal in both
module _ (old new : Library) (same : HaveSameHeaders old new) where
  pair : (name : List ℕ) → is_pair old name ≡ is_pair new name
  pair name = λ i. by_unit old new same (λ h. h.has_elaborate_body) false (λ h. refl) (name, Decl) i && is_a_unit old new same (name, Body) i

  node : (key : Key) → node_of old key ≡ node_of new key
  node (name, Decl) = refl
  node (name, Body) = λ i. if pair name i then (name, Decl) else (name, Body)
  node (name, Sub) = refl

  is_a_node : (key : Key) → is_node old key ≡ is_node new key
  is_a_node (name, Decl) = refl
  is_a_node (name, Body) = λ i. not (pair name i)
  is_a_node (name, Sub) = refl

  nodes : (keys : List Key) → nodes_among old keys ≡ nodes_among new keys
  nodes keys = λ i. filter (λ k. is_a_node k i) keys

  items : (key : Key) → items_of old key ≡ items_of new key
  items (name, Decl) = λ i. (name, Decl) ∷ (if pair name i then (name, Body) ∷ [] else [])
  items (name, Body) = refl
  items (name, Sub) = refl

  all_items : (keys : List Key) (order : List ℕ) → items_at old keys order ≡ items_at new keys order
  all_items keys order = λ i. flat_map (λ n. items (key_at keys n) i) order

  main_is : (main : List ℕ) → is_main old main ≡ is_main new main
  main_is main = λ i.
      option_map_or (λ x. by_unit old new same (λ h. h.is_parameterless_procedure) false (λ h. refl) x i) (the_declaration old new same main i) false

  without_body : (x : Key) → lacks_body old x ≡ lacks_body new x
  without_body x = λ i.
      is_kind x.1 Decl && (by_unit old new same (λ h. h.needs_body) false (λ h. refl) x i && not (is_a_unit old new same (x.0, Body) i))

  bodies : (x : Key) → missing_bodies old x ≡ missing_bodies new x
  bodies x = λ i. if without_body x i then x.0 ∷ [] else []

  of_stub : (name stub : List ℕ) → missing_stub old name stub ≡ missing_stub new name stub
  of_stub name stub = λ i. if is_a_unit old new same (name ++ 46 ∷ stub, Sub) i then [] else (name ++ 46 ∷ stub) ∷ []

  stubs : (x : Key) → missing_stubs old x ≡ missing_stubs new x
  stubs x =
      (λ i. option_map_or (λ h. flat_map (λ stub. of_stub x.0 stub i) h.stubs) (unit_at old x) [])
      ∙ by_unit old new same (λ h. flat_map (missing_stub new x.0) h.stubs) [] (λ h. refl) x

-- what holds in one holds in the other
module _ (old new : Library) (same : HaveSameHeaders old new) where
  -- a unit of one is a unit of the other, except for places
  also : (key : Key) (h : Header) → unit_at old key ≡ Some h → (k : Header) × (unit_at new key ≡ Some k) × (unplaced h ≡ unplaced k)
  also key h is = there_too (unit_at old key) (unit_at new key) (the_unit_at old new same key) h is

  on : {x y : Key} → DependsOn old x y → DependsOn new x y
  on {x} {y} (directly c) = directly (subst (λ (ks : List Key). Contains ks y) (what_directly old new same x) c)
  on (through a b) = through (on a) (on b)

  needed : {main : List ℕ} {x : Key} → Needed old main x → Needed new main x
  needed {main} (main_unit is) = main_unit (sym (the_declaration old new same main) ∙ is)
  needed {main} (dependence {x = x} {y = y} n c) = dependence (needed n) (subst (λ (ks : List Key). Contains ks y) (what_directly old new same x) c)
  needed {main} (body {x = x} {y = y} n c) = body (needed n) (subst (λ (ks : List Key). Contains ks y) (the_body_of old new same x) c)
  needed {main} (subunit {x = x} {y = y} {h = h} n is c) =
      let k = also x h is in subunit (needed n) k.1 (subst (λ (ks : List Key). Contains ks y) (the_subunits_of old new same x.0 h k.0 k.2) c)

  item : {main : List ℕ} {x : Key} → IsItem old main x → IsItem new main x
  item {main} {x} is = (needed is.0, sym (is_a_unit old new same x) ∙ is.1, is.2)

  part : {x p : Key} → IsPartOf old x p → IsPartOf new x p
  part itself = itself
  part (elaborating.subunit {p = p} {q = q} {h = h} is at c) =
      let k = also p h at in elaborating.subunit (part is) k.1 (subst (λ (ks : List Key). Contains ks q) (the_subunits_of old new same p.0 h k.0 k.2) c)

  wants : {p y : Key} {reason : Reason} → Wants old p reason y → Wants new p reason y
  wants (depends d) = depends (on d)
  wants {p} (elaborate {q = q} {h = h} at c) = let k = also p h at in elaborate k.1 (subst (λ (u : Header). Contains u.elaborate q) k.2 c)
  wants {p} (elaborate_all_body {q = q} {h = h} at c) = let k = also p h at in elaborate_all_body k.1 (subst (λ (u : Header). Contains u.elaborate_all q) k.2 c)
  wants {p} (elaborate_all {q = q} {h = h} at c n) = let k = also p h at in elaborate_all k.1 (subst (λ (u : Header). Contains u.elaborate_all q) k.2 c) (needed n)

  carries : {main : List ℕ} {reason : Reason} {x y : Key} → Carries old main reason x y → Carries new main reason x y
  carries {main} {reason} {x} {y} is = record {
    after = item is.after;
    before = item is.before;
    follows = (is.follows.0, part is.follows.1, wants is.follows.2);
    apart = λ e. is.apart (node old new same x ∙ e ∙ sym (node old new same y));
  }

  node_at : (keys : List Key) (x : Key) (n : ℕ) → IsAt (nodes_among old keys) (node_of old x) n → IsAt (nodes_among new keys) (node_of new x) n
  node_at keys x n at = subst (λ (p : List Key × Key). IsAt p.0 p.1 n) (λ i. (nodes old new same keys i, node old new same x i)) at

  tells : {main : List ℕ} {keys : List Key} {edge : Edge} → TellsEdge old main keys edge → TellsEdge new main keys edge
  tells {main} {keys} {edge} is = record {
    x = is.x;
    y = is.y;
    carries = carries is.carries;
    x_at = is.x_at;
    y_at = is.y_at;
    after_at = node_at keys is.x edge.after is.after_at;
    before_at = node_at keys is.y edge.before is.before_at;
  }

  comes : {main : List ℕ} {keys : List Key} {a b : ℕ} → ComesAfter old main keys a b → ComesAfter new main keys a b
  comes is = (is.0, tells is.1, is.2)

  lacking_body : {main name : List ℕ} → LacksBody old main name → LacksBody new main name
  lacking_body {main} {name} is = (is.0, needed is.1, subst (λ (ns : List (List ℕ)). Contains ns name) (bodies old new same is.0) is.2)

  lacking_subunit : {main name : List ℕ} → LacksSubunit old main name → LacksSubunit new main name
  lacking_subunit {main} {name} is = (is.0, needed is.1, subst (λ (ns : List (List ℕ)). Contains ns name) (stubs old new same is.0) is.2)

-- a relation that holds of the same numbers orders them in the same way
free : (B C : ℕ → ℕ → Type 0) → ((a b : ℕ) → C a b → B a b) → (count : ℕ) (there : List ℕ) (a : ℕ) → IsFree count B there a → IsFree count C there a
free B C from count there a is = (is.0, is.1, λ b before. is.2 b (from a b before))

ordered_by : (count : ℕ) (B C : ℕ → ℕ → Type 0) → ((a b : ℕ) → B a b → C a b) → ((a b : ℕ) → C a b → B a b) → (order : List ℕ) → IsOrderBy count B order → IsOrderBy count C order
ordered_by count B C to from order is = record {
  all = is.all;
  takes_least = λ i below.
      let least = is.takes_least i below in
      (free B C from count _ _ least.0, λ b f. least.1 b (free C B to count _ b f));
}

least_name : (P Q : List ℕ → Type 0) → ((name : List ℕ) → P name → Q name) → ((name : List ℕ) → Q name → P name) → (name : List ℕ) → IsLeastName P name → IsLeastName Q name
least_name P Q to from name is = record { holds = to name is.holds; least = λ other so. is.least other (from other so) }

module _ (old new : Library) (same : HaveSameHeaders old new) where
  lists : {main : List ℕ} {keys : List Key} → ListsUnits old keys (Needed old main) → ListsUnits new keys (Needed new main)
  lists {main} {keys} is = record {
    ascend = is.ascend;
    all = λ y. (
      (λ c. let so = (is.all y).0 c in (needed old new same so.0, sym (is_a_unit old new same y) ∙ so.1)),
      (λ so. (is.all y).1 (needed new old (back old new same) so.0, is_a_unit old new same y ∙ so.1)),
    );
  }

  has_bodies : {main : List ℕ} → HasBodies old main → HasBodies new main
  has_bodies has name lacking = has name (lacking_body new old (back old new same) lacking)

  complete : {main : List ℕ} → IsComplete old main → IsComplete new main
  complete {main} is = (
    sym (main_is old new same main) ∙ is.0,
    has_bodies is.1,
    λ name lacking. is.2 name (lacking_subunit new old (back old new same) lacking),
  )

  same_lack : (main : List ℕ) (lack : MissingItem) → IsLack old main lack → IsLack new main lack
  same_lack main lacks.Main is = sym (main_is old new same main) ∙ is
  same_lack main (lacks.Body name) is = (
    sym (main_is old new same main) ∙ is.0,
    least_name (LacksBody old main) (LacksBody new main) (λ n l. lacking_body old new same l) (λ n l. lacking_body new old (back old new same) l) name is.1,
  )
  same_lack main (lacks.Subunit name) is = (
    sym (main_is old new same main) ∙ is.0,
    has_bodies is.1,
    least_name (LacksSubunit old main) (LacksSubunit new main) (λ n l. lacking_subunit old new same l) (λ n l. lacking_subunit new old (back old new same) l) name is.2,
  )

  same_elaboration : (main : List ℕ) (all : List Key) → IsElaboration old main all → IsElaboration new main all
  same_elaboration main all is = record {
    complete = complete is.complete;
    keys = is.keys;
    lists = lists is.lists;
    order = is.order;
    ordered =
        ordered_by (length (nodes_among new is.keys)) (ComesAfter old main is.keys) (ComesAfter new main is.keys) (λ a b c. comes old new same c) (λ a b c. comes new old (back old new same) c) is.order
        (subst (λ (ks : List Key). IsOrderBy (length ks) (ComesAfter old main is.keys) is.order) (nodes old new same is.keys) is.ordered);
    items_are = is.items_are ∙ (λ i. items_at old (nodes old new same is.keys i) is.order) ∙ all_items old new same (nodes_among new is.keys) is.order;
  }

  same_cycle : (main : List ℕ) (lines : List Line) → IsCycleOfItems old main lines → IsCycleOfItems new main lines
  same_cycle main lines is = record {
    complete = complete is.complete;
    keys = is.keys;
    edges = is.edges;
    numbered = record {
      lists = lists is.numbered.lists;
      tells = λ t. (
        (λ c. tells old new same ((is.numbered.tells t).0 c)),
        (λ so. (is.numbered.tells t).1 (tells new old (back old new same) so)),
      );
    };
    shown = is.shown;
    fault = subst (λ (ks : List Key). IsFault (length ks) is.edges is.shown) (nodes old new same is.keys) is.fault;
    lines_are = is.lines_are;
  }

  same_fault : (main : List ℕ) (fault : BindFault) → IsBindFault old main fault → IsBindFault new main fault
  same_fault main (Lacks lack) is = same_lack main lack is
  same_fault main (Cycle lines) is = same_cycle main lines.items is

pub graphs_go_by_headers : GraphsGoByHeaders
graphs_go_by_headers old new same = record {
  units = the_unit_at old new same;
  dependences = what_directly old new same;
  faultless = faultless old new same;
  breaks = breaks old new same;
  faults = the_faults old new same;
  dependence = same_dependence old new same;
  elaboration = same_elaboration old new same;
  bind_fault = same_fault old new same;
}
