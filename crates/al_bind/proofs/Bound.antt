-- The binder's answer is one.
use Rattle.std.proofs.Common.{◌≡◌, ◌↔◌, inl, inr, ℕ, Bool, true, false, List, length, map, refl, sym, ap, subst, ◌∙◌}
use Rattle.std.specs.Ordering.{is_gt, ordering_reverse}
use Rattle.std.specs.Cmp.Lexicographic.{nat_list_cmp_total}
use Rattle.std.specs.List.{Contains}
use Rattle.std.specs.declared.cmp.Ordering.{Ordering}
use Rattle.std.specs.declared.cmp.Ordering.TheVariants.{Less, Equal, Greater}
use Rattle.std.proofs.lemmas.Map.Lookups.{exact_bytes}
use Rattle.al_base.specs.Batch.{Key}
use Rattle.al_base.specs.Files.{name_cmp}
use Rattle.al_base_graph.specs.Graphs.{Step}
use Rattle.al_base_graph.specs.Relations.{IsOrderBy}
use Rattle.al_base_graph.specs.Ties.{AreLines, IsFault, graph_from}
use Rattle.al_base_graph.specs.declared.edge.Edge.{Edge}
use Rattle.al_base_graph.proofs.LawLemmas.{one_cycle}
use Rattle.al_base_graph.proofs.TieLemmas.{step_tied}
use Rattle.al_unit_graph.specs.Headers.{Library}
use Rattle.al_unit_graph.specs.Needed.{ListsUnits, Needed}
use Rattle.al_unit_graph.specs.Orders.{key_cmp}
use Rattle.al_bind.specs.Binding.{IsBindFault, IsCycleOfItems, IsElaboration, items_at, line_of, line_model}
use Rattle.al_bind.specs.Faults.{IsComplete, IsLack}
use Rattle.al_bind.specs.Laws.{OrderExcludesCycle}
use Rattle.al_bind.specs.Missing.{IsLeastName}
use Rattle.al_bind.specs.Numbers.{AreNumbered, ComesAfter, TellsEdge, nodes_among}
use Rattle.al_bind.specs.declared.binding.BindFault.{BindFault}
use Rattle.al_bind.specs.declared.binding.BindFault.TheVariants.{Lacks, Cycle}
use Rattle.al_bind.specs.declared.lacking.MissingItem.{MissingItem}
use Rattle.al_bind.specs.declared.lacking.MissingItem.TheVariants as lack
use Rattle.al_bind.proofs.BindLemmas.{tie_is_step, ties_within}
use Rattle.al_bind.proofs.ExcludeLemmas.{excludes}
use Rattle.al_bind.proofs.PlaceLemmas.{key_exact, key_total}
use Rattle.al_bind.specs.Bound.{OneElaboration, OneFault, OrderOrFault, fault_model}
use Rattle.al_bind.proofs.Cycles.{cycle_same, one_list}
use Rattle.al_bind.proofs.Orders.{one_order_by, one_sorted}

-- ---- the units

one_list_of_units : (lib : Library) (main : List ℕ) (xs ys : List Key) → ListsUnits lib xs (Needed lib main) → ListsUnits lib ys (Needed lib main) → xs ≡ ys
one_list_of_units lib main xs ys x y =
    one_sorted key_cmp key_total key_exact xs ys x.ascend y.ascend (λ k. ((λ c. (y.all k).1 ((x.all k).0 c)), (λ c. (x.all k).1 ((y.all k).0 c))))

pub one_elaboration : OneElaboration
one_elaboration lib main one two x y =
    let keys : x.keys ≡ y.keys = one_list_of_units lib main x.keys y.keys x.lists y.lists in
    let P : List Key → Type 0 = λ ks. IsOrderBy (length (nodes_among lib ks)) (ComesAfter lib main ks) x.order in
    let order : x.order ≡ y.order = one_order_by (length (nodes_among lib y.keys)) (ComesAfter lib main y.keys) x.order y.order (subst P keys x.ordered) y.ordered in
    x.items_are ∙ ap (λ ks. items_at lib (nodes_among lib ks) x.order) keys ∙ ap (items_at lib (nodes_among lib y.keys)) order ∙ sym y.items_are

-- ---- what is missing

least_by : (n m : List ℕ) (o : Ordering) → name_cmp n m ≡ o → is_gt o ≡ false → is_gt (ordering_reverse o) ≡ false → n ≡ m
least_by n m Less is one two = absurd (cc)
least_by n m Equal is one two = exact_bytes n m is
least_by n m Greater is one two = absurd (cc)

one_least_name : (P : List ℕ → Type 0) (n m : List ℕ) → IsLeastName P n → IsLeastName P m → n ≡ m
one_least_name P n m one two =
    least_by n m (name_cmp n m) refl (one.least m two.holds) (sym (ap is_gt (nat_list_cmp_total.antisymm m n)) ∙ two.least n one.holds)

one_lack : (lib : Library) (main : List ℕ) (a b : MissingItem) → IsLack lib main a → IsLack lib main b → a ≡ b
one_lack lib main lack.Main lack.Main x y = refl
one_lack lib main lack.Main (lack.Body n) x y = let no : true ≡ false = sym y.0 ∙ x in absurd (cc)
one_lack lib main lack.Main (lack.Subunit n) x y = let no : true ≡ false = sym y.0 ∙ x in absurd (cc)
one_lack lib main (lack.Body n) lack.Main x y = let no : true ≡ false = sym x.0 ∙ y in absurd (cc)
one_lack lib main (lack.Body n) (lack.Body m) x y = ap (λ (k : List ℕ). lack.Body k) (one_least_name _ n m x.1 y.1)
one_lack lib main (lack.Body n) (lack.Subunit m) x y = absurd (y.1 n x.1.holds)
one_lack lib main (lack.Subunit n) lack.Main x y = let no : true ≡ false = sym x.0 ∙ y in absurd (cc)
one_lack lib main (lack.Subunit n) (lack.Body m) x y = absurd (x.1 m y.1.holds)
one_lack lib main (lack.Subunit n) (lack.Subunit m) x y = ap (λ (k : List ℕ). lack.Subunit k) (one_least_name _ n m x.2 y.2)

-- what is complete lacks nothing
nothing_lacks : (lib : Library) (main : List ℕ) (a : MissingItem) → IsComplete lib main → IsLack lib main a → ⊥
nothing_lacks lib main lack.Main whole x = let no : true ≡ false = sym whole.0 ∙ x in absurd (cc)
nothing_lacks lib main (lack.Body n) whole x = whole.1 n x.1.holds
nothing_lacks lib main (lack.Subunit n) whole x = whole.2 n x.2.holds

-- ---- cycles

module _ (lib : Library) (main : List ℕ) (keys : List Key) (edges others : List Edge) (one : AreNumbered lib main keys edges) (two : AreNumbered lib main keys others) where
  abbrev count : ℕ
  count = length (nodes_among lib keys)

  same_ties : (t : Edge) → Contains edges t ↔ Contains others t
  same_ties t = ((λ c. (two.tells t).1 ((one.tells t).0 c)), (λ c. (one.tells t).1 ((two.tells t).0 c)))

  step_over : (xs ys : List Edge) → AreNumbered lib main keys xs → AreNumbered lib main keys ys → (a b : ℕ) → Step (graph_from count xs) a b → Step (graph_from count ys) a b
  step_over xs ys x y a b step =
      let (t, c, between) = step_tied count xs (ties_within lib main keys xs (λ t c. (x.tells t).0 c)) a b step in
      let there = tie_is_step count ys (ties_within lib main keys ys (λ t c. (y.tells t).0 c)) t ((y.tells t).1 ((x.tells t).0 c)) in
      subst (λ (b : ℕ). Step (graph_from count ys) a b) between.1 (subst (λ (a : ℕ). Step (graph_from count ys) a t.before) between.0 there)

  same_steps : (a b : ℕ) → Step (graph_from count edges) a b ↔ Step (graph_from count others) a b
  same_steps a b = (step_over edges others one two a b, step_over others edges two one a b)

  pub one_shown : (xs ys : List Edge) → IsFault count edges xs → IsFault count others ys → xs ≡ ys
  one_shown xs ys x y =
      let cycle : x.0 ≡ y.0 = one_cycle (graph_from count others) x.0 y.0 (cycle_same (graph_from count edges) (graph_from count others) same_steps x.0 x.1) y.1 in
      one_list edges others same_ties y.0 xs ys (subst (λ (c : List ℕ). AreLines edges c xs) cycle x.2) y.2

pub one_fault : OneFault
one_fault lib main (Lacks a) (Lacks b) x y = ap inl (one_lack lib main a b x y)
one_fault lib main (Lacks a) (Cycle lines) x y = absurd (nothing_lacks lib main a y.complete x)
one_fault lib main (Cycle lines) (Lacks b) x y = absurd (nothing_lacks lib main b x.complete y)
one_fault lib main (Cycle lines) (Cycle others) x y =
    let keys : x.keys ≡ y.keys = one_list_of_units lib main x.keys y.keys x.numbered.lists y.numbered.lists in
    let numbered = subst (λ (ks : List Key). AreNumbered lib main ks x.edges) keys x.numbered in
    let fault = subst (λ (ks : List Key). IsFault (length (nodes_among lib ks)) x.edges x.shown) keys x.fault in
    let shown : x.shown ≡ y.shown = one_shown lib main y.keys x.edges y.edges numbered y.numbered x.shown y.shown fault y.fault in
    ap inr (x.lines_are ∙ ap (λ ks. map (line_of ks) x.shown) keys ∙ ap (map (line_of y.keys)) shown ∙ sym y.lines_are)

pub order_or_fault : OrderOrFault
order_or_fault lib main order (Lacks a) x y = nothing_lacks lib main a x.complete y
order_or_fault lib main order (Cycle lines) x y = excludes lib main order lines.items x y
