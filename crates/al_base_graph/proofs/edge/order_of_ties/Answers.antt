use Rattle.std.proofs.Common.{◌≡◌, ℕ, ◌<◌, List, Vec, Global, Result, Ok, Err, length, get_or, subst, sym, ap, ◌∙◌}
use Rattle.std.specs.List.{Contains}
use Rattle.std.specs.Result.{MatchResult}
use Rattle.al_base_graph.specs.Orders.{IsOrdered, IsCycle, next_in}
use Rattle.al_base_graph.specs.Ties.{IsBetween, graph_from}
use Rattle.al_base_graph.specs.declared.edge.Edge.{Edge}
use Rattle.al_base_graph.specs.declared.cycle.Cycle.{Cycle}
use Rattle.al_base_graph.proofs.TieLemmas.{cycle_tied}
use Rattle.al_base_graph.proofs.edge.order_of_ties.Goals as goal

abbrev Ordered : List (List ℕ) → Result (Vec ℕ Global) Cycle → Type 0
Ordered g r = MatchResult r (λ order. IsOrdered g order.items) (λ cycle. IsCycle g cycle.nodes.items)

at_result : (g h : List (List ℕ)) (r s : Result (Vec ℕ Global) Cycle) → g ≡ h → r ≡ s → Ordered g r → Ordered h s
at_result g h r s e f is = let P : List (List ℕ) → Type 0 = λ k. Ordered k s in subst P e (subst (Ordered g) f is)

pub returns-in-Ok : goal.returns-in-Ok
returns-in-Ok c = at_result _ _ _ (Ok c.in-Ok.order) c.in_ok-graph.ensures c.in-Ok.is c.in_ok-order.ensures

pub lines_of-requires : goal.lines_of-requires
lines_of-requires c =
    let P : List ℕ → Type 0 = λ xs. (i : ℕ) → i < length xs → (t : Edge) × Contains c.args.edges.now t × IsBetween (get_or xs i 0) (next_in xs i) t in
    let is : IsCycle (graph_from c.args.count c.args.edges.now) c.in-Err.cycle.nodes.items = at_result _ _ _ (Err c.in-Err.cycle) c.in_ok-graph.ensures c.in-Err.is c.in_ok-order.ensures in
    subst P (sym c.deref.ensures.value) (cycle_tied c.args.count c.args.edges.now c.requires c.in-Err.cycle.nodes.items is)
