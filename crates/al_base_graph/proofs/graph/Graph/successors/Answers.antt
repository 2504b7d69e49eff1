use Rattle.std.proofs.Common.{ℕ, ◌<◌, ◌∙◌, List, length, subst, sym}
use Rattle.std.specs.List.{All}
use Rattle.al_base_graph.specs.Graphs.{successors_of}
use Rattle.al_base_graph.proofs.StepLemmas.{within_closed}
use Rattle.al_base_graph.proofs.ViewLemmas.{view_of, read_view, within_view}
use Rattle.al_base_graph.proofs.graph.Graph.successors.Goals as goal

pub returns-clause-nodes : goal.returns-clause-nodes
returns-clause-nodes c =
    let vs = c.self.inside.successors.items in
    let read = c.as_slice.ensures.value ∙ read_view vs c.args.node _ (within_view vs _ c.args.node c.self.view_is c.requires) c.index.ensures in
    let P : List ℕ → Type 0 = λ xs. All (λ next. next < length c.args.self.now) xs in
    let Q : List (List ℕ) → Type 0 = λ g. All (λ next. next < length g) (successors_of (view_of vs) c.args.node) in
    subst P (sym read) (subst Q c.self.view_is (within_closed (view_of vs) c.args.node c.self.invariant))
