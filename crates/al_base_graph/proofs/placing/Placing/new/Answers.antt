use Rattle.std.proofs.Common.{◌≡◌, ◌↔◌, ◌⊎◌, ℕ, ◌+◌, ◌<◌, List, [], length, get_or, subst, sym, ap, ◌∙◌, inl, inr, arith}
use Rattle.std.specs.List.{All, Contains}
use Rattle.std.proofs.lemmas.List.{length_push}
use Rattle.al_base_graph.specs.Graphs.{successors_of}
use Rattle.al_base_graph.specs.Placings.{IsPlacing}
use Rattle.al_base_graph.proofs.CloseLemmas.{counted_more, ready_more, IsPlacing-none, closed_more, closed_all}
use Rattle.al_base_graph.proofs.placing.Placing.new.Goals.{then-count-eq0+in_ok-add, else-count-eq0}
use Rattle.al_base_graph.proofs.placing.Placing.new.Goals as goal

pub loop-node-preserved : goal.loop-node-preserved
loop-node-preserved c =
    let g = c.args.graph.now in
    let n = c.loop-node.node in
    let now = c.loop-node.missing.items in
    let size : ℕ = length c.successors-count.result.now in
    let is : size ≡ length (successors_of g n) = ap length c.successors-count.ensures.value in
    let P : List ℕ → Type 0 = λ xs. (a : ℕ) → a < n + 1 → get_or xs a 0 ≡ length (successors_of g a) in
    let ready : (a : ℕ) → Contains c.if-count-eq0.ready.nodes.keys a ↔ ((a < n + 1) × (length (successors_of g a) ≡ 0)) =
    elim c.if-count-eq0.branch [
      | then-count-eq0+in_ok-add w ↦
          let Q : List ℕ → Type 0 = λ xs. (a : ℕ) → Contains xs a ↔ (Contains c.loop-node.ready.nodes.keys a ⊎ (n ≡ a)) in
          ready_more g n c.loop-node.ready.nodes.keys c.if-count-eq0.ready.nodes.keys size is c.loop-node.invariant.ready (inl (w.if-count-eq0.true, subst Q (sym (ap (λ r. r.nodes.keys) w.ready-is)) w.in_ok-add.ensures))
      | else-count-eq0 w ↦
          ready_more g n c.loop-node.ready.nodes.keys c.if-count-eq0.ready.nodes.keys size is c.loop-node.invariant.ready (inr (w.if-count-eq0.false, ap (λ r. r.nodes.keys) w.ready-is))
    ] in
    record {
      count = ap length c.in_ok-push.ensures.items ∙ length_push now size ∙ ap (λ k. k + 1) c.loop-node.invariant.count;
      missing = subst P (sym c.in_ok-push.ensures.items) (counted_more g n now size c.loop-node.invariant.count is c.loop-node.invariant.missing);
      closed = closed_more g n c.loop-node.invariant.closed (let R : List ℕ → Type 0 = λ xs. All (λ next. next < length g) xs in subst R c.successors-count.ensures.value c.successors-count.ensures.nodes);
      ready = ready;
    }

pub returns-clause-placing : goal.returns-clause-placing
returns-clause-placing c =
    let g = c.args.graph.now in
    let P : List ℕ → Type 0 = λ xs. IsPlacing g xs c.loop-node.missing.items c.loop-node.ready.nodes.keys in
    subst P (sym c.new.ensures.items) (IsPlacing-none g c.loop-node.missing.items c.loop-node.ready.nodes.keys c.loop-node.node (omega arith) (omega arith) c.loop-node.invariant.count c.loop-node.invariant.missing c.loop-node.invariant.ready)

pub returns-clause-closed : goal.returns-clause-closed
returns-clause-closed c = closed_all c.args.graph.now c.loop-node.node (omega arith) c.loop-node.invariant.closed
