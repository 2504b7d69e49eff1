use Rattle.std.proofs.Common.{◌≡◌, ℕ, ◌+◌, ◌<◌, List, [], ◌∷◌, ◌++◌, Option, Some, length, get_or, take, subst, sym, ap, ◌∙◌, arith}
use Rattle.std.proofs.lemmas.List.{take_more, take_all}
use Rattle.al_base_graph.specs.Ties.{IsBetween, IsLine}
use Rattle.al_base_graph.specs.declared.edge.Edge.{Edge}
use Rattle.al_base_graph.proofs.TieLemmas.{zero_tie, IsSoFar, so_far_other, so_far_more}
use Rattle.al_base_graph.proofs.edge.line.Goals.{then-edge-after+then-edge-before, else-edge-after, else-edge-after-via-then-edge-after+else-edge-before, else-edge-after-via-else-edge-after}
use Rattle.al_base_graph.proofs.edge.line.Goals as goal

pub loop-edge-preserved : goal.loop-edge-preserved
loop-edge-preserved c =
    let edges = c.args.edges.now in
    let i = c.loop-edge.edge-index in
    let l : i < length edges = omega arith in
    let t : Edge = get_or edges i zero_tie in
    let so_far = take i edges in
    let P : List Edge → Type 0 = λ xs. IsSoFar xs c.args.after c.args.before c.if-edge-after.least in
    let Q : Option Edge → Type 0 = λ o. IsSoFar (take i edges ++ t ∷ []) c.args.after c.args.before o in
    let not : (IsBetween c.args.after c.args.before t → ⊥) → c.if-edge-after.least ≡ c.loop-edge.least → P (take i edges ++ t ∷ []) =
    λ n e. subst Q (sym e) (so_far_other so_far c.args.after c.args.before t c.loop-edge.least n c.loop-edge.invariant) in
    subst P (sym (take_more edges i zero_tie l)) (
    elim c.if-edge-after.branch [
      | then-edge-after+then-edge-before w ↦
          subst Q (sym w.least-is) (so_far_more so_far c.args.after c.args.before t c.loop-edge.least w.first_of.result (w.if-edge-after.true, w.if-edge-before.true) c.loop-edge.invariant w.first_of.ensures)
      | else-edge-after w ↦ not (
          elim w.else-edge-after.branch [
            | else-edge-after-via-then-edge-after+else-edge-before v ↦ λ b. v.if-edge-before.false b.1
            | else-edge-after-via-else-edge-after v ↦ λ b. v.if-edge-after.false b.0
          ]) w.least-is
    ])

pub returns : goal.returns
returns c =
    let P : List Edge → Type 0 = λ xs. IsSoFar xs c.args.after c.args.before c.loop-edge.least in
    subst P (take_all c.loop-edge.edge-index c.args.edges.now (omega arith)) c.loop-edge.invariant
