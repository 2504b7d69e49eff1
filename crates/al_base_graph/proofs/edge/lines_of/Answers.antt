use Rattle.std.proofs.Common.{◌≡◌, ℕ, ◌+◌, ◌<◌, List, [], ◌∷◌, ◌++◌, Option, None, Some, length, get_or, subst, sym, ap, ◌∙◌, arith}
use Rattle.std.specs.List.{Contains, HoldsAt}
use Rattle.std.specs.Option.{MatchOption}
use Rattle.std.proofs.lemmas.List.{length_push, get_or_past, get_or_read, get_or_default}
use Rattle.al_base_graph.specs.Orders.{next_in}
use Rattle.al_base_graph.specs.Ties.{IsBetween, IsLine, AreLines}
use Rattle.al_base_graph.specs.declared.edge.Edge.{Edge}
use Rattle.al_base_graph.proofs.TieLemmas.{lines_more}
use Rattle.al_base_graph.proofs.edge.lines_of.Goals.{then-place-cycle, else-place-cycle, in-Some+in_ok-push, in_default}
use Rattle.al_base_graph.proofs.edge.lines_of.Goals as goal

pub loop-place-preserved : goal.loop-place-preserved
loop-place-preserved c =
    let edges = c.args.edges.now in
    let cycle = c.args.cycle.now in
    let place = c.loop-place.place in
    let next : c.if-place-cycle.next ≡ next_in cycle place =
    elim c.if-place-cycle.branch [
      | then-place-cycle v ↦ v.next-is ∙ get_or_default cycle (place + 1) 0 (get_or cycle 0 0) v.if-place-cycle.true
      | else-place-cycle v ↦ v.next-is ∙ sym (get_or_past cycle (place + 1) (get_or cycle 0 0) v.if-place-cycle.false)
    ] in
    elim c.match-line.branch [
      | in-Some+in_ok-push w ↦
          let P : ℕ → Type 0 = λ b. IsLine edges (get_or cycle place 0) b w.in-Some.edge in
          let Q : List Edge → Type 0 = λ xs. (i : ℕ) → i < place + 1 → HoldsAt (IsLine edges (get_or cycle i 0) (next_in cycle i)) xs i in
          let e : c.match-line.lines.items ≡ c.loop-place.lines.items ++ w.in-Some.edge ∷ [] = ap (λ v. v.items) w.lines-is ∙ w.in_ok-push.ensures.items in
          record {
            count = ap length e ∙ length_push c.loop-place.lines.items w.in-Some.edge ∙ ap (λ n. n + 1) c.loop-place.invariant.count;
            each = subst Q (sym e) (lines_more edges c.loop-place.lines.items cycle place w.in-Some.edge c.loop-place.invariant.count (subst P next w.in-Some.ensures) c.loop-place.invariant.each);
          }
      | in_default w ↦
          let r = c.requires place (omega arith) in
          let P : ℕ → Type 0 = λ b. IsBetween (get_or cycle place 0) b r.0 in
          absurd (w.in_default.ensures r.0 r.1 (subst P (sym next) r.2))
    ]

pub returns : goal.returns
returns c = record { count = c.loop-place.invariant.count ∙ (let e : c.loop-place.place ≡ length c.args.cycle.now = omega arith in e); each = λ i l. c.loop-place.invariant.each i (omega arith) }
