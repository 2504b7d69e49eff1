use Rattle.std.proofs.Common.{◌<◌, length, subst, sym}
use Rattle.std.specs.List.{All}
use Rattle.al_base_graph.specs.Graphs.{Marks, ReachesSome}
use Rattle.al_unit_faults.proofs.WantedLemmas.{goals_within, marks_touched}
use Rattle.al_unit_faults.proofs.obsolete_units.touched.Goals as goal

pub reaching-requires : goal.reaching-requires
reaching-requires c =
    let w = c.in_ok-wanted.wanted in
    let g = c.in_ok-graph.graph in
    subst (λ xs. All (λ a. a < length g) xs) (sym c.as_slice.ensures.value)
    (goals_within c.args.now.now w.names.items w.steps.items g c.in_ok-wanted.ensures.wanted c.in_ok-graph.ensures.steps c.args.built.now c.in_ok-changed.changed.items c.in_ok-changed.ensures (length g) c.in_ok-graph.ensures.count)

pub returns : goal.returns
returns c =
    let w = c.in_ok-wanted.wanted in
    let g = c.in_ok-graph.graph in
    let flags = c.in_ok-flags.flags.items in
    let marks = subst (λ xs. Marks flags (length g) (ReachesSome g xs)) c.as_slice.ensures.value c.in_ok-flags.ensures in
    marks_touched c.args.now.now w.names.items w.steps.items g c.in_ok-wanted.ensures.wanted c.in_ok-graph.ensures.steps c.args.built.now c.in_ok-changed.changed.items c.in_ok-changed.ensures _ flags c.in_ok-wanted.ensures.names c.in_ok-graph.ensures.count marks
