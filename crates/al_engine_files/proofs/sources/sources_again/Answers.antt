use Rattle.std.proofs.Common.{◌≡◌, ap, sym, subst, ◌∙◌}
use Rattle.std.specs.Map.{keys_of}
use Rattle.al_unit_graph.specs.Headers.{Library}
use Rattle.al_engine.specs.GraphGraphs.{HaveSameHeaders}
use Rattle.al_engine.specs.Texts.{HaveTextsBut}
use Rattle.al_engine_files.proofs.OfTexts.{read_as_before}
use Rattle.al_engine_files.proofs.sources.sources_again.Goals as goal

pub returns-then-both-clause-edited : goal.returns-then-both-clause-edited
returns-then-both-clause-edited c =
    let b = c.both.ensures c.if-both.true in
    let before = c.args.before.now in
    let is = c.in_ok-read.ensures.sources in
    let edited = c.in_ok-read.read.edited in
    subst (λ (new : Library). HaveSameHeaders before new × HaveTextsBut before new edited) (sym is)
    (read_as_before before c.args.files.now edited (c.in_ok-are_same.ensures b.1 ∙ ap keys_of is) (c.in_ok-read.ensures.known b.0))
