use Rattle.std.proofs.Common.{sym, ◌∙◌}
use Rattle.al_unit_graph.specs.Views.{header_model}
use Rattle.al_unit_faults.specs.Private.{is_hidden}
use Rattle.al_unit_faults.proofs.UnitLemmas.{any_name}
use Rattle.al_unit_faults.proofs.private.has_hidden.Goals as goal

pub returns-then-branch : goal.returns-then-branch
returns-then-branch c =
    any_name (is_hidden c.args.sources.now (header_model c.args.header.now)) (λ n. n.now) c.args.names.now c.loop-name.name-index _ c.loop-name-test.true (sym c.in_ok-is_hidden.ensures ∙ c.if-branch.true)
