use Rattle.std.proofs.Common.{◌&&◌, sym, ◌∙◌}
use Rattle.std.specs.Option.{option_map}
use Rattle.al_unit_graph.proofs.BoolLemmas.{and}
use Rattle.al_unit_faults.specs.Private.{descends_below, is_private}
use Rattle.al_unit_faults.proofs.UnitLemmas.{any_name}
use Rattle.al_unit_faults.proofs.private.has_private_below.Goals as goal

pub returns-then-branch : goal.returns-then-branch
returns-then-branch c =
    any_name (λ n. is_private c.args.sources.now n && descends_below n (option_map (λ a. a.now) c.args.ancestor)) (λ n. n.now) c.args.names.now c.loop-name.name-index _ c.loop-name-test.true
    (and _ _ (sym c.is_private.ensures ∙ c.if-is_private.true) (sym c.in_ok-descends_below.ensures ∙ c.if-branch.true))
