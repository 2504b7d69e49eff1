use Rattle.std.proofs.Common.{Some, Result, ap, ◌∙◌}
use Rattle.al_base_fault.specs.Judging.{map_ok, unless}
use Rattle.al_base_fault.specs.declared.fault.Fault.{Fault}
use Rattle.al_overload_nodes.specs.Ranges.{PairTree}
use Rattle.al_overload_nodes.specs.RangesSeen.{pair_model}
use Rattle.al_overload_nodes.specs.declared.range.Pair.{Pair}
use Rattle.al_overload_values.proofs.Seen.{seen_unless}
use Rattle.al_stmts_ranges.specs.LoopsAt.{between}
use Rattle.al_stmts_ranges.proofs.loop_range.after_found.Goals as goal

pub returns : goal.returns
returns c =
    c.between.ensures
    ∙ ap (λ (r : Result Pair Fault). map_ok (between (Some c.args.mark.1)) (map_ok pair_model r)) c.unless.ensures
    ∙ ap (λ (r : Result PairTree Fault). map_ok (between (Some c.args.mark.1)) r)
    (seen_unless pair_model c.args.bounds.1 c.in_ok-checked.checked ∙ ap (λ (r : Result PairTree Fault). unless c.args.bounds.1 r) c.in_ok-checked.ensures)
