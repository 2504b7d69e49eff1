use Rattle.al_overload.specs.declared.context.Context.TheVariants as contexts
use Rattle.al_stmts_ranges.proofs.Seen.{checked_in}
use Rattle.al_overload.specs.TermViews.{term_model}
use Rattle.al_overload_nodes.specs.Leaves.{mark_type}
use Rattle.al_stmts_ranges.proofs.loop_range.pair_after.Goals as goal

pub returns : goal.returns
returns c =
    let l = c.args.labeller.now in
    checked_in l.predefined l.own c.args.mark.now.types (term_model c.args.low.now) (term_model c.args.high.now) c.check_bounds.result c.in_ok-context.context (contexts.BoundOf (mark_type c.args.mark.now)) c.in_ok-context.ensures c.check_bounds.ensures
