use Rattle.al_overload.proofs.PartLemmas.{from_first}
use Rattle.al_overload.proofs.part.+parts.Goals as goal
use Rattle.al_overload.specs.TermViews.{term_model}

pub inner_part-returns : goal.inner_part-returns
inner_part-returns t c =
    from_first c.before-count.result.1 (term_model c.args.term.now) (term_model c.before-count.result.0.now) _ _ c.before-count.ensures.count c.part_of-part.ensures c.built_up.ensures
