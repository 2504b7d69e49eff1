use Rattle.std.proofs.Common.{◌/◌, arith}
use Rattle.al_overload.proofs.PartLemmas.{halves}
use Rattle.al_overload.proofs.part.+built_up.Goals as goal
use Rattle.al_overload.specs.TermViews.{term_model}

pub returns : goal.returns
returns t c =
    halves c.args.count (c.args.count / 2) (term_model c.args.term.now) (term_model c.before-2.result.0.now) _ _ _ (omega arith) c.before-2.ensures.most c.built_up-inner.ensures c.built_up.ensures
