use Rattle.std.proofs.Common.{◌∙◌, true, Some, None, refl, ap}
use Rattle.std.proofs.lemmas.Result.{IfOk-weaker}
use Rattle.al_unit_graph.specs.Names.{parent_of}
use Rattle.al_query.specs.Asked.{OfKnown}
use Rattle.al_query.proofs.AskLemmas.{asks_none}
use Rattle.al_check_bounded.specs.Bounding.{allowed, bounded}
use Rattle.al_check_bounded.proofs.LeftLemmas.{in_parent}
use Rattle.al_check_bounded.proofs.left.left_to_subunit.Goals as goal

pub returns-in-Some-clause-answered : goal.returns-in-Some-clause-answered
returns-in-Some-clause-answered g c =
    let b = c.args.bounds.now in
    let is = c.in-Some.ensures ∙ ap parent_of c.as_slice.ensures in
    IfOk-weaker c.left_in.result _ _ (λ v e t h. let a = e t h in (a.0, in_parent b (bounded b t) (Some c.in-Some.parent.now) v.views v.is_learned is a.1)) c.left_in.ensures.answered

pub returns-in-None-clause-answered : goal.returns-in-None-clause-answered
returns-in-None-clause-answered g c t h =
    let b = c.args.bounds.now in
    (h, in_parent b (bounded b t) None c.empty.result true (c.in-None.ensures ∙ ap parent_of c.as_slice.ensures) (c.empty.ensures, refl))

pub returns-in-None-clause-asks : goal.returns-in-None-clause-asks
returns-in-None-clause-asks g c = let b = c.args.bounds.now in asks_none (OfKnown b.known (allowed b)) c.args.recorder.now.log
