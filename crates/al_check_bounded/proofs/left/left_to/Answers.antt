use Rattle.std.proofs.Common.{true, refl}
use Rattle.std.proofs.lemmas.Result.{IfOk-weaker}
use Rattle.al_base.specs.declared.unit_key.UnitKind.TheVariants.{Decl, Body, Sub}
use Rattle.al_query.specs.Asked.{OfKnown}
use Rattle.al_query.proofs.AskLemmas.{asks_none}
use Rattle.al_check_bounded.specs.Bounding.{allowed, bounded}
use Rattle.al_check_bounded.proofs.LeftLemmas.{of_kind}
use Rattle.al_check_bounded.proofs.left.left_to.Goals as goal

pub returns-in-Body-clause-answered : goal.returns-in-Body-clause-answered
returns-in-Body-clause-answered g c =
    let b = c.args.bounds.now in
    IfOk-weaker c.left_to_body.result _ _ (λ v e t h. let a = e t h in (a.0, of_kind b (bounded b t) Body v.views v.is_learned c.in-Body.is a.1)) c.left_to_body.ensures.answered

pub returns-in-Sub-clause-answered : goal.returns-in-Sub-clause-answered
returns-in-Sub-clause-answered g c =
    let b = c.args.bounds.now in
    IfOk-weaker c.left_to_subunit.result _ _ (λ v e t h. let a = e t h in (a.0, of_kind b (bounded b t) Sub v.views v.is_learned c.in-Sub.is a.1)) c.left_to_subunit.ensures.answered

pub returns-in-Decl-clause-answered : goal.returns-in-Decl-clause-answered
returns-in-Decl-clause-answered g c t h =
    let b = c.args.bounds.now in
    (h, of_kind b (bounded b t) Decl c.empty.result true c.in-Decl.is (c.empty.ensures, refl))

pub returns-in-Decl-clause-asks : goal.returns-in-Decl-clause-asks
returns-in-Decl-clause-asks g c = let b = c.args.bounds.now in asks_none (OfKnown b.known (allowed b)) c.args.recorder.now.log
