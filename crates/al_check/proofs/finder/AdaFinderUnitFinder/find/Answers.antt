use Rattle.std.proofs.Common.{subst, sym}
use Rattle.al_query_outcome.specs.ReadsLaw.{named_by}
use Rattle.al_tree.specs.UnitViews.{unit_model}
use Rattle.al_unit_header.specs.Units.{header_of}
use Rattle.al_check_bounded.specs.Verdicts.{IsTold, NamesWithin, Verdict}
use Rattle.al_check.proofs.Naming.{verdict_named}
use Rattle.al_check.proofs.FromAnswers.{verdict_told}
use Rattle.al_check.proofs.UnitResult.{if_both, if_ok}
use Rattle.al_check.specs.Ada.{ada_verdict}
use Rattle.al_check.proofs.finder.AdaFinderUnitFinder.find.Goals as goal

pub returns-clause-answered : goal.returns-clause-answered
unfolding ada_verdict
returns-clause-answered g c = if_ok c.find_in.result _ _ (λ f answered t h. (answered t h).1) c.find_in.ensures.answered

pub returns-clause-names : goal.returns-clause-names
returns-clause-names g c =
    let tree = unit_model c.args.tree.now in
    let asked = g.A.Answers.table c.args.recorder.asked in
    if_both c.find_in.result _ _ _
    (λ f agrees answered. subst (λ (v : Verdict). NamesWithin (named_by (header_of tree)) v) (sym (answered asked agrees).1) (verdict_named asked c.args.unit.now tree))
    c.find_in.ensures.agrees c.find_in.ensures.answered

pub returns-clause-faults : goal.returns-clause-faults
returns-clause-faults g c =
    let unit = c.args.unit.now in
    let tree = unit_model c.args.tree.now in
    let asked = g.A.Answers.table c.args.recorder.asked in
    if_both c.find_in.result _ _ _
    (λ f agrees answered. subst (λ (v : Verdict). IsTold unit v) (sym (answered asked agrees).1) (verdict_told asked unit tree))
    c.find_in.ensures.agrees c.find_in.ensures.answered
