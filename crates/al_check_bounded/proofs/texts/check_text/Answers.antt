use Rattle.std.proofs.Common.{refl, subst, sym}
use Rattle.std.proofs.lemmas.Result.{IfOk-weaker}
use Rattle.al_query.specs.Reads.{Log}
use Rattle.al_query_outcome.specs.ReadsLaw.{AsksByNames, AsksOthers}
use Rattle.al_query_outcome.specs.Results.{checked_model}
use Rattle.al_query_outcome.specs.Words.{words_of}
use Rattle.al_check_bounded.proofs.Reading.{no_unit}
use Rattle.al_check_bounded.proofs.texts.check_text.Goals as goal

pub returns-in-None-clause-checked : goal.returns-in-None-clause-checked
returns-in-None-clause-checked g c =
    IfOk-weaker c.not_checked.result _ _ (λ v e.
    no_unit g.F.UnitFinder.units g.F.UnitFinder.names g.F.UnitFinder.verdict c.args.unit.now c.args.text.now c.args.recorder.now.log (checked_model v) c.faults_are_reported.ensures.not_yet c.requires e (sym c.in-None.ensures.tree)) c.not_checked.ensures

pub returns-in-None-clause-others : goal.returns-in-None-clause-others
returns-in-None-clause-others g c = IfOk-weaker c.not_checked.result _ _ (λ v e. subst (λ (l : Log). AsksOthers c.args.unit.now l) (sym c.requires) refl) c.not_checked.ensures

pub returns-in-None-clause-names : goal.returns-in-None-clause-names
returns-in-None-clause-names g c = IfOk-weaker c.not_checked.result _ _ (λ v e. subst (λ (l : Log). AsksByNames c.args.unit.now (words_of c.args.text.now) l) (sym c.requires) refl) c.not_checked.ensures
