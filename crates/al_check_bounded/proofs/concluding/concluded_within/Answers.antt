use Rattle.std.proofs.Common.{◌∙◌, sym, ap, subst}
use Rattle.std.proofs.lemmas.Result.{IfOk-weaker}
use Rattle.al_query.specs.Asked.{OfKnown}
use Rattle.al_query.proofs.AskLemmas.{asks_none}
use Rattle.al_unit_graph.specs.Views.{header_model}
use Rattle.al_check_bounded.specs.Bounding.{allowed, bounded}
use Rattle.al_check_bounded.specs.Verdicts.{IsTold, NamesWithin, verdict_of}
use Rattle.al_check_bounded.specs.Within.{concluded}
use Rattle.al_check_bounded.specs.declared.finding.UnitVerdict.{UnitVerdict}
use Rattle.al_check_bounded.proofs.Naming.{faulty_names}
use Rattle.al_check_bounded.proofs.concluding.concluded_within.Goals as goal

pub returns-in-Faulty-clause-answered : goal.returns-in-Faulty-clause-answered
returns-in-Faulty-clause-answered g c t h =
    let b = c.args.bounds.now in
    (h, ap (λ (f : UnitVerdict). concluded b (header_model c.args.header.now) (verdict_of f) (bounded b t)) (sym c.in-Faulty.is))

pub returns-in-Faulty-clause-asks : goal.returns-in-Faulty-clause-asks
returns-in-Faulty-clause-asks g c = let b = c.args.bounds.now in asks_none (OfKnown b.known (allowed b)) c.args.recorder.now.log

pub returns-in-Faulty-clause-others : goal.returns-in-Faulty-clause-others
returns-in-Faulty-clause-others g c h = h

pub returns-in-Faulty-clause-promised : goal.returns-in-Faulty-clause-promised
returns-in-Faulty-clause-promised g c names_answered =
    let b = c.args.bounds.now in
    c.faults_are_reported.ensures.faults b.unit c.args.recorder.now.log c.in-Faulty.faults (subst (λ (f : UnitVerdict). IsTold b.unit (verdict_of f)) c.in-Faulty.is names_answered)

pub returns-in-Faulty-clause-parts : goal.returns-in-Faulty-clause-parts
returns-in-Faulty-clause-parts g c t a = tt

pub returns-in-Faulty-clause-names : goal.returns-in-Faulty-clause-names
returns-in-Faulty-clause-names g c units h = faulty_names units c.in-Faulty.faults

pub returns-clause-promised : goal.returns-clause-promised
returns-clause-promised g c = IfOk-weaker c.sound_within.result _ _ (λ v e names_answered. e) c.sound_within.ensures.promised

pub returns-clause-names : goal.returns-clause-names
returns-clause-names g c = IfOk-weaker c.sound_within.result _ _ (λ v e units h. e units (subst (λ (f : UnitVerdict). NamesWithin units (verdict_of f)) c.in-Sound.is h)) c.sound_within.ensures.names

pub returns-clause-answered : goal.returns-clause-answered
returns-clause-answered g c =
    let b = c.args.bounds.now in
    IfOk-weaker c.sound_within.result _ _ (λ v e t h. let answered = e t h in (answered.0, answered.1 ∙ ap (λ (f : UnitVerdict). concluded b (header_model c.args.header.now) (verdict_of f) (bounded b t)) (sym c.in-Sound.is))) c.sound_within.ensures.answered
