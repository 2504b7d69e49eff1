use Rattle.std.proofs.Common.{◌∙◌, Bool, sym, ap, subst}
use Rattle.std.proofs.lemmas.Result.{IfOk-weaker}
use Rattle.al_unit_graph.specs.Views.{header_model}
use Rattle.al_view_typed.specs.UnitTrees.{unit_model}
use Rattle.al_query.specs.Asked.{OfKnown}
use Rattle.al_query.proofs.AskLemmas.{asks_then}
use Rattle.al_query_outcome.specs.Defines.{DefinesParts}
use Rattle.al_query_outcome.specs.ReadsLaw.{NamesOnly}
use Rattle.al_query_outcome.specs.Results.{Outcome}
use Rattle.al_query_outcome.specs.Tables.{interface_of}
use Rattle.al_check_bounded.specs.Bounding.{allowed, bounded}
use Rattle.al_check_promises.specs.Laws.{Promised}
use Rattle.al_check_promises.specs.SelfChecks.{self_checked}
use Rattle.al_check_bounded.specs.Questions.{shown_by}
use Rattle.al_check_bounded.specs.declared.wanted.Wanted.{Wanted}
use Rattle.al_check_bounded.specs.LeftHere.{completed_by}
use Rattle.al_check_bounded.proofs.Bounding.{same_kept, same_test}
use Rattle.al_check_bounded.proofs.LeftLemmas.{completes_within}
use Rattle.al_check_bounded.proofs.Naming.{checked_names}
use Rattle.al_check_bounded.proofs.WereShown.{were_shown}
use Rattle.al_check_bounded.proofs.concluding.sound_within.Goals as goal

pub returns-clause-answered : goal.returns-clause-answered
returns-clause-answered g c =
    let b = c.args.bounds.now in
    let h = header_model c.args.header.now in
    let i = interface_of c.args.sound.properties c.args.sound.parts in
    let tree = unit_model c.args.sound.tree in
    let views = c.as_slice.ensures in
    IfOk-weaker c.self_checked.result _ _ (λ v e t a.
    let complete = c.in_ok-complete.ensures.answered t a in
    let answered = c.in_ok-shown.ensures.answered t complete.0 in (
      answered.0,
      e ∙ same_test b.unit _ c.in_ok-shown.shown.views c.in_ok-complete.complete i tree views
          ∙ same_kept b.unit c.in_ok-shown.shown.views (shown_by c.in_ok-wanted.wanted (bounded b t)) c.in_ok-complete.complete (completed_by b h i tree (bounded b t)) i tree answered.1.same complete.1
          ∙ ap (λ (w : Wanted). self_checked b.unit (shown_by w (bounded b t)) (completed_by b h i tree (bounded b t)) i tree) c.in_ok-wanted.ensures,
    )) c.self_checked.ensures

pub returns-clause-promised : goal.returns-clause-promised
returns-clause-promised g c =
    let b = c.args.bounds.now in
    let i = interface_of c.args.sound.properties c.args.sound.parts in
    let tree = unit_model c.args.sound.tree in
    let log = c.completed_by.new.recorder.log in
    let views = c.as_slice.ensures in
    IfOk-weaker c.self_checked.result _ _ (λ v e.
    subst (λ (o : Outcome). Promised b.unit log o) (sym (e ∙ same_test b.unit _ c.in_ok-shown.shown.views c.in_ok-complete.complete i tree views))
    (c.what_is_tested_keeps.ensures b.unit log c.in_ok-shown.shown.views i tree c.in_ok-complete.complete
    (were_shown b c.in_ok-wanted.wanted log (g.A.Answers.table c.completed_by.new.recorder.asked) c.in_ok-shown.shown.views c.shown_views_are_answered.ensures c.agrees.ensures (λ t a. (c.in_ok-shown.ensures.answered t (c.in_ok-complete.ensures.answered t a).0).1.among))))
    c.self_checked.ensures

pub returns-clause-names : goal.returns-clause-names
returns-clause-names g c =
    let b = c.args.bounds.now in
    let i = interface_of c.args.sound.properties c.args.sound.parts in
    let tree = unit_model c.args.sound.tree in
    IfOk-weaker c.self_checked.result _ _ (λ v e units h.
    subst (λ (o : Outcome). NamesOnly units o) (sym e) (checked_names units b.unit _ c.in_ok-complete.complete i tree h)) c.self_checked.ensures

pub returns-clause-parts : goal.returns-clause-parts
returns-clause-parts g c =
    let b = c.args.bounds.now in
    let h = header_model c.args.header.now in
    let i = interface_of c.args.sound.properties c.args.sound.parts in
    let tree = unit_model c.args.sound.tree in
    let views = c.as_slice.ensures in
    IfOk-weaker c.self_checked.result _ _ (λ v e t a.
    let complete = c.in_ok-complete.ensures.answered t a in
    subst (λ (o : Outcome). DefinesParts b.unit h t o)
    (sym (e ∙ same_test b.unit _ c.in_ok-shown.shown.views c.in_ok-complete.complete i tree views ∙ ap (λ (x : Bool). self_checked b.unit c.in_ok-shown.shown.views x i tree) complete.1))
    (completes_within b t h c.in_ok-shown.shown.views i tree c.parts_are_completed.ensures)) c.self_checked.ensures

pub returns-clause-asks : goal.returns-clause-asks
returns-clause-asks g c =
    let b = c.args.bounds.now in
    IfOk-weaker c.self_checked.result _ _ (λ v e. asks_then (OfKnown b.known (allowed b)) c.args.recorder.now.log c.shown_views.new.recorder.log c.completed_by.new.recorder.log c.in_ok-shown.ensures.asks c.in_ok-complete.ensures.asks) c.self_checked.ensures

pub returns-clause-others : goal.returns-clause-others
returns-clause-others g c = IfOk-weaker c.self_checked.result _ _ (λ v e before. c.in_ok-complete.ensures.others (c.in_ok-shown.ensures.others before)) c.self_checked.ensures
