use Rattle.std.proofs.Common.{◌≡◌, List, [], ◌∷◌, ◌++◌, take, sym, ◌∙◌, ap}
use Rattle.std.specs.List.{filter_map}
use Rattle.std.proofs.lemmas.List.Elements.{filter_map-append}
use Rattle.al_decl_judged.proofs.NameLemmas.{front_more}
use Rattle.al_view.specs.declared.view.Parameter.{Parameter}
use Rattle.al_decl_judged.specs.declared.heading.FormalPart.{FormalPart}
use Rattle.al_decl_judged.specs.Profiles.{parameter_of}
use Rattle.al_decl_judged.proofs.profile.parameters_of.Goals as goal

pub loop-formal-preserved : goal.loop-formal-preserved
loop-formal-preserved c =
    let formals = c.args.formals.now in
    let i = c.loop-formal.formal-index in
    let f = c.formal-item.result in
    c.in_ok-add_parameter.ensures
    ∙ ap (λ (l : List Parameter). l ++ filter_map parameter_of (f ∷ [])) c.loop-formal.invariant
    ∙ sym (filter_map-append parameter_of (take i formals) (f ∷ []))
    ∙ ap (λ (fs : List FormalPart). filter_map parameter_of fs) (sym (front_more formals i f c.loop-formal-test.true c.formal-item.is))
