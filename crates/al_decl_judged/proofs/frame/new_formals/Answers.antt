use Rattle.std.proofs.Common.{◌≡◌, List, [], ◌∷◌, ◌++◌, take, sym, ◌∙◌, ap}
use Rattle.std.specs.List.{filter_map}
use Rattle.std.proofs.lemmas.List.Elements.{filter_map-append}
use Rattle.al_decl_judged.proofs.NameLemmas.{front_more}
use Rattle.al_decl_judged.specs.declared.frame.NewFormal.{NewFormal}
use Rattle.al_decl_judged.specs.declared.heading.FormalPart.{FormalPart}
use Rattle.al_decl_judged.specs.Frames.{new_formal}
use Rattle.al_decl_judged.proofs.frame.new_formals.Goals as goal

pub loop-formal-preserved : goal.loop-formal-preserved
loop-formal-preserved c =
    let formals = c.args.formals.now in
    let i = c.loop-formal.formal-index in
    let f = c.formal-item.result in
    c.in_ok-add_formal.ensures
    ∙ ap (λ (l : List NewFormal). l ++ filter_map new_formal (f ∷ [])) c.loop-formal.invariant
    ∙ sym (filter_map-append new_formal (take i formals) (f ∷ []))
    ∙ ap (λ (fs : List FormalPart). filter_map new_formal fs) (sym (front_more formals i f c.loop-formal-test.true c.formal-item.is))
