use Rattle.std.proofs.Common.{List, ap, ◌∙◌}
use Rattle.std.specs.List.{filter_map}
use Rattle.al_decl_judged.specs.Frames.{formal_words, new_formal}
use Rattle.al_decl_judged.specs.declared.frame.NewFormal.{NewFormal}
use Rattle.al_decl_judged.specs.declared.heading.FormalPart.{FormalPart}
use Rattle.al_decl.specs.Regions.{with_formals_declared}
use Rattle.al_decl.proofs.Outcomes.{if_ok, on_ok}
use Rattle.al_decl.proofs.subprogram_body.declare_all_formals.Goals as goal

pub returns-clause-env : goal.returns-clause-env
returns-clause-env c =
    let all = c.as_slice-2.ensures ∙ c.in_ok-formals.ensures ∙ ap (λ (fs : List FormalPart). filter_map new_formal fs) c.as_slice.ensures in
    on_ok c.declare_each.result _ _ (λ made. made ∙ ap (λ (fs : List NewFormal). with_formals_declared c.args.env.now fs) all) c.declare_each.ensures.env

pub returns-clause-words : goal.returns-clause-words
returns-clause-words c =
    let all = c.as_slice-2.ensures ∙ c.in_ok-formals.ensures ∙ ap (λ (fs : List FormalPart). filter_map new_formal fs) c.as_slice.ensures in
    if_ok c.declare_each.result _ _ (λ words made. made ∙ ap (λ (fs : List NewFormal). formal_words c.args.env.now.progress fs) all) c.declare_each.ensures.words
