use Rattle.std.proofs.Common.{List, ◌++◌, Option, map, sym, ap, ◌∙◌, append_assoc}
use Rattle.std.specs.Prelude.{option_map}
use Rattle.al_scope.specs.Places.{Place}
use Rattle.al_decl_judged.specs.declared.heading.FormalPart.{FormalPart}
use Rattle.al_tree.specs.DeclarationViews.{formal_part_model, formal_model}
use Rattle.al_tree.specs.declared.declaration.Formal.{Formal}
use Rattle.al_tree.specs.declared.declaration.FormalPart.{FormalPart as FormalPartText}
use Rattle.al_decl.specs.Formals.{after_formal, formal_list, formals_read, one_read}
use Rattle.al_decl.proofs.Outcomes.{on_ok}
use Rattle.al_decl.proofs.heading.formals_at.Goals as goal

pub returns-in_ok-check_formal-in-Some-clause-answered : goal.returns-in_ok-check_formal-in-Some-clause-answered
returns-in_ok-check_formal-in-Some-clause-answered g c =
    on_ok c.check_formals.result _ _
    (λ answered t h.
    let later = answered t h in
    let first = c.in_ok-check_formal-in-Some.ensures.answered t later.0 in
    let R = g.R.PartAnalyzer.reading c.args.analyzer.now t in
    let old = c.args.formals.now in
    let scope = c.args.scope.now in
    let f = formal_model c.in-Some.part.first in
    let others = c.as_slice-others.result.now in (
      first.0,
      later.1
          ∙ ap (λ (fs : List FormalPart). fs ++ formals_read R c.check_formal.new.scope (map formal_model others)) first.1
          ∙ ap (λ (p : Place). (old ++ one_read R scope f) ++ formals_read R p (map formal_model others)) c.in_ok-check_formal-in-Some.ensures.scope
          ∙ ap (λ (l : List Formal). (old ++ one_read R scope f) ++ formals_read R (after_formal scope f) (map formal_model l)) c.as_slice-others.ensures.value
          ∙ append_assoc old (one_read R scope f) (formals_read R (after_formal scope f) (map formal_model c.in-Some.part.others.items))
          ∙ ap (λ (p : Option FormalPartText). old ++ formals_read R scope (formal_list (option_map formal_part_model p))) (sym c.in-Some.is),
    ))
    c.check_formals.ensures.answered
