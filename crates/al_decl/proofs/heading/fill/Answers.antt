use Rattle.std.proofs.Common.{List, ◌++◌, Option, ap, ◌∙◌}
use Rattle.al_scope.specs.Places.{Place}
use Rattle.al_decl_judged.specs.declared.heading.FormalPart.{FormalPart}
use Rattle.al_decl_judged.specs.declared.heading.Heading.{Heading}
use Rattle.al_decl_judged.specs.declared.heading.ReturnedPart.{ReturnedPart}
use Rattle.al_tree_syntax.specs.DeclarationTrees.{FormalPartTree}
use Rattle.al_tree.specs.DeclarationViews.{specification_model}
use Rattle.al_decl.specs.Formals.{after_formals, formal_list, formals_read}
use Rattle.al_decl.specs.Heads.{formals_of, returned_read}
use Rattle.al_decl.proofs.heading.fill.Goals as goal

abbrev with_parts : Heading → List FormalPart → ReturnedPart → Heading
with_parts h formals returned = record h { formals = formals; returned = returned }

pub returns-clause-answered : goal.returns-clause-answered
returns-clause-answered g c t agrees =
    let returned = c.in_ok-heading.ensures.answered t agrees in
    let formals = c.in_ok-formals_at.ensures.answered t returned.0 in
    let R = g.R.PartAnalyzer.reading c.args.analyzer.now t in
    let h = c.args.heading.now in
    let scope = c.args.scope.now in
    let s = specification_model c.args.specification.now in
    let part = c.formal_part_of-part.ensures in (
      formals.0,
      ap (λ (fs : List FormalPart). with_parts h fs c.in_ok-heading.field-0) (formals.1 ∙ ap (λ (p : Option FormalPartTree). h.formals ++ formals_read R scope (formal_list p)) part)
          ∙ ap (λ (r : ReturnedPart). with_parts h (h.formals ++ formals_read R scope (formals_of s)) r) (returned.1 ∙ ap (λ (q : Place). returned_read R q s) (c.in_ok-formals_at.ensures.scope ∙ ap (λ (p : Option FormalPartTree). after_formals scope (formal_list p)) part)),
    )
