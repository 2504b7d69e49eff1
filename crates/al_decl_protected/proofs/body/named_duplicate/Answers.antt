use Rattle.std.proofs.Common.{sym, ap, ◌∙◌}
use Rattle.al_decl_judged.specs.declared.specification.BodyHead.{BodyHead}
use Rattle.al_decl_protected.specs.Bodies.{named_duplicate}
use Rattle.al_decl_protected.proofs.Outcomes.{if_ok}
use Rattle.al_decl_protected.proofs.body.named_duplicate.Goals as goal

pub returns-in-Entry-clause-answered : goal.returns-in-Entry-clause-answered
returns-in-Entry-clause-answered g c =
    if_ok c.entry_duplicate.result _ _
    (λ fault answered t h.
    let known = answered t h in
    (known.0, known.1 ∙ ap (λ (b : BodyHead). named_duplicate t c.args.env.now c.args.name.now b) (sym c.in-Entry.is)))
    c.entry_duplicate.ensures.answered

pub returns-in-Task-clause-answered : goal.returns-in-Task-clause-answered
returns-in-Task-clause-answered g c =
    if_ok c.fixed_duplicate.result _ _
    (λ fault answered t h.
    let known = answered t h in
    (known.0, known.1 ∙ ap (λ (b : BodyHead). named_duplicate t c.args.env.now c.args.name.now b) (sym c.in-Task.is)))
    c.fixed_duplicate.ensures.answered

pub returns-in-Protected-clause-answered : goal.returns-in-Protected-clause-answered
returns-in-Protected-clause-answered g c =
    if_ok c.fixed_duplicate-in-Protected.result _ _
    (λ fault answered t h.
    let known = answered t h in
    (known.0, known.1 ∙ ap (λ (b : BodyHead). named_duplicate t c.args.env.now c.args.name.now b) (sym c.in-Protected.is)))
    c.fixed_duplicate-in-Protected.ensures.answered

pub returns-in-Subprogram-clause-answered : goal.returns-in-Subprogram-clause-answered
returns-in-Subprogram-clause-answered g c =
    if_ok c.fixed_duplicate-in-Subprogram.result _ _
    (λ fault answered t h.
    let known = answered t h in
    (known.0, known.1 ∙ ap (λ (b : BodyHead). named_duplicate t c.args.env.now c.args.name.now b) (sym c.in-Subprogram.is)))
    c.fixed_duplicate-in-Subprogram.ensures.answered
