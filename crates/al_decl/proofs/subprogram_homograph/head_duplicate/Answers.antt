use Rattle.std.proofs.Common.{Bool, if◌then◌else◌, sym, ap, ◌∙◌}
use Rattle.al_decl.specs.Declaring.{duplicate, overloaded_duplicate}
use Rattle.al_decl.specs.Placing.{head_view}
use Rattle.al_decl.proofs.Outcomes.{if_ok}
use Rattle.al_decl.proofs.subprogram_homograph.head_duplicate.Goals as goal

pub returns-then-has_right_marks-clause-answered : goal.returns-then-has_right_marks-clause-answered
returns-then-has_right_marks-clause-answered g c =
    if_ok c.typed_duplicate.result _ _
    (λ fault answered t h.
    let known = answered t h in
    let head = c.args.heading.now in
    let env = c.args.env.now in (
      known.0,
      known.1 ∙ ap (λ (b : Bool). if b then duplicate t env.scope (head_view env head) head.name else overloaded_duplicate t env.scope head.name) (sym c.if-has_right_marks.true ∙ c.has_right_marks.ensures),
    ))
    c.typed_duplicate.ensures.answered

pub returns-clause-answered : goal.returns-clause-answered
returns-clause-answered g c =
    if_ok c.overloaded_duplicate.result _ _
    (λ fault answered t h.
    let known = answered t h in
    let head = c.args.heading.now in
    let env = c.args.env.now in (
      known.0,
      known.1 ∙ ap (λ (b : Bool). if b then duplicate t env.scope (head_view env head) head.name else overloaded_duplicate t env.scope head.name) (sym c.if-has_right_marks.false ∙ c.has_right_marks.ensures),
    ))
    c.overloaded_duplicate.ensures.answered
