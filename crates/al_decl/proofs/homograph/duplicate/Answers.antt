use Rattle.std.proofs.Common.{ℕ, Bool, List, Some, None, if◌then◌else◌, sym, ap, ◌∙◌}
use Rattle.al_decl_judged.specs.DefiningNames.{duplicate_at}
use Rattle.al_decl.specs.Declaring.{has_homograph}
use Rattle.al_decl.proofs.homograph.duplicate.Goals as goal

pub returns-then-branch-clause-answered : goal.returns-then-branch-clause-answered
returns-then-branch-clause-answered g c t h =
    let answered = c.in_ok-has_homograph.ensures.answered t h in
    let named = λ (n : List ℕ). if has_homograph t c.args.scope.now n c.args.view.now then Some (duplicate_at c.args.name.now) else None in
    (answered.0, ap Some c.duplicate_at.ensures ∙ ap (λ (b : Bool). if b then Some (duplicate_at c.args.name.now) else None) (sym c.if-branch.true ∙ answered.1) ∙ ap named c.as_slice.ensures)

pub returns-clause-answered : goal.returns-clause-answered
returns-clause-answered g c t h =
    let answered = c.in_ok-has_homograph.ensures.answered t h in
    let named = λ (n : List ℕ). if has_homograph t c.args.scope.now n c.args.view.now then Some (duplicate_at c.args.name.now) else None in
    (answered.0, ap (λ (b : Bool). if b then Some (duplicate_at c.args.name.now) else None) (sym c.if-branch.false ∙ answered.1) ∙ ap named c.as_slice.ensures)
