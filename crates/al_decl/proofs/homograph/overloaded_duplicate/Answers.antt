use Rattle.std.proofs.Common.{ℕ, Bool, List, Some, None, not, if◌then◌else◌, sym, ap, ◌∙◌}
use Rattle.std.specs.List.{list_any}
use Rattle.al_decl_judged.specs.DefiningNames.{duplicate_at}
use Rattle.al_view.specs.Homographs.{may_be_overloaded}
use Rattle.al_view.specs.declared.view.ViewKind.{ViewKind}
use Rattle.al_decl.specs.Declaring.{has_fixed}
use Rattle.al_decl.proofs.homograph.overloaded_duplicate.Goals as goal

abbrev fixed : List ViewKind → Bool
fixed views = list_any (λ (v : ViewKind). not (may_be_overloaded v)) views

pub returns-then-has_fixed-clause-answered : goal.returns-then-has_fixed-clause-answered
returns-then-has_fixed-clause-answered g c t h =
    let answered = c.in_ok-views.ensures.answered t h in
    let named = λ (n : List ℕ). if has_fixed t c.args.scope.now n then Some (duplicate_at c.args.name.now) else None in
    (answered.0, ap Some c.duplicate_at.ensures ∙ ap (λ (b : Bool). if b then Some (duplicate_at c.args.name.now) else None) (sym c.if-has_fixed.true ∙ c.has_fixed.ensures ∙ ap fixed (c.as_slice-2.ensures ∙ answered.1)) ∙ ap named c.as_slice.ensures)

pub returns-clause-answered : goal.returns-clause-answered
returns-clause-answered g c t h =
    let answered = c.in_ok-views.ensures.answered t h in
    let named = λ (n : List ℕ). if has_fixed t c.args.scope.now n then Some (duplicate_at c.args.name.now) else None in
    (answered.0, ap (λ (b : Bool). if b then Some (duplicate_at c.args.name.now) else None) (sym c.if-has_fixed.false ∙ c.has_fixed.ensures ∙ ap fixed (c.as_slice-2.ensures ∙ answered.1)) ∙ ap named c.as_slice.ensures)
