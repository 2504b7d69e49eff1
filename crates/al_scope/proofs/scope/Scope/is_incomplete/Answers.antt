use Rattle.std.proofs.Common.{◌∙◌, sym, ap}
use Rattle.al_scope.specs.PartialViews.{some_incomplete}
use Rattle.al_scope.specs.Places.{Place, inner_declared}
use Rattle.al_scope.proofs.PlaceLemmas.{inner_declared-last, inner_declared-none}
use Rattle.al_scope.proofs.scope.Scope.is_incomplete.Goals as goal

pub returns-in-Some : goal.returns-in-Some
returns-in-Some c =
    c.some_incomplete.ensures
    ∙ ap some_incomplete (sym (inner_declared-last c.deref.result.now c.in-Some.region.now (sym c.in-Some.ensures.value)) ∙ ap inner_declared c.deref.ensures.value)
    ∙ ap (λ (p : Place). some_incomplete (inner_declared p.regions)) c.self.view_is

pub returns-in-None : goal.returns-in-None
returns-in-None c =
    ap some_incomplete (sym (inner_declared-none c.deref.result.now (sym c.in-None.ensures.value)) ∙ ap inner_declared c.deref.ensures.value)
    ∙ ap (λ (p : Place). some_incomplete (inner_declared p.regions)) c.self.view_is
