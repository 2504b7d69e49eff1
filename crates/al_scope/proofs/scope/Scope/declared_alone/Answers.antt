use Rattle.std.proofs.Common.{◌∙◌, sym, ap}
use Rattle.al_view.specs.Interfaces.{views_of}
use Rattle.al_view.specs.Named.{Declarations}
use Rattle.al_scope.specs.Places.{Place, inner_declared}
use Rattle.al_scope.proofs.PlaceLemmas.{inner_declared-last, inner_declared-none}
use Rattle.al_scope.proofs.scope.Scope.declared_alone.Goals as goal

pub returns-in-Some : goal.returns-in-Some
returns-in-Some c =
    let of = λ (d : Declarations). views_of d c.args.name.now in
    c.views.ensures
    ∙ ap of (sym (inner_declared-last c.deref.result.now c.in-Some.region.now (sym c.in-Some.ensures.value)) ∙ ap inner_declared c.deref.ensures.value)
    ∙ ap (λ (p : Place). of (inner_declared p.regions)) c.self.view_is

pub returns-in-None : goal.returns-in-None
returns-in-None c =
    let of = λ (d : Declarations). views_of d c.args.name.now in
    ap of (sym (inner_declared-none c.deref.result.now (sym c.in-None.ensures.value)) ∙ ap inner_declared c.deref.ensures.value)
    ∙ ap (λ (p : Place). of (inner_declared p.regions)) c.self.view_is
