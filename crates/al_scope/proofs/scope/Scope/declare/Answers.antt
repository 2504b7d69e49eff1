use Rattle.std.proofs.Common.{◌≡◌, ◌<◌, ◌+◌, ◌-◌, length, arith, sym, ◌∙◌, ap, not}
use Rattle.al_scope.specs.Places.{Place, with_declared}
use Rattle.al_scope.proofs.DeclareLemmas.{stays-declared}
use Rattle.al_scope.proofs.PlaceLemmas.{in_last-is}
use Rattle.al_scope.proofs.scope.Scope.declare.Goals as goal

pub returns-then-branch-clause-answered : goal.returns-then-branch-clause-answered
returns-then-branch-clause-answered g c t h =
    let answered = c.in_ok-has_homograph.ensures.answered t h in
    (answered.0, ap not (sym c.if-branch.true ∙ answered.1))

pub returns-clause-answered : goal.returns-clause-answered
returns-clause-answered g c t h =
    let answered = c.in_ok-has_homograph.ensures.answered t h in
    (answered.0, ap not (sym c.if-branch.false ∙ answered.1))

pub returns-clause-new : goal.returns-clause-new
returns-clause-new g c =
    let regions = ap (λ (p : Place). p.regions) c.self.view_is in
    let some : 0 < length c.self.inside.regions.items = rw regions c.requires in
    let last : c.len-last.result - 1 + 1 ≡ length c.self.inside.regions.items = omega (arith, some, c.len-last.ensures, c.self.inside.regions.ok.0) in
    rw (← regions) (in_last-is (with_declared c.args.name.now c.args.view) c.self.inside.regions.items (c.len-last.result - 1) c.index_mut-region.result.now c.declare.new.self last (c.in_ok-declare.ensures ∙ ap (with_declared c.args.name.now c.args.view) c.index_mut-region.ensures.value))

pub returns-clause-once : goal.returns-clause-once
returns-clause-once g c t h =
    let answered = c.in_ok-has_homograph.ensures.answered t h in
    stays-declared t c.args.name.now c.args.view c.args.self.now _ _ (sym answered.1 ∙ c.if-branch.false) (returns-clause-new g c) (ap (λ (p : Place). p.mentioned) c.self.view_is)
