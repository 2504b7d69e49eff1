use Rattle.std.proofs.Common.{◌≡◌, ◌<◌, ◌+◌, ◌-◌, length, arith, sym, ◌∙◌, ap, cond}
use Rattle.al_scope.specs.Places.{Place, in_last, with_uses}
use Rattle.al_scope.specs.UseClauses.{with_type_view}
use Rattle.al_scope.proofs.PlaceLemmas.{in_last-is}
use Rattle.al_scope.proofs.scope.Scope.use_type_view.Goals as goal

pub returns-clause-new : goal.returns-clause-new
returns-clause-new c =
    let regions = ap (λ (p : Place). p.regions) c.self.view_is in
    let some : 0 < length c.self.inside.regions.items = rw regions c.requires in
    let last : c.len-last.result - 1 + 1 ≡ length c.self.inside.regions.items = omega (arith, some, c.len-last.ensures, c.self.inside.regions.ok.0) in
    let clause = with_uses (with_type_view c.args.symbol.now c.args.types.now) in
    let changed = (in_last-is clause c.self.inside.regions.items (c.len-last.result - 1) c.index_mut-region.result.now c.use_type_view.new.self last (c.in_ok-use_type_view.ensures ∙ ap clause c.index_mut-region.ensures.value)) in
    changed ∙ ap (in_last clause) regions ∙ ap (λ b. cond b c.args.self.now.regions (in_last clause c.args.self.now.regions)) (sym c.if-is_declared_round.false ∙ c.is_declared_round.ensures)
