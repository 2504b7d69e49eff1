use Rattle.std.proofs.Common.{◌∙◌, ap, cond, Some, refl}
use Rattle.al_query_store.specs.Units.{at_unit}
use Rattle.al_query_store.proofs.UnitLemmas.{changed}
use Rattle.al_view.specs.Symbols.{same_unit}
use Rattle.al_query_store.proofs.unit_map.UnitMap.insert.Goals as goal

pub returns-clause-ok : goal.returns-clause-ok
returns-clause-ok g c u =
    changed _ (λ n m. (refl, refl, refl, refl, refl, refl, refl, refl, refl)) c.self.inside.values.entries c.insert.new.self.entries c.args.unit (Some c.args.value) c.in-Ok.ensures.updates.0 u
    ∙ ap (λ l. cond (same_unit c.args.unit u) (Some c.args.value) (at_unit l u)) c.self.view_is
