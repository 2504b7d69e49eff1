use Rattle.std.proofs.Common.{◌∙◌, ap, refl}
use Rattle.al_base.specs.contracts.unit_key.UnitKeyOrd.TheImpl.{cmp-value}
use Rattle.al_query_store.specs.Units.{at_unit}
use Rattle.al_query_store.proofs.UnitLemmas.{found}
use Rattle.al_query_store.proofs.unit_map.UnitMap.get.Goals as goal

pub returns : goal.returns
returns g c =
    c.get.ensures.value ∙ found cmp-value.it (λ n m. (refl, refl, refl, refl, refl, refl, refl, refl, refl)) c.args.unit.now c.self.inside.values.entries
    ∙ ap (λ l. at_unit l c.args.unit.now) c.self.view_is
