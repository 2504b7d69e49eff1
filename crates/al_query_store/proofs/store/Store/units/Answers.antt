use Rattle.std.proofs.Common.{◌∙◌, ◌++◌, sym, ap, List}
use Rattle.std.specs.Map.{keys_of}
use Rattle.std.proofs.lemmas.Map.Made.{keys_of-map_values}
use Rattle.al_base.specs.declared.unit_key.UnitKey.{UnitKey}
use Rattle.al_query_store.specs.declared.cell.Cell.{Cell}
use Rattle.al_query_store.specs.Keyed.{State, seen}
use Rattle.al_query_store.proofs.store.Store.units.Goals as goal

pub loop-unit-init : goal.loop-unit-init
loop-unit-init g c =
    let cells = c.self.inside.cells.entries in
    ap (λ (l : List UnitKey). l ++ keys_of c.into_iter-unit-iterator.result) c.in_ok-units.ensures.items
    ∙ ap (λ (l : List (UnitKey × Cell)). keys_of l) (c.into_iter-unit-iterator.ensures.into_iter_gives ∙ c.iter-unit-items.ensures.rest)
    ∙ sym (keys_of-map_values (seen c.self.inside.slots) cells)
    ∙ ap (λ (l : List (UnitKey × State g.row.E.Denot)). keys_of l) c.self.view_is
