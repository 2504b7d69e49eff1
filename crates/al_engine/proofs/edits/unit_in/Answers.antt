use Rattle.std.proofs.Common.{Bor, ap, sym, ◌∙◌}
use Rattle.std.specs.Option.{option_map}
use Rattle.al_unit_graph.specs.Views.{header_model}
use Rattle.al_unit_graph.specs.declared.header.Header.{Header}
use Rattle.al_engine.proofs.edits.unit_in.Goals as goal

pub returns-in_ok-unit_of-in-Some : goal.returns-in_ok-unit_of-in-Some
returns-in_ok-unit_of-in-Some c =
    (header_model c.in-Some.header.now, sym c.unit_in.ensures ∙ ap (λ o. option_map (λ (u : Bor Header). header_model u.now) o) c.in-Some.is, c.in_ok-unit_of-in-Some.ensures)
