-- What the parts of a unit show, part by part.
use Rattle.std.specs.Prelude.{List, ◌++◌}
use Rattle.std.specs.List.{flat_map}
use Rattle.al_view.specs.ViewUses.{view_uses}
use Rattle.al_view.specs.declared.link.LinkSymbol.{LinkSymbol}
use Rattle.al_query_outcome.specs.Defines.{declared_uses}
use Rattle.al_query_outcome.specs.declared.interface.Parts.{Parts}
use Rattle.al_query_outcome.specs.declared.interface.Properties.{Properties}

abbrev pub property_uses : Properties → List LinkSymbol
property_uses p = view_uses p.kind ++ flat_map (λ c. view_uses c.view) p.completions

abbrev pub part_uses : Parts → List LinkSymbol
part_uses p = declared_uses p.visible ++ declared_uses p.private_part ++ declared_uses p.body ++ flat_map (λ s. declared_uses s.before) p.stubs
