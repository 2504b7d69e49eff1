-- The links that a unit may use.
use Rattle.std.specs.Prelude.{Bool, if◌then◌else◌}
use Rattle.al_view.specs.Symbols.{same_unit}
use Rattle.al_view.specs.declared.link.LinkSymbol.{LinkSymbol}
use Rattle.al_check_promises.specs.Links.{has_link}
use Rattle.al_check_promises.specs.declared.rule.LinkRule.{LinkRule}

-- some of its own, and some of other units
unfoldable pub permits : LinkRule → LinkSymbol → Bool
permits r x = if same_unit x.symbol.unit r.unit then has_link r.own x else has_link r.others x
