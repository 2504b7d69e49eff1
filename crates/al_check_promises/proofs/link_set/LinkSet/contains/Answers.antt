use Rattle.std.proofs.Common.{ap, ◌∙◌}
use Rattle.std.specs.List.{list_any}
use Rattle.al_view.specs.Symbols.{same_symbol}
use Rattle.al_check_promises.specs.Links.{has_link}
use Rattle.al_check_promises.proofs.link_set.LinkSet.contains.Goals as goal

pub returns : goal.returns
unfolding has_link
returns c = c.contains.ensures ∙ ap (list_any (same_symbol c.args.symbol.now)) c.of.ensures
