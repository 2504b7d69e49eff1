-- The ranges of choices, one more at a time.
use Rattle.std.proofs.lemmas.List.Elements.{filter_map-append}

pub ruleset ranges_more = (filter_map-append)
