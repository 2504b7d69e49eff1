-- When two questions are one.
use Rattle.std.specs.Prelude.{Bool, true, false, ◌&&◌}
use Rattle.std.specs.Str.{bytes_eq}
use Rattle.al_base.specs.declared.unit_key.UnitKey.{UnitKey}
use Rattle.al_view.specs.Symbols.{same_unit, same_part}
use Rattle.al_query.specs.declared.query.Query.{Query}
use Rattle.al_query.specs.declared.query.Query.TheVariants.{Named, Of}
use Rattle.al_query.specs.declared.query.Property.{Property}
use Rattle.al_query.specs.declared.query.Property.TheVariants.{Kind, Parent, IsPrivate, Context, NeedsBody, Completions}

abbrev pub same_property : Property → Property → Bool
same_property Kind Kind = true
same_property Parent Parent = true
same_property IsPrivate IsPrivate = true
same_property Context Context = true
same_property NeedsBody NeedsBody = true
same_property Completions Completions = true
same_property _ _ = false

-- whether two questions are one
abbrev pub same_query : Query → Query → Bool
same_query (Named u p n) (Named v q m) = same_unit u v && same_part p q && bytes_eq n m
same_query (Of u p) (Of v q) = same_unit u v && same_property p q
same_query _ _ = false

-- the unit that a question asks about
abbrev pub unit_of : Query → UnitKey
unit_of (Named u p n) = u
unit_of (Of u p) = u
