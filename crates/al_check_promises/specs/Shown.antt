-- A table that knows only what was recorded: what comes of every table comes of the recorded answers.
use Rattle.std.specs.Prelude.{◌≡◌, ◌⊎◌, List, unwrap_or}
use Rattle.std.specs.List.{Contains, flat_map}
use Rattle.al_base.specs.declared.unit_key.UnitKey.{UnitKey}
use Rattle.al_view.specs.ViewUses.{view_uses}
use Rattle.al_view.specs.declared.link.LinkSymbol.{LinkSymbol}
use Rattle.al_view.specs.declared.view.ViewKind.{ViewKind}
use Rattle.al_query.specs.Reads.{Log, Table, recorded}
use Rattle.al_query.specs.declared.query.Query.{Query}
use Rattle.al_query_outcome.specs.ReadsLaw.{answer_uses, log_uses}
use Rattle.al_query_outcome.specs.Tables.{no_answer}

-- recorded questions have their answers, and no other is answered
abbrev pub only_recorded : Log → Table
only_recorded log q = unwrap_or (recorded log q) (no_answer q)

-- these views are the unit's own, or in answers of the table: they show nothing else
abbrev pub ComeOf : UnitKey → Table → List ViewKind → Type 0
ComeOf unit t views = (x : LinkSymbol) → Contains (flat_map view_uses views) x → (x.symbol.unit ≡ unit) ⊎ ((q : Query) × Contains (answer_uses (t q)) x)

-- these views are the unit's own, or in the recorded answers
abbrev pub WereShown : UnitKey → Log → List ViewKind → Type 0
WereShown unit log views = (x : LinkSymbol) → Contains (flat_map view_uses views) x → (x.symbol.unit ≡ unit) ⊎ Contains (log_uses log) x
