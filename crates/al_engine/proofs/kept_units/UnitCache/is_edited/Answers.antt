use Rattle.std.proofs.Common.{sym, ap, ◌∙◌}
use Rattle.std.specs.Option.{option_copied}
use Rattle.al_query_store.specs.Keyed.{entry_of}
use Rattle.al_engine.proofs.KeptLemmas.{clash}
use Rattle.al_engine.proofs.kept_units.UnitCache.is_edited.Goals as goal

pub returns-in-Some : goal.returns-in-Some
returns-in-Some g c =
    rw (← c.self.view_is) (λ is. (c.in-Some.held.now.entry, ap entry_of (sym c.settled.ensures ∙ ap option_copied c.in-Some.is), λ same. clash c.has_text.result (c.has_text.ensures (c.text.ensures ∙ same)) is))
