use Rattle.std.proofs.Common.{◌∙◌, sym}
use Rattle.al_engine_refresh.specs.EntryLaw.{AllKeepLaw}
use Rattle.al_engine.specs.Rechecks.{will_be}
use Rattle.al_engine.proofs.KeptLemmas.{said-of, settled-is}
use Rattle.al_engine.proofs.kept_units.UnitCache.settle.Goals as goal

pub invariant_of-self : goal.invariant_of-self
invariant_of-self g c =
    let old = c.self.inside.entries in
    let new = c.settle.new.self in
    let law : AllKeepLaw g.C.UnitCheck.meaning g.C.Text.ReadText.header (will_be old) = said-of (λ s. AllKeepLaw g.C.UnitCheck.meaning g.C.Text.ReadText.header (will_be s)) _ _ c.self.view_is c.requires in
    λ u e is. law u e (sym (settled-is old new c.settle.ensures u) ∙ is)
