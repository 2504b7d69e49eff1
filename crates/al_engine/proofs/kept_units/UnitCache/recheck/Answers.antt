use Rattle.std.proofs.Common.{◌∙◌, sym}
use Rattle.al_query_store.specs.Keyed.{now_at, settled_at}
use Rattle.al_engine.specs.Rechecks.{IsUpdated}
use Rattle.al_engine.specs.declared.rechecking.Rechecked.{Rechecked}
use Rattle.al_engine.proofs.KeptLemmas.{on-ok, will-keep}
use Rattle.al_engine.proofs.StayLemmas.{settled-left}
use Rattle.al_engine.proofs.kept_units.UnitCache.recheck.Goals as goal

pub invariant_of-self : goal.invariant_of-self
invariant_of-self g c = λ u e is. c.self.invariant u e (sym (settled-left c.self.inside.entries c.update.new.entries c.update.ensures.left u) ∙ is)

pub returns-clause-law : goal.returns-clause-law
returns-clause-law g c =
    let meaning = g.C.UnitCheck.meaning in
    let header = g.C.Text.ReadText.header in
    let lib = c.args.sources.now in
    let old = c.self.inside.entries in
    let new = c.update.new.entries in
    on-ok c.update.result (λ (r : Rechecked). IsUpdated meaning header (g.P.Answers.table c.args.predefined.now) lib old new r.checked.items r.compared) c.update.ensures.updated
    (λ r is. will-keep meaning header lib (settled_at old) (now_at new) new c.self.invariant is.rechecked.law is.staying)
