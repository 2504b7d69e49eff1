use Rattle.std.proofs.Common.{◌≡◌, ◌↔◌, ◌∙◌, sym, ap, subst, Some, None, Option, IsTrue, is_some}
use Rattle.std.specs.Option.{option_copied}
use Rattle.al_query_store.specs.declared.slots.Held.{Held}
use Rattle.al_query_store.specs.Keyed.{entry_of, state}
use Rattle.al_engine_refresh.specs.EntryLaw.{HasCurrent}
use Rattle.al_engine_refresh.specs.Stored.{Stored}
use Rattle.al_engine_refresh.proofs.unit.has_current.Goals as goal

pub returns-in-Some-clause-current : goal.returns-in-Some-clause-current
returns-in-Some-clause-current c t marks =
    let held = c.in-Some.held.now in
    let there : (state c.args.entries.now c.args.unit.now).settled ≡ Some held = sym c.settled.ensures ∙ ap option_copied c.in-Some.is in
    subst (λ (o : Option (Held Stored)). IsTrue c.may_be_used.result ↔ HasCurrent (entry_of o) c.args.text.now t) (sym there)
    (c.may_be_used.ensures t (marks c.args.unit.now held there))

pub returns-in-None-clause-current : goal.returns-in-None-clause-current
returns-in-None-clause-current c t marks =
    let none : (state c.args.entries.now c.args.unit.now).settled ≡ None = sym c.settled.ensures ∙ ap option_copied c.in-None.is in
    (λ is. absurd (cc), λ has. absurd (subst (λ (o : Option (Held Stored)). HasCurrent (entry_of o) c.args.text.now t) none has))

pub returns-in-Some-clause-there : goal.returns-in-Some-clause-there
returns-in-Some-clause-there c is = ap is_some (sym c.settled.ensures ∙ ap option_copied c.in-Some.is)
