use Rattle.std.proofs.Common.{◌∙◌, ap, subst, true, List}
use Rattle.al_base.specs.declared.unit_key.UnitKey.{UnitKey}
use Rattle.al_view.specs.Symbols.{same_unit}
use Rattle.al_query_store.specs.Keyed.{State, state, base_state, with_slots}
use Rattle.std.proofs.lemmas.Result.{IfOk-weaker, on_ok_weaker}
use Rattle.al_query_store.specs.Changes.{ComparesUnit, HasAnswers}
use Rattle.al_query_store.proofs.MarkedLemmas.{cells-based, compared-state, state-based}
use Rattle.al_query_store.proofs.SpotLemmas.{has-answers}
use Rattle.al_query_store.proofs.store.Store.mark.Goals as goal

pub invariant_of-self : goal.invariant_of-self
invariant_of-self g c = cells-based c.self.inside.cells.entries c.self.inside.slots c.mark.new.self c.mark.ensures.base c.self.invariant

pub returns-clause-marked : goal.returns-clause-marked
returns-clause-marked g c =
    let log = g.E.Logged.log in
    let t = g.A.Answers.table c.args.asked.now in
    let unit = c.args.unit.now in
    let cells = c.self.inside.cells.entries in
    let s = c.self.inside.slots in
    let n = c.mark.new.self in
    on_ok_weaker c.mark.result (λ m. subst (λ (l : List (UnitKey × State g.row.E.Denot)). ComparesUnit log t unit l (with_slots cells n)) c.self.view_is
    (record {
      base = state-based cells s n c.mark.ensures.base;
      marks = compared-state log t unit cells s n c.self.invariant c.mark.ensures.base c.mark.ensures.sized m;
    })) c.mark.ensures.marked

pub returns-clause-counted : goal.returns-clause-counted
returns-clause-counted g c =
    let log = g.E.Logged.log in
    let unit = c.args.unit.now in
    let cells = c.self.inside.cells.entries in
    let s = c.self.inside.slots in
    IfOk-weaker c.mark.result _ _ (λ n is. subst (λ (l : List (UnitKey × State g.row.E.Denot)). HasAnswers log (λ u. true) (λ u. same_unit u unit) l n) c.self.view_is
    (has-answers log unit cells s c.self.invariant n is)) c.mark.ensures.counted

pub returns-clause-base : goal.returns-clause-base
returns-clause-base g c u =
    state-based c.self.inside.cells.entries c.self.inside.slots c.mark.new.self c.mark.ensures.base u ∙ ap (λ (l : List (UnitKey × State g.row.E.Denot)). base_state (state l u)) c.self.view_is
