use Rattle.std.proofs.Common.{◌∙◌, false, sym, is_some}
use Rattle.al_query_store.specs.Units.{at_unit}
use Rattle.al_view.proofs.SymbolLemmas.{both}
use Rattle.al_query_store.specs.Keyed.{leaving, state, with_reached}
use Rattle.al_engine_refresh.specs.Staying.{is_there}
use Rattle.al_engine_refresh.specs.Moving.{left_out}
use Rattle.al_engine_refresh.proofs.HandleLemmas.{on_ok}
use Rattle.al_engine_refresh.proofs.LeftLemmas.{left_out-leaves, left_out-stays, left_out-turns, turned-as, turned-still}
use Rattle.al_engine_refresh.proofs.Turning.{there-settled}
use Rattle.al_engine_refresh.proofs.leaving.leave_one.Goals as goal

pub leave-requires-clause-there : goal.leave-requires-clause-there
leave-requires-clause-there g c =
    there-settled c.args.entries.now c.args.unit.now (both _ _ (sym c.is_gone.ensures ∙ c.if-is_gone.true)).0

pub returns-then-is_gone-clause-turned : goal.returns-then-is_gone-clause-turned
returns-then-is_gone-clause-turned g c =
    let unit = c.args.unit.now in
    let store = c.args.entries.now in
    let there = is_there c.args.sources.now unit in
    let ordered = is_some (at_unit c.args.order.now unit) in
    on_ok c.leave.result _ _
    (turned-as (g.P.Answers.table c.args.predefined.now) leaving (left_out there ordered) unit store c.leave.new.entries (left_out-leaves there ordered (state store unit) (sym c.is_gone.ensures ∙ c.if-is_gone.true)))
    c.leave.ensures.turned

pub returns-then-has-clause-turned : goal.returns-then-has-clause-turned
returns-then-has-clause-turned g c =
    let unit = c.args.unit.now in
    let store = c.args.entries.now in
    let there = is_there c.args.sources.now unit in
    let ordered = is_some (at_unit c.args.order.now unit) in
    turned-still (g.P.Answers.table c.args.predefined.now) (left_out there ordered) unit store (left_out-stays there ordered (state store unit) (sym c.is_gone.ensures ∙ c.if-is_gone.false) (sym c.has.ensures ∙ c.if-has.true))

pub returns-clause-turned : goal.returns-clause-turned
returns-clause-turned g c =
    let unit = c.args.unit.now in
    let store = c.args.entries.now in
    let there = is_there c.args.sources.now unit in
    let ordered = is_some (at_unit c.args.order.now unit) in
    on_ok c.turn.result _ _
    (turned-as (g.P.Answers.table c.args.predefined.now) (with_reached false) (left_out there ordered) unit store c.turn.new.entries (left_out-turns there ordered (state store unit) (sym c.is_gone.ensures ∙ c.if-is_gone.false) (sym c.has.ensures ∙ c.if-has.false)))
    c.turn.ensures.turned
