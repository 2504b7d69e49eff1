use Rattle.std.proofs.Common.{◌≡◌, List, ℕ, false, IfSome, ap}
use Rattle.std.specs.Option.{option_map}
use Rattle.al_base.specs.declared.unit_key.UnitKey.{UnitKey}
use Rattle.al_view.specs.Symbols.{same_unit}
use Rattle.al_query_store.specs.Keyed.{now_at, settled_at}
use Rattle.al_engine_refresh.specs.Stored.{outcome_of}
use Rattle.al_engine_refresh.specs.Builds.{results_of}
use Rattle.al_engine.specs.BatchRenewals.{KeepsPartition}
use Rattle.al_engine.specs.Earlier.{KeepsEarlier}
use Rattle.al_engine.proofs.EarlierLemmas.{last-found}
use Rattle.al_engine.proofs.Taken.{some_has}
use Rattle.al_engine.proofs.batch_renewing.base_of.Goals as goal

pub returns : goal.returns
returns c =
    let lib = c.args.sources.now in
    let now = now_at c.args.entries.now in
    let settled = settled_at c.args.entries.now in
    let main = c.in-Some.main in
    let unit = c.in-Some-unit.unit in
    let K : List ℕ → Type 0 = λ m. KeepsPartition lib (results_of settled) m c.args.gave.now.compiled × KeepsEarlier lib (results_of settled) c.args.gave.now.earlier in
    let others : (w : UnitKey) → same_unit unit.now w ≡ false → now w ≡ settled w = some_has c.args.unit unit (λ u. (w : UnitKey) → same_unit u.now w ≡ false → now w ≡ settled w) c.in-Some-unit.is c.requires.others in
    let kept : K main.now = some_has c.args.unit unit (λ _. K main.now) c.in-Some-unit.is (some_has c.args.last main (λ m. IfSome c.args.unit (λ _. K m.now)) c.in-Some.is c.requires.kept) in
    last-found lib (results_of now) (results_of settled) unit.now (λ w k. ap (option_map outcome_of) (others w k)) c.args.gave.now main.now kept.0 c.last_base.result c.last_base.ensures.base c.last_base.ensures.sound
