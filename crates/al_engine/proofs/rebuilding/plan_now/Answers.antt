use Rattle.std.proofs.Common.{ℕ, List, IfSome}
use Rattle.al_query_store.specs.Keyed.{now_at, settled_at}
use Rattle.al_engine.specs.BatchRenewals.{KeepsPartition}
use Rattle.al_engine.specs.Earlier.{KeepsEarlier}
use Rattle.al_engine_refresh.specs.Builds.{results_of}
use Rattle.al_engine.proofs.EditedThere.{each-found}
use Rattle.al_engine.proofs.Left.{known-alone, others-alone}
use Rattle.al_engine.proofs.OneFaulty.{alone_now}
use Rattle.al_engine.proofs.RebuildClean.{clean-now}
use Rattle.al_engine.proofs.rebuilding.plan_now.Goals as goal

pub base_of-requires-clause-others : goal.base_of-requires-clause-others
base_of-requires-clause-others c = others-alone (now_at c.args.entries.now) (settled_at c.args.entries.now) c.args.edits c.alone_in-unit.result c.alone_in-unit.ensures c.requires.others

pub base_of-requires-clause-kept : goal.base_of-requires-clause-kept
base_of-requires-clause-kept c =
    let K : List ℕ → Type 0 = λ last. KeepsPartition c.args.sources.now (results_of (settled_at c.args.entries.now)) last c.args.gave.now.compiled × KeepsEarlier c.args.sources.now (results_of (settled_at c.args.entries.now)) c.args.gave.now.earlier in
    each-found c.args.standing.main (λ last. IfSome c.args.edits (λ _. K last.now)) (λ last. IfSome c.alone_in-unit.result (λ _. K last.now)) c.requires.kept
    (λ last has. known-alone (K last.now) c.args.edits c.alone_in-unit.result c.alone_in-unit.ensures has)

pub plan_over-requires-clause-clean : goal.plan_over-requires-clause-clean
plan_over-requires-clause-clean c = λ is.
    clean-now c.args.sources.now (settled_at c.args.entries.now) (now_at c.args.entries.now) c.args.edits (c.requires.clean (c.is_clean-clean.ensures.clean is)) c.requires.others (c.is_clean-clean.ensures.sound is)

pub plan_over-requires-clause-faulty : goal.plan_over-requires-clause-faulty
plan_over-requires-clause-faulty c =
    alone_now c.args.sources.now (now_at c.args.entries.now) (settled_at c.args.entries.now) c.args.standing.is_clean c.args.edits c.alone_in-unit.result c.faulty_alone-faulty.result c.alone_in-unit.ensures c.faulty_alone-faulty.ensures c.requires.others c.requires.clean
