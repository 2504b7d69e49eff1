use Rattle.std.proofs.Common.{ℕ, List, sym, subst}
use Rattle.al_query_store.specs.Keyed.{now_at, settled_at}
use Rattle.al_engine_refresh.specs.Builds.{results_of}
use Rattle.al_engine.specs.Rechecks.{setting_of}
use Rattle.al_engine.specs.Batches.{IsCompiled}
use Rattle.al_engine.specs.Earlier.{IsBase, IsBehind}
use Rattle.al_engine.proofs.EditedThere.{each-found}
use Rattle.al_engine.proofs.building.build_read.Goals as goal

pub finish-requires-clause-law : goal.finish-requires-clause-law
finish-requires-clause-law g c = c.in_ok-begun.ensures.prepared.law

pub finish-requires-clause-closed : goal.finish-requires-clause-closed
finish-requires-clause-closed g c = c.in_ok-begun.ensures.prepared.closed

pub finish-requires-clause-behind : goal.finish-requires-clause-behind
finish-requires-clause-behind g c =
    each-found c.in_ok-begun.begun.prepared.base (IsBase (g.R.ReadFiles.library (g.R.ReadFiles.files c.args.read)) (results_of (now_at c.begin.new.cache.store)) c.args.gave.now) (IsBehind c.args.gave.now) c.in_ok-begun.ensures.prepared.is_base (λ b is. is.behind)

pub returns-clause-rebuilt : goal.returns-clause-rebuilt
returns-clause-rebuilt g c =
    c.in_ok-finish.ensures.rebuilt g.C.Text.ReadText.header (g.P.Answers.table c.args.predefined.now) (g.R.ReadFiles.library (g.R.ReadFiles.files c.args.read)) c.args.main.now c.args.cache.now.store c.in_ok-begun.ensures.left c.in_ok-begun.ensures.prepared

pub returns-clause-right : goal.returns-clause-right
returns-clause-right g c =
    let meaning = g.C.UnitCheck.meaning in
    let header = g.C.Text.ReadText.header in
    let table = g.P.Answers.table c.args.predefined.now in
    let lib = g.R.ReadFiles.library (g.R.ReadFiles.files c.args.read) in
    let old = settled_at c.args.cache.now.store in
    let is = (c.in_ok-finish.ensures.rebuilt header table lib c.args.main.now c.args.cache.now.store c.in_ok-begun.ensures.left c.in_ok-begun.ensures.prepared).0 in
    let compiled = c.rebuilds_are_compiled.ensures meaning header table lib c.args.main.now old (settled_at c.finish.new.cache.store) c.finish.new.gave is in
    subst (λ (m : List ℕ). IsCompiled meaning (setting_of header table lib) m c.finish.new.gave.compiled) (sym c.in_ok-name.ensures) compiled
