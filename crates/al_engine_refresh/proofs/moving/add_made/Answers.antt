use Rattle.std.proofs.Common.{refl}
use Rattle.al_query_store.specs.Changes.{with_made}
use Rattle.al_engine_refresh.specs.Stored.{log_of}
use Rattle.al_query_store.specs.Keyed.{state}
use Rattle.al_engine_refresh.proofs.Comparing.{compared-more}
use Rattle.al_engine_refresh.proofs.HandleLemmas.{on_ok}
use Rattle.al_engine_refresh.proofs.Turning.{left-by, none-made, turned-by}
use Rattle.al_engine_refresh.proofs.moving.add_made.Goals as goal

pub returns-clause-turned : goal.returns-clause-turned
returns-clause-turned g c =
    on_ok c.compare.result _ _ (turned-by (g.P.Answers.table c.args.predefined.now) (with_made log_of c.args.entry) c.args.unit.now c.args.entries.now c.make.new.self c.compare.new.entries c.in_ok-make.ensures.ok (λ s. refl)) c.compare.ensures.marked

pub returns-clause-compared : goal.returns-clause-compared
returns-clause-compared g c is =
    let s = state c.args.entries.now c.args.unit.now in
    on_ok c.compare.result _ _ (λ has. compared-more (with_made log_of c.args.entry) c.args.unit.now c.args.entries.now c.make.new.self c.compare.new.entries c.in_ok-make.ensures.ok (λ s. refl) c.compare.ensures.base c.requires.unmoved refl c.args.compared.now c.compare.new.compared is has.0 has.1 has.2) c.compare.ensures.counted

pub returns-clause-left : goal.returns-clause-left
returns-clause-left g c =
    left-by (g.P.Answers.table c.args.predefined.now) (with_made log_of c.args.entry) c.args.unit.now c.args.entries.now c.make.new.self c.compare.new.entries c.in_ok-make.ensures.ok (λ s. refl) (λ s. refl) c.compare.ensures.base

pub make-requires : goal.make-requires
make-requires g c = none-made (state c.args.entries.now c.args.unit.now) c.requires.unmoved
