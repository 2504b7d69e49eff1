use Rattle.std.proofs.Common.{sym, refl}
use Rattle.slab.specs.Slab.{with_value}
use Rattle.al_query_store.specs.Stored.{settled}
use Rattle.al_query_store.proofs.KeepLemmas.{none_changed, one_changed}
use Rattle.al_query_store.proofs.keeping.settle_one.Goals as goal

pub returns-in_default : goal.returns-in_default
returns-in_default g c = none_changed settled c.args.entries.now c.args.key (sym c.in_default.ensures.value)

pub returns : goal.returns
returns g c =
    one_changed settled c.args.entries.now (with_value c.args.entries.now c.args.key c.settle.new.self) c.args.key c.in-Some.held.now c.settle.new.self (sym c.in-Some.ensures.value) c.settle.ensures refl
