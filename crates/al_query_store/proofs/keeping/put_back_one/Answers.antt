use Rattle.std.proofs.Common.{sym, refl}
use Rattle.slab.specs.Slab.{with_value}
use Rattle.al_query_store.specs.Stored.{base}
use Rattle.al_query_store.proofs.KeepLemmas.{none_changed, one_changed}
use Rattle.al_query_store.proofs.keeping.put_back_one.Goals as goal

pub returns-in_default : goal.returns-in_default
returns-in_default g c = none_changed base c.args.entries.now c.args.key (sym c.in_default.ensures.value)

pub returns : goal.returns
returns g c =
    one_changed base c.args.entries.now (with_value c.args.entries.now c.args.key c.put_back.new.self) c.args.key c.in-Some.held.now c.put_back.new.self (sym c.in-Some.ensures.value) c.put_back.ensures refl
