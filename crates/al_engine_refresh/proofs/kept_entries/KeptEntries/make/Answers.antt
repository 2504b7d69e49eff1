use Rattle.std.proofs.Common.{◌++◌, ◌∙◌, [], ◌∷◌, ap}
use Rattle.al_base.specs.declared.unit_key.UnitKey.{UnitKey}
use Rattle.al_query_store.specs.Changes.{with_made}
use Rattle.al_engine_refresh.specs.Stored.{log_of}
use Rattle.al_engine_refresh.proofs.QuietLemmas.{noted-changed}
use Rattle.al_engine_refresh.proofs.kept_entries.KeptEntries.make.Goals as goal

pub invariant_of-self-2 : goal.invariant_of-self-2
invariant_of-self-2 c =
    let moved = c.self.inside.moved.items in
    noted-changed (with_made log_of c.args.entry) moved c.push.new.self.items c.args.unit.now c.self.inside.store c.make.new.self
    (c.in_ok-push.ensures.items ∙ ap (λ (u : UnitKey). moved ++ u ∷ []) c.in_ok-moved.ensures) c.self.invariant c.in_ok-make.ensures.ok
