use Rattle.std.proofs.Common.{List, map, ap, sym, subst, ◌∙◌}
use Rattle.al_base.specs.Batch.{key_of}
use Rattle.al_base.specs.declared.unit_key.UnitKey.{UnitKey}
use Rattle.al_engine.specs.Placed.{ArePlaced}
use Rattle.al_query_store.specs.Keyed.{now_at}
use Rattle.al_engine_refresh.specs.Builds.{results_of}
use Rattle.al_engine.specs.Objects.{objects_at}
use Rattle.al_engine.proofs.LinkLemmas.{named-keys}
use Rattle.al_engine.proofs.planning.partition_of.Goals as goal

pub returns : goal.returns
returns c =
    let lib = c.args.sources.now in
    let f = results_of (now_at c.args.entries.now) in
    let units = c.in_ok-units.units.items in
    record {
      ordered = c.requires.ordered;
      placed = map key_of units;
      are_placed = subst (λ (l : List UnitKey). ArePlaced lib (map key_of l) (map key_of units)) c.as_slice.ensures.value c.in_ok-units.ensures;
      symbol_is = c.in_ok-main.ensures;
      objects_are = c.in_ok-objects.ensures ∙ ap (objects_at f) c.as_slice-2.ensures.value ∙ ap (objects_at f) (sym (named-keys units));
    }
