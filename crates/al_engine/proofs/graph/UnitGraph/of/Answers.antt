use Rattle.std.proofs.Common.{List, map, ap, sym, subst, ◌∙◌}
use Rattle.std.specs.List.{Contains}
use Rattle.al_base.specs.Batch.{Key, key_of}
use Rattle.al_engine.proofs.graph.UnitGraph.of.Goals as goal

pub returns : goal.returns
returns c =
    record {
      faults = c.in_ok-faults.ensures.found;
      order = c.in_ok-order.ensures;
      bases = λ key d is at. c.in_ok-bases.ensures key d (subst (λ (ks : List Key). Contains ks key) (sym (ap (map key_of) c.as_slice-2.ensures.value)) ((c.in_ok-order.ensures.all key).1 is)) at;
    }
