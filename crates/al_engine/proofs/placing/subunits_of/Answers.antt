use Rattle.std.proofs.Common.{map, ap, ◌∙◌}
use Rattle.al_base.specs.Batch.{key_of}
use Rattle.al_engine.specs.Placed.{subunits_among}
use Rattle.al_engine.proofs.PlacedLemmas.{are-subunits}
use Rattle.al_engine.proofs.placing.subunits_of.Goals as goal

pub returns : goal.returns
returns c =
    are-subunits c.args.sources.now (key_of c.args.item.now) _ _ c.in_ok-parts.ensures (c.in_ok-found.ensures ∙ ap (λ ks. subunits_among (map key_of ks)) c.as_slice.ensures.value)
