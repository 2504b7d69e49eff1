use Rattle.std.proofs.Common.{map, ap, ◌∙◌}
use Rattle.al_base.specs.Batch.{key_of}
use Rattle.al_engine.proofs.Obsolete.{listed}
use Rattle.al_engine.proofs.building.obsolete_since.Goals as goal

pub returns : goal.returns
returns g c =
    listed _ _ _ _ _ _ (map key_of c.in_ok-units.units.items) c.sources.ensures (c.sources-2.ensures ∙ ap g.R.ReadFiles.library c.in_ok-read.ensures) c.in_ok-faulty.ensures c.requires c.in_ok-units.ensures
