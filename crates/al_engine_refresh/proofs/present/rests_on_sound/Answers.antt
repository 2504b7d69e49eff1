use Rattle.std.proofs.Common.{Bool, ◌∙◌, ap}
use Rattle.std.specs.List.{list_all}
use Rattle.al_base.specs.declared.unit_key.UnitKey.{UnitKey}
use Rattle.al_base.specs.Batch.{Key}
use Rattle.al_query_store.specs.Keyed.{now_at}
use Rattle.al_query_outcome.specs.Equations.{is_sound, unit_named}
use Rattle.al_engine_refresh.specs.Builds.{results_of}
use Rattle.al_engine_refresh.proofs.HandleLemmas.{all-keys}
use Rattle.al_engine_refresh.proofs.present.rests_on_sound.Goals as goal

pub returns : goal.returns
returns c =
    let sound : UnitKey → Bool = λ u. is_sound (results_of (now_at c.args.entries.now) u) in
    c.all_sound.ensures ∙ ap (list_all sound) c.as_slice.ensures.value ∙ all-keys sound c.in_ok-units.units.items ∙ ap (list_all (λ (k : Key). sound (unit_named k))) c.in_ok-units.ensures
