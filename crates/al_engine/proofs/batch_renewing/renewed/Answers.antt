use Rattle.std.proofs.Common.{map, set, sym, ap, ◌∙◌}
use Rattle.al_query_store.specs.Keyed.{now_at}
use Rattle.al_engine_refresh.specs.Builds.{results_of}
use Rattle.al_engine.specs.ObjectsSeen.{object_model}
use Rattle.al_engine.specs.BatchRenewals.{renewed}
use Rattle.al_engine.proofs.RenewLemmas.{renewed-plan}
use Rattle.al_engine.proofs.batch_renewing.renewed.Goals as goal

pub returns : goal.returns
returns c =
    let entries = c.args.entries.now in
    let kept = c.requires.kept in
    let x = object_model c.in-Some.object in
    renewed-plan (results_of (now_at entries)) kept.outcomes c.args.unit.now x kept.others kept.sound (rw c.in-Some.is at c.in_ok-object.ensures)
    c.args.sources.now c.args.main.now c.args.before.now c.in-Made.program (record { main = c.in_ok-main.main; at = c.in-Some-place_of.at; object = c.in-Some.object }) c.in-Made.is c.requires.clean kept.keeps c.in_ok-main.ensures
    (ap (λ us. renewed x (map object_model us)) (sym c.as_slice.ensures.value) ∙ c.in-Some-place_of.ensures ∙ ap (λ us. set (map object_model us) c.in-Some-place_of.at x) c.as_slice.ensures.value)
