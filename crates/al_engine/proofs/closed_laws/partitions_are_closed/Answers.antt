use Rattle.al_query_outcome.specs.Equations.{unit_named}
use Rattle.al_engine_refresh.specs.Builds.{results_of}
use Rattle.al_engine.specs.Rechecks.{setting_of}
use Rattle.al_engine.specs.Whole.{IsWhole}
use Rattle.al_engine.proofs.Closing.{closed_partition, closed_plan}
use Rattle.al_engine.proofs.Entries.{M, direct_with, fit, keeps, parts, solves, symbols, there_with}
use Rattle.al_engine.proofs.Sound.{all_sound, no_rule_broken, sound_unit}
use Rattle.al_engine.proofs.closed_laws.partitions_are_closed.Goals as goal

pub returns : goal.returns
returns c = λ meaning header predefined lib order headed named answers ordered old made checked r main before planned is.
    let s = setting_of header predefined lib in
    let f = results_of made in
    let setting = (c.order_is_for_builds.ensures header lib predefined order headed named answers ordered).0 in
    closed_plan lib f main before planned is (λ none items symbol us partition.
    let fits = fit meaning header predefined lib old made checked r in
    let sound = all_sound lib f fits none in
    let closed = c.all_is_defined.ensures (M meaning header predefined lib old made checked r) s setting (keeps meaning header predefined lib old made checked r) main f (solves meaning header predefined lib old made checked r) (symbols meaning header predefined lib old made checked r) sound (parts meaning header predefined lib old made checked r) answers.uncoded partition.ordered.complete in
    let whole : IsWhole lib = record {
      named = named;
      faultless = no_rule_broken lib f fits none;
      direct_there = λ k d h at on. direct_with meaning header predefined lib old made checked r (unit_named k) d (sound_unit lib f fits none (unit_named k) h at) on;
    } in
    closed_partition s main f closed c.objects_have_their_trees_symbols.ensures c.needed_are_placed.ensures whole (there_with meaning header predefined lib old made checked r) items symbol us partition)
