use Rattle.std.proofs.Common.{◌≡◌, drop, map}
use Rattle.al_overload_lookup.proofs.Fronts.{IsFront, with_rest}
use Rattle.al_overload_lookup.specs.Lookups.{asked_units, looked_up_all}
use Rattle.al_overload_lookup.specs.TextNames.{identifier_names}
use Rattle.al_query.specs.Asked.{AsksOf, by_some_name}
use Rattle.al_query.specs.Reads.{FromAnswers}
use Rattle.al_tree.specs.Lexemes.{identifier_label}
use Rattle.al_overload_lookup.proofs.selectors.look_up_selected.Given as goal

-- what was looked up, and then the rest, gives what is wanted
abbrev pub invariant-loop-selector : goal.invariant-loop-selector
invariant-loop-selector g l = record {
  asked : l.recorder.asked ≡ l.fn.recorder.asked;
  answered : FromAnswers l.fn.recorder.log l.recorder.log (λ t. (with_rest t l.scope l.packages l.names l.key.items (drop l.selector-index l.selectors) ≡ looked_up_all t l.scope l.packages (identifier_names (identifier_label l.first) (map identifier_label l.selectors))) × IsFront l.names l.key.items);
  asks : AsksOf (asked_units l.scope l.packages) by_some_name l.fn.recorder.log l.recorder.log;
}
