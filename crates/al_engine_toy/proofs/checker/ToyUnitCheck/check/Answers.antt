use Rattle.std.proofs.Common.{◌≡◌}
use Rattle.al_query.specs.Known.{Grounded}
use Rattle.al_query.specs.Reads.{HoldsBy}
use Rattle.al_query_outcome.specs.Defines.{DefinesOwn, DefinesParts, ShowsOnly}
use Rattle.al_query_outcome.specs.ReadsLaw.{AsksByNames, AsksOthers, FaultsFit, HasCode, NamesOnly, UsesOnly, named_by}
use Rattle.al_query_outcome.specs.Results.{checked_model}
use Rattle.al_query_outcome.specs.Words.{words_of}
use Rattle.al_query.specs.Known.{known_after}
use Rattle.std.specs.Prelude.{◌∷◌}
use Rattle.al_engine_toy.specs.Toys.{IsChecked, header_in, toy_meaning}
use Rattle.al_engine_toy.proofs.CheckResult.{asks_known, asks_named, asks_others, toy_code, toy_defines, toy_faults, toy_shows, toy_uses}
use Rattle.al_engine_toy.proofs.Results.{if_ok, on_ok}
use Rattle.al_engine_toy.proofs.checker.ToyUnitCheck.check.Goals as goal

pub returns-clause-meaning : goal.returns-clause-meaning
returns-clause-meaning g c =
    let unit = c.args.unit.now in
    let text = c.args.text.now in
    let log = c.checked_text.new.recorder.log in
    on_ok c.checked_text.result (λ x. IsChecked unit text log (checked_model x)) (λ x. HoldsBy log (λ t. checked_model x ≡ toy_meaning unit text t)) (λ x j. j.meaning) c.checked_text.ensures.checked

pub returns-clause-others : goal.returns-clause-others
returns-clause-others g c =
    let unit = c.args.unit.now in
    let text = c.args.text.now in
    let log = c.checked_text.new.recorder.log in
    if_ok c.checked_text.result (λ x. IsChecked unit text log (checked_model x)) (AsksOthers unit log) (λ x j. asks_others unit (header_in text) log j.asks) c.checked_text.ensures.checked

pub returns-clause-grounded : goal.returns-clause-grounded
returns-clause-grounded g c =
    let unit = c.args.unit.now in
    let text = c.args.text.now in
    let log = c.checked_text.new.recorder.log in
    if_ok c.checked_text.result (λ x. IsChecked unit text log (checked_model x)) (Grounded (named_by (header_in text)) log) (λ x j. asks_known unit (header_in text) log j.asks) c.checked_text.ensures.checked

pub returns-clause-words : goal.returns-clause-words
returns-clause-words g c =
    let unit = c.args.unit.now in
    let text = c.args.text.now in
    let log = c.checked_text.new.recorder.log in
    if_ok c.checked_text.result (λ x. IsChecked unit text log (checked_model x)) (AsksByNames unit (words_of text) log) (λ x j. asks_named unit (header_in text) log j.asks (words_of text)) c.checked_text.ensures.checked

pub returns-clause-names : goal.returns-clause-names
returns-clause-names g c =
    let unit = c.args.unit.now in
    let text = c.args.text.now in
    let log = c.checked_text.new.recorder.log in
    on_ok c.checked_text.result (λ x. IsChecked unit text log (checked_model x)) (λ x. NamesOnly (unit ∷ known_after (named_by (header_in text)) log) (checked_model x)) (λ x j. j.names) c.checked_text.ensures.checked

pub returns-clause-uses : goal.returns-clause-uses
returns-clause-uses g c =
    let unit = c.args.unit.now in
    let text = c.args.text.now in
    let log = c.checked_text.new.recorder.log in
    on_ok c.checked_text.result (λ x. IsChecked unit text log (checked_model x)) (λ x. UsesOnly unit log (checked_model x)) (λ x j. toy_uses unit log (checked_model x) j.toys) c.checked_text.ensures.checked

pub returns-clause-defines : goal.returns-clause-defines
returns-clause-defines g c =
    let unit = c.args.unit.now in
    let text = c.args.text.now in
    let log = c.checked_text.new.recorder.log in
    on_ok c.checked_text.result (λ x. IsChecked unit text log (checked_model x)) (λ x. DefinesOwn unit (checked_model x)) (λ x j. toy_defines unit log (checked_model x) j.toys) c.checked_text.ensures.checked

pub returns-clause-shows : goal.returns-clause-shows
returns-clause-shows g c =
    let unit = c.args.unit.now in
    let text = c.args.text.now in
    let log = c.checked_text.new.recorder.log in
    on_ok c.checked_text.result (λ x. IsChecked unit text log (checked_model x)) (λ x. ShowsOnly unit log (checked_model x)) (λ x j. toy_shows unit log (checked_model x) j.toys) c.checked_text.ensures.checked

pub returns-clause-parts : goal.returns-clause-parts
returns-clause-parts g c =
    let unit = c.args.unit.now in
    let text = c.args.text.now in
    let log = c.checked_text.new.recorder.log in
    on_ok c.checked_text.result (λ x. IsChecked unit text log (checked_model x)) (λ x. HoldsBy log (λ t. DefinesParts unit (header_in text) t (checked_model x))) (λ x j. j.parts) c.checked_text.ensures.checked

pub returns-clause-code : goal.returns-clause-code
returns-clause-code g c =
    let unit = c.args.unit.now in
    let text = c.args.text.now in
    let log = c.checked_text.new.recorder.log in
    on_ok c.checked_text.result (λ x. IsChecked unit text log (checked_model x)) (λ x. HasCode unit (checked_model x)) (λ x j. toy_code unit log (checked_model x) j.toys) c.checked_text.ensures.checked

pub returns-clause-faults : goal.returns-clause-faults
returns-clause-faults g c =
    let unit = c.args.unit.now in
    let text = c.args.text.now in
    let log = c.checked_text.new.recorder.log in
    on_ok c.checked_text.result (λ x. IsChecked unit text log (checked_model x)) (λ x. FaultsFit unit (checked_model x)) (λ x j. toy_faults unit log (checked_model x) j.toys) c.checked_text.ensures.checked
