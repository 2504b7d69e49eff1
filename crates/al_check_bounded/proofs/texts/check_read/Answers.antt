use Rattle.std.proofs.Common.{◌≤◌, ℕ, List, length, subst, sym}
use Rattle.std.proofs.lemmas.Result.{IfOk-weaker}
use Rattle.std.specs.Prelude.{OnOk}
use Rattle.al_tree.specs.UnitViews.{unit_model}
use Rattle.al_query_outcome.specs.ReadsLaw.{AsksByNames}
use Rattle.al_query_outcome.specs.Results.{checked_model}
use Rattle.al_query_outcome.specs.Words.{words_of}
use Rattle.al_check_bounded.proofs.Reading.{a_unit, with_bytes}
use Rattle.al_check_bounded.proofs.texts.check_read.Goals as goal

pub check_within-requires-clause-text : goal.check_within-requires-clause-text
check_within-requires-clause-text g c =
    subst (λ (t : List ℕ). length t ≤ 4294967294) (sym c.as_slice-bytes.ensures) (c.units_are_read.ensures c.args.text.now (unit_model c.args.read.now.tree) c.requires.tree).0

pub returns-clause-checked : goal.returns-clause-checked
returns-clause-checked g c =
    let tree = unit_model c.args.read.now.tree in
    IfOk-weaker c.check_within.result _ _ (λ v k.
    a_unit g.F.UnitFinder.units g.F.UnitFinder.names g.F.UnitFinder.verdict c.args.unit.now c.args.text.now c.check_within.new.recorder.log (checked_model v) c.headers_are_read.ensures c.units_are_read.ensures tree c.requires.tree
    (with_bytes g.F.UnitFinder.units g.F.UnitFinder.names g.F.UnitFinder.verdict c.args.unit.now c.as_slice-bytes.result.now c.args.text.now tree c.check_within.new.recorder.log (checked_model v) c.as_slice-bytes.ensures k)) c.check_within.ensures.checked

pub returns-clause-names : goal.returns-clause-names
returns-clause-names g c =
    subst (λ (t : List ℕ). OnOk c.check_within.result (AsksByNames c.args.unit.now (words_of t) c.check_within.new.recorder.log)) c.as_slice-bytes.ensures c.check_within.ensures.names
