use Rattle.std.proofs.Common.{◌≡◌, ℕ, Bool, true, false, ◌&&◌, List, None, sym, ap, ◌∙◌}
use Rattle.al_query.specs.Answers.{completions_of, declaration}
use Rattle.al_query.specs.Reads.{FromAnswers, Table}
use Rattle.al_query.specs.declared.query.Property.TheVariants.{Completions}
use Rattle.al_query.specs.declared.query.Query.TheVariants.{Of}
use Rattle.al_base.specs.declared.unit_key.UnitKind.TheVariants.{Body}
use Rattle.al_unit_graph.specs.Headers.{Header}
use Rattle.al_engine_toy.specs.Toys.{AsksWell, header_in, is_body_of, is_nothing, is_whole_as}
use Rattle.al_engine_toy.proofs.JudgeLemmas.{asks_nothing}
use Rattle.al_engine_toy.proofs.Known.{no_parent_body}
use Rattle.al_engine_toy.proofs.Results.{ok_then, on_ok}
use Rattle.al_engine_toy.proofs.checker.is_whole_text.Goals as goal

pub returns-then-is_body-clause-whole : goal.returns-then-is_body-clause-whole
returns-then-is_body-clause-whole g c =
    let name = c.args.unit.now.name in
    let h = header_in c.args.text.now in
    let old = c.args.recorder.now.log in
    let log = c.is_whole_body.new.recorder.log in
    let is : is_body_of h name ≡ true = sym (ap (λ (n : List ℕ). is_body_of h n) c.as_slice.ensures) ∙ sym c.in_ok-is_body.ensures ∙ c.if-is_body.true in
    let left : Table → Bool = λ t. is_nothing (completions_of (t (Of (declaration name) Completions))) in
    on_ok c.is_whole_body.result (λ b. FromAnswers old log (λ t. b ≡ left t)) (λ b. FromAnswers old log (λ t. b ≡ is_whole_as Body name h t))
    (λ b whole t agrees.
    let m = whole t agrees in
    (m.0, m.1 ∙ sym (ap (λ (b : Bool). b && left t) is)))
    c.is_whole_body.ensures.whole

pub returns-then-is_body-clause-asks : goal.returns-then-is_body-clause-asks
returns-then-is_body-clause-asks g c =
    let unit = c.args.unit.now in
    let h = header_in c.args.text.now in
    let old = c.args.recorder.now.log in
    let log = c.is_whole_body.new.recorder.log in
    let is : is_body_of h unit.name ≡ true = sym (ap (λ (n : List ℕ). is_body_of h n) c.as_slice.ensures) ∙ sym c.in_ok-is_body.ensures ∙ c.if-is_body.true in
    ok_then c.is_whole_body.result ((x : Header) → is_body_of x unit.name ≡ true → x.parent_body ≡ None → AsksWell unit x old log) (AsksWell unit h old log)
    (λ asks. asks h is (no_parent_body c.args.text.now))
    c.is_whole_body.ensures.asks

pub returns-else-is_body-clause-whole : goal.returns-else-is_body-clause-whole
returns-else-is_body-clause-whole g c = λ t agrees.
    let h = header_in c.args.text.now in
    let name = c.args.unit.now.name in
    let is : is_body_of h name ≡ false = sym (ap (λ (n : List ℕ). is_body_of h n) c.as_slice.ensures) ∙ sym c.in_ok-is_body.ensures ∙ c.if-is_body.false in
    (agrees, sym (ap (λ (b : Bool). b && is_nothing (completions_of (t (Of (declaration name) Completions)))) is))

pub returns-else-is_body-clause-asks : goal.returns-else-is_body-clause-asks
returns-else-is_body-clause-asks g c = asks_nothing c.args.unit.now (header_in c.args.text.now) c.args.recorder.now.log
