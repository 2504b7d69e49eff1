use Rattle.std.proofs.Common.{◌≡◌, sym, ap, ◌∙◌}
use Rattle.al_base.specs.declared.unit_key.UnitKind.{UnitKind}
use Rattle.al_base.specs.declared.unit_key.UnitKind.TheVariants.{Body}
use Rattle.al_query.specs.Reads.{FromAnswers}
use Rattle.al_engine_toy.specs.Toys.{header_in, is_whole, is_whole_as}
use Rattle.al_engine_toy.proofs.JudgeLemmas.{asks_nothing}
use Rattle.al_engine_toy.proofs.Results.{on_ok}
use Rattle.al_engine_toy.proofs.checker.is_whole.Goals as goal

pub returns-in-Decl-clause-whole : goal.returns-in-Decl-clause-whole
returns-in-Decl-clause-whole g c = λ t agrees. (agrees, sym (ap (λ (k : UnitKind). is_whole_as k c.args.unit.now.name (header_in c.args.text.now) t) c.in-Decl.is))

pub returns-in-Decl-clause-asks : goal.returns-in-Decl-clause-asks
returns-in-Decl-clause-asks g c = asks_nothing c.args.unit.now (header_in c.args.text.now) c.args.recorder.now.log

pub returns-in-Body-clause-whole : goal.returns-in-Body-clause-whole
returns-in-Body-clause-whole g c =
    let unit = c.args.unit.now in
    let h = header_in c.args.text.now in
    let old = c.args.recorder.now.log in
    let log = c.is_whole_text.new.recorder.log in
    on_ok c.is_whole_text.result (λ b. FromAnswers old log (λ t. b ≡ is_whole_as Body unit.name h t)) (λ b. FromAnswers old log (λ t. b ≡ is_whole unit h t))
    (λ b whole t agrees.
    let m = whole t agrees in
    (m.0, m.1 ∙ sym (ap (λ (k : UnitKind). is_whole_as k unit.name h t) c.in-Body.is)))
    c.is_whole_text.ensures.whole

pub returns-in-Sub-clause-whole : goal.returns-in-Sub-clause-whole
returns-in-Sub-clause-whole g c = λ t agrees. (agrees, sym (ap (λ (k : UnitKind). is_whole_as k c.args.unit.now.name (header_in c.args.text.now) t) c.in-Sub.is))

pub returns-in-Sub-clause-asks : goal.returns-in-Sub-clause-asks
returns-in-Sub-clause-asks g c = asks_nothing c.args.unit.now (header_in c.args.text.now) c.args.recorder.now.log
