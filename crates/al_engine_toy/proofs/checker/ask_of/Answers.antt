use Rattle.std.proofs.Common.{◌≡◌, subst}
use Rattle.std.specs.Prelude.{IfOk}
use Rattle.al_base.specs.declared.unit_key.UnitKey.{UnitKey}
use Rattle.al_query.specs.Known.{Learns}
use Rattle.al_query.specs.Reads.{FromAnswers}
use Rattle.al_query.specs.declared.query.Query.TheVariants.{Of}
use Rattle.al_engine_toy.proofs.checker.ask_of.Goals as goal

pub returns-clause-answered : goal.returns-clause-answered
returns-clause-answered g c =
    subst (λ (u : UnitKey). IfOk c.ask.result (λ a. FromAnswers c.args.recorder.now.log c.ask.new.self.log (λ t. t (Of u c.args.property) ≡ a))) c.in_ok-unit.ensures c.ask.ensures.answered

pub returns-clause-learns : goal.returns-clause-learns
returns-clause-learns g c =
    subst (λ (u : UnitKey). IfOk c.ask.result (λ a. Learns c.args.recorder.now.log c.ask.new.self.log (Of u c.args.property) a)) c.in_ok-unit.ensures c.ask.ensures.learns
