use Rattle.std.proofs.Common.{ℕ, ◌<◌, ◌^◌, arith, subst, map}
use Rattle.al_engine.proofs.Again.{build-again, right-again}
use Rattle.al_engine.proofs.engine.Engine.repeat.Goals as goal

pub invariant_of-self : goal.invariant_of-self
invariant_of-self g c = (
  right-again g.C.UnitCheck.meaning g.C.Text.ReadText.header g.R.ReadFiles.library (λ b. (g.R.ReadFiles.files b.read, b.graph.value, map (λ o. o.value) b.orders.items)) (λ b. g.R.ReadFiles.files b.read) (λ b. b.main) c.self.inside.gave
      c.empty.result c.empty.ensures c.empty-2.result c.empty-2.ensures c.self.inside.files c.self.inside.is_edited c.self.inside.last (g.P.Answers.table c.self.inside.predefined) c.self.inside.cache.store c.self.invariant.0,
  c.self.invariant.1,
)

pub returns-clause-built : goal.returns-clause-built
returns-clause-built g c = λ main.
    build-again g.C.UnitCheck.meaning g.C.Text.ReadText.header g.R.ReadFiles.library (λ b. (g.R.ReadFiles.files b.read, b.graph.value, map (λ o. o.value) b.orders.items)) (λ b. g.R.ReadFiles.files b.read) (λ b. b.main) c.self.inside.gave
    c.empty.result c.empty.ensures c.empty-2.result c.empty-2.ensures c.self.inside.files c.self.inside.is_edited g.C.UnitCheck.count g.P.Answers.table c.self.inside.cache c.self.inside.predefined
    (subst (λ (n : ℕ). n < 2 ^ 64) c.checks-before.ensures (omega arith)) main c.self.inside.last c.args.self.now c.self.view_is c.self.invariant.0
