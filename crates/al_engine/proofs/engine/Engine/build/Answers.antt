use Rattle.std.proofs.Common.{◌∙◌, map}
use Rattle.al_engine.proofs.BuiltLemmas.{build-built, right-built, right-refused}
use Rattle.al_engine.proofs.Readings.{edit-known, edit-taken, spare-taken, twice-now, without-spare}
use Rattle.al_engine.proofs.engine.Engine.build.Goals as goal

pub read-requires-clause-spare : goal.read-requires-clause-spare
read-requires-clause-spare g c =
    let files = g.R.ReadFiles.files in spare-taken (λ b. files b.read) files c.self.inside.files c.self.inside.last c.self.inside.spare c.take-spare.result c.self.inside.alone c.take-spare.ensures.value c.self.invariant.1

pub read-requires-clause-alone : goal.read-requires-clause-alone
read-requires-clause-alone g c =
    let files = g.R.ReadFiles.files in edit-known (λ b. files b.read) files c.self.inside.files c.self.inside.last c.self.inside.spare c.self.inside.alone c.self.invariant.1

pub read_twice-requires : goal.read_twice-requires
read_twice-requires g c =
    let files = g.R.ReadFiles.files in edit-taken (λ b. files b.read) files c.self.inside.files c.self.inside.last c.replace-before.result c.self.inside.spare c.self.inside.alone c.replace-before.ensures.value c.self.invariant.1

-- if memory runs out, all entries of the units are as before
pub invariant_of-self-in_err-last : goal.invariant_of-self-in_err-last
invariant_of-self-in_err-last g c =
    let files = g.R.ReadFiles.files in (
      right-refused g.C.UnitCheck.meaning g.C.Text.ReadText.header g.R.ReadFiles.library (λ b. (files b.read, b.graph.value, map (λ o. o.value) b.orders.items)) (λ b. files b.read) (λ b. b.main)
          (g.P.Answers.table c.self.inside.predefined) c.self.inside.cache.store c.build_or_cancel.new.cache.store c.in_err-last.ensures.err.0 c.self.inside.gave c.build_or_cancel.new.gave c.in_err-last.ensures.err.1
          c.self.inside.files c.self.inside.is_edited c.self.inside.last c.self.invariant.0,
      without-spare (λ b. files b.read) files c.self.inside.files c.self.inside.last c.self.inside.spare c.take-spare.new.self c.self.inside.alone c.take-spare.ensures.after c.self.invariant.1,
    )

pub invariant_of-self-2 : goal.invariant_of-self-2
invariant_of-self-2 g c =
    let files = g.R.ReadFiles.files in
    let last = c.in_ok-last.last in (
      right-built g.C.UnitCheck.meaning g.C.Text.ReadText.header g.R.ReadFiles.library (g.P.Answers.table c.self.inside.predefined) c.self.inside.cache.store c.build_or_cancel.new.cache.store c.self.inside.files (files c.in_ok-again.again.0) c.args.main.now last.graph.value (map (λ o. o.value) last.orders.items)
          (record { files = files last.read; main = last.main; gave = c.build_or_cancel.new.gave }) c.self.invariant.0.read c.self.invariant.0.predefined_units c.in_ok-last.ensures.files c.in_ok-again.ensures.files c.in_ok-last.ensures.main c.in_ok-last.ensures.graph c.in_ok-last.ensures.orders
          c.in_ok-last.ensures.rebuilt c.in_ok-last.ensures.right,
      twice-now (λ b. files b.read) files c.self.inside.files last c.read_twice.result (c.in_ok-last.ensures.files ∙ c.in_ok-again.ensures.files) c.read_twice.ensures,
    )

pub returns-clause-ok : goal.returns-clause-ok
returns-clause-ok g c =
    let files = g.R.ReadFiles.files in
    let last = c.in_ok-last.last in
    build-built g.C.UnitCheck.meaning g.C.Text.ReadText.header g.R.ReadFiles.library (λ b. (files b.read, b.graph.value, map (λ o. o.value) b.orders.items)) (λ b. files b.read) (λ b. b.main) g.C.UnitCheck.count g.P.Answers.table
    c.self.inside.cache c.build_or_cancel.new.cache c.self.inside.predefined c.self.inside.files (files c.in_ok-again.again.0) c.args.main.now c.self.inside.gave c.self.inside.last
    (record { files = files last.read; main = last.main; gave = c.build_or_cancel.new.gave }) c.args.self.now c.self.view_is c.self.invariant.0.first
    c.in_ok-last.ensures.files c.in_ok-again.ensures.files c.in_ok-last.ensures.main c.in_ok-last.ensures.rebuilt c.in_ok-last.ensures.counted c.in_ok-last.ensures.patched
