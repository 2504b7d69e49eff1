use Rattle.std.proofs.Common.{◌≡◌, ◌∙◌, [], ℕ, List, drop, ap, sym, subst, arith}
use Rattle.std.specs.Prelude.{fold}
use Rattle.std.proofs.lemmas.List.{drop_all}
use Rattle.al_scope_context.specs.Contexts.{Mentioned, with_mention}
use Rattle.al_scope_context.proofs.Steps.{fold-step}
use Rattle.al_scope_context.proofs.mention.mention_all.Goals as goal

pub loop-name-preserved : goal.loop-name-preserved
loop-name-preserved g c =
    let i = c.loop-name.invariant in
    let name = c.name-item.result in
    let scope = c.loop-name.scope in
    let packages = c.loop-name.packages in
    record {
      asked = c.mention_one.ensures.asked ∙ i.asked;
      answered = λ t h. let answered = c.in_ok-mention_one.ensures.answered t h in
          let before = i.answered t answered.0 in
          let one = subst (λ (n : List ℕ). Mentioned t c.args.own.now n scope packages c.mention_one.new.scope c.mention_one.new.packages) c.as_slice.ensures answered.1 in
          (before.0, fold-step (with_mention t c.args.own.now) c.args.names.now c.loop-name.name-index name (scope, packages) (c.mention_one.new.scope, c.mention_one.new.packages) _ (omega arith) c.name-item.is one before.1);
      regions = c.mention_one.ensures.regions ∙ i.regions;
    }

pub returns-clause-answered : goal.returns-clause-answered
returns-clause-answered g c t h =
    let before = c.loop-name.invariant.answered t h in
    let none : drop c.loop-name.name-index c.args.names.now ≡ [] = drop_all c.loop-name.name-index c.args.names.now (omega arith) in
    (before.0, ap (fold (with_mention t c.args.own.now) (c.loop-name.scope, c.loop-name.packages)) (sym none) ∙ before.1)
