use Rattle.std.proofs.Common.{ℕ, List, sym, ap, ◌∙◌, arith}
use Rattle.std.specs.List.{list_any}
use Rattle.std.proofs.lemmas.List.{drop_all}
use Rattle.al_view.specs.declared.view.ViewKind.{ViewKind}
use Rattle.al_scope.specs.PartialViews.{has_incomplete}
use Rattle.al_scope.proofs.PartialLemmas.{any-here, any-past}
use Rattle.al_scope.proofs.partial.some_incomplete.Goals as goal

pub returns-then-is_incomplete_at : goal.returns-then-is_incomplete_at
returns-then-is_incomplete_at c =
    sym (any-here (λ (named : List ℕ × List ViewKind). has_incomplete named.1) c.args.declared.now c.loop-i.i (sym c.is_incomplete_at.ensures ∙ c.if-is_incomplete_at.true))
    ∙ c.loop-i.invariant

pub loop-i-preserved : goal.loop-i-preserved
loop-i-preserved c =
    any-past (λ (named : List ℕ × List ViewKind). has_incomplete named.1) c.args.declared.now c.loop-i.i (sym c.is_incomplete_at.ensures ∙ c.if-is_incomplete_at.false)
    ∙ c.loop-i.invariant

pub returns : goal.returns
returns c =
    sym (ap (list_any (λ (named : List ℕ × List ViewKind). has_incomplete named.1)) (drop_all c.loop-i.i c.args.declared.now (omega arith)))
    ∙ c.loop-i.invariant
