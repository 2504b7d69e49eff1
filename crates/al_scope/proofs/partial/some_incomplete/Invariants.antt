use Rattle.std.proofs.Common.{◌≡◌, ℕ, List, drop}
use Rattle.std.specs.List.{list_any}
use Rattle.al_view.specs.declared.view.ViewKind.{ViewKind}
use Rattle.al_scope.specs.PartialViews.{has_incomplete}
use Rattle.al_scope.proofs.partial.some_incomplete.Given as goal

-- those that are left decide
abbrev pub invariant-loop-i : goal.invariant-loop-i
invariant-loop-i l = list_any (λ (named : List ℕ × List ViewKind). has_incomplete named.1) (drop l.i l.declared) ≡ list_any (λ (named : List ℕ × List ViewKind). has_incomplete named.1) l.declared
