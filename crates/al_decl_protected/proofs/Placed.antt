-- A declaration that is placed, by its parts.
use Rattle.std.proofs.Common.{◌≡◌, ℕ, List, Option, ap, ◌∙◌}
use Rattle.al_decl.specs.Checking.{with_progress}
use Rattle.al_decl.specs.declared.env.Environment.{Environment}
use Rattle.al_decl_judged.specs.declared.progress.Progress.{Progress}
use Rattle.al_view.specs.declared.view.ViewKind.{ViewKind}
use Rattle.al_view_typed.specs.DeclarationTrees.{DeclarationTree}
use Rattle.al_decl_protected.specs.Placing.{placed}

abbrev pub Placed : Type 0
Placed = Environment × Option DeclarationTree

pub placed_so : (h : Environment) (p q : Progress) (n m : List ℕ) (v w : ViewKind) (d e : DeclarationTree) → p ≡ q → n ≡ m → v ≡ w → d ≡ e → placed (with_progress h p) n v d ≡ placed (with_progress h q) m w e
placed_so h p q n m v w d e progress named viewed done =
    ap (λ (x : Progress). placed (with_progress h x) n v d) progress
    ∙ ap (λ (x : List ℕ). placed (with_progress h q) x v d) named
    ∙ ap (λ (x : ViewKind). placed (with_progress h q) m x d) viewed
    ∙ ap (λ (x : DeclarationTree). placed (with_progress h q) m w x) done
