use Rattle.std.proofs.Common.{ℕ, List, sym, subst, ◌∙◌, arith}
use Rattle.al_link_image.specs.Images.{IsUnitName}
use Rattle.al_link.proofs.image.object_of.Goals as goal

pub returns-clause-fit : goal.returns-clause-fit
returns-clause-fit c =
    (subst (λ (name : List ℕ). IsUnitName name) (sym (c.in_ok-name.ensures ∙ c.as_slice.ensures)) c.requires.name, omega arith)
