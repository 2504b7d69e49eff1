-- The last of a list that isn't empty.
use Rattle.std.proofs.Common.{◌≡◌, ℕ, ◌+◌, ◌-◌, ◌≤◌, zero, suc, List, [], ◌∷◌, map, length, get_or, Option, Some, None, refl, sym, ap, ◌∙◌, arith}
use Rattle.std.specs.Prelude.{unwrap_or}
use Rattle.std.specs.List.{last_or}
use Rattle.al_tree.specs.DeclarationViews.{compound_model, formal_model, formal_part_model}
use Rattle.al_tree.specs.Lexemes.{identifier_label}
use Rattle.al_tree.specs.declared.declaration.Formal.{Formal}
use Rattle.al_tree.specs.declared.declaration.FormalPart.{FormalPart}
use Rattle.al_tree.specs.declared.names.CompoundName.{CompoundName}
use Rattle.al_tree.specs.declared.names.Identifier.{Identifier}
use Rattle.al_lsp_outline.specs.Named.{last_formal, last_identifier}

last_of : {A X : Type 0} (f : A → X) (xs : List A) (i : ℕ) (d : A) (o : Option X) (e : X) → i + 1 ≡ length xs → unwrap_or (last_or o (map f xs)) e ≡ f (get_or xs i d)
last_of f [] i d o e is = absurd (omega arith)
last_of f (x ∷ []) zero d o e is = refl
last_of f (x ∷ []) (suc i) d o e is = absurd (omega arith)
last_of f (x ∷ y ∷ ys) zero d o e is = absurd (omega arith)
last_of f (x ∷ y ∷ ys) (suc i) d o e is = last_of f (y ∷ ys) i d (Some (f x)) e (omega arith)

last_in : {A X : Type 0} (f : A → X) (all xs : List A) (d : A) (e : X) → xs ≡ all → 1 ≤ length xs → d ≡ get_or xs (length xs - 1) d → f d ≡ unwrap_or (last_or None (map f all)) e
last_in f all xs d e is some last =
    ap f last
    ∙ sym (last_of f xs (length xs - 1) d None e (omega arith))
    ∙ ap (λ ys. unwrap_or (last_or None (map f ys)) e) is

pub last_label : (n : CompoundName) (xs : List Identifier) (d : Identifier) → xs ≡ n.selectors.items → 1 ≤ length xs → d ≡ get_or xs (length xs - 1) d → identifier_label d ≡ last_identifier (compound_model n)
last_label n xs d is some last = last_in identifier_label n.selectors.items xs d (identifier_label n.first) is some last

pub last_formal_is : (p : FormalPart) (xs : List Formal) (d : Formal) → xs ≡ p.others.items → 1 ≤ length xs → d ≡ get_or xs (length xs - 1) d → formal_model d ≡ last_formal (formal_part_model p)
last_formal_is p xs d is some last = last_in formal_model p.others.items xs d (formal_model p.first) is some last
