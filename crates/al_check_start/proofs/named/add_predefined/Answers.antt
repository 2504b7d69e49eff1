use Rattle.std.proofs.Common.{◌≡◌, ◌∙◌, ◌∷◌, [], ◌++◌, List, ap, codes, append_assoc}
use Rattle.al_base.specs.declared.unit_key.UnitKey.{UnitKey}
use Rattle.al_query.specs.Answers.{declaration}
use Rattle.al_check_start.proofs.named.add_predefined.Goals as goal

four : (us : List UnitKey) (a b c d : UnitKey) → (((us ++ a ∷ []) ++ b ∷ []) ++ c ∷ []) ++ d ∷ [] ≡ us ++ (a ∷ b ∷ c ∷ d ∷ [])
four us a b c d = simp append_assoc

pub returns : goal.returns
returns c =
    let us = c.args.units.now.items in
    let a = declaration (codes "standard") in
    let b = declaration (codes "ada") in
    let x = declaration (codes "ada.text_io") in
    let d = declaration (codes "ada.real_time") in
    c.in_ok-add_declaration-4.ensures
    ∙ ap (λ (l : List UnitKey). l ++ d ∷ []) (c.in_ok-add_declaration-3.ensures
    ∙ ap (λ (l : List UnitKey). l ++ x ∷ []) (c.in_ok-add_declaration-2.ensures
    ∙ ap (λ (l : List UnitKey). l ++ b ∷ []) c.in_ok-add_declaration.ensures))
    ∙ four us a b x d
