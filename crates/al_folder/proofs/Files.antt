-- The length of the names of files.
use Rattle.std.proofs.Common.{◌≡◌, ℕ, ◌+◌, ◌==◌, ◌&&◌, cond, true, false, List, [], ◌∷◌, ◌++◌, length, map, refl, ap, ap₂, ◌∙◌}
use Rattle.std.proofs.lemmas.List.{length-append, length-map}
use Rattle.al_base.specs.declared.unit_key.UnitKind.{UnitKind}
use Rattle.al_base.specs.declared.unit_key.UnitKind.TheVariants.{Decl, Body, Sub}
use Rattle.al_base.specs.Batch.{Key}
use Rattle.al_base.specs.FileNames.{ending_of, file_name_of, hyphen_for_dot, is_kept_letter, with_tilde}

length-with_tilde : (bs : List ℕ) → length (with_tilde bs) ≡ length bs
length-with_tilde [] = refl
length-with_tilde (a ∷ []) = refl
length-with_tilde (a ∷ b ∷ bs) =
    elim (is_kept_letter a && b == 45) as (λ t. length (cond t (a ∷ 126 ∷ bs) (a ∷ b ∷ bs)) ≡ length (a ∷ b ∷ bs)) [ true ↦ refl | false ↦ refl ]

length-ending_of : (kind : UnitKind) → length (ending_of kind) ≡ 4
length-ending_of Decl = refl
length-ending_of Body = refl
length-ending_of Sub = refl

-- a file's name has four bytes more than its unit's
pub length-file_name_of : (key : Key) → length (file_name_of key) ≡ length key.0 + 4
unfolding file_name_of
length-file_name_of key =
    length-append (with_tilde (map hyphen_for_dot key.0)) (ending_of key.1)
    ∙ ap₂ (λ m n. m + n) (length-with_tilde (map hyphen_for_dot key.0) ∙ length-map key.0 hyphen_for_dot) (length-ending_of key.1)
