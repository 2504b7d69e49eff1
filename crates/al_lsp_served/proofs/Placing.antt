-- Diagnostics among those that are told.
use Rattle.std.proofs.Common.{◌≡◌, ℕ, Bool, true, false, cond, ◌&&◌, List, [], ◌∷◌, ◌++◌, Some, None, Vec, refl, sym, ap, subst, ◌∙◌, append-nil}
use Rattle.std.specs.Option.{option_map_or}
use Rattle.std.specs.Str.{bytes_eq}
use Rattle.std.specs.BTreeMap.{BTreeMap, UpdatesBy}
use Rattle.std.specs.Ordering.{nat_cmp}
use Rattle.std.specs.Cmp.Lexicographic.{slice_cmp}
use Rattle.std.proofs.lemmas.Bool.{cond-false}
use Rattle.al_base.specs.Batch.{Finding}
use Rattle.al_base.specs.Files.{Texts}
use Rattle.al_lsp.specs.declared.position.Counting.{Counting}
use Rattle.al_lsp_served.specs.Named.{held, with_held}
use Rattle.al_lsp_served.specs.Told.{is_told, placed, told_one, told_of, text_had}
use Rattle.al_lsp_served.specs.declared.telling.Placed.{Placed}
use Rattle.al_lsp_served.specs.declared.telling.Told.{Told}
use Rattle.al_lsp_served.proofs.ByName.{same_name, held_after}

-- one more is told of the file of a name
pub placed_more : {Y : Type 0} (old between new : BTreeMap (Vec ℕ Y) Told) (name : List ℕ) (told : Told) (p : Placed) → told.list.items ≡ told_of old name ++ p ∷ [] → ((other : List ℕ) → told_of between other ≡ cond (bytes_eq name other) [] (told_of old other)) → ((other : List ℕ) → held new other ≡ with_held (held between) name (Some told) other) → (other : List ℕ) → told_of new other ≡ told_of old other ++ cond (bytes_eq name other) (p ∷ []) []
placed_more old between new name told p is taken put other =
    ap (λ h. option_map_or (λ t. t.list.items) h []) (put other) ∙ by_cases (bytes_eq name other) refl
  where
    by_cases : (b : Bool) → bytes_eq name other ≡ b → option_map_or (λ t. t.list.items) (cond b (Some told) (held between other)) [] ≡ told_of old other ++ cond b (p ∷ []) []
    by_cases true same = is ∙ ap (λ n. told_of old n ++ p ∷ []) (same_name name other same)
    by_cases false differ = taken other ∙ cond-false (bytes_eq name other) [] (told_of old other) differ ∙ sym (append-nil (told_of old other))

-- what is told of a finding
pub one_told : (counting : Counting) (texts : Texts) (is_open : List ℕ → Bool) (f : Finding) (p : Placed) (other : List ℕ) → is_told (is_open f.file) f.code ≡ true → p ≡ placed counting (text_had texts f.file) f → cond (bytes_eq f.file other) (p ∷ []) [] ≡ told_one counting texts is_open other f
one_told counting texts is_open f p other told is = by_cases (bytes_eq f.file other) refl
  where
    here : (name : List ℕ) → f.file ≡ name → p ∷ [] ≡ cond (is_told (is_open name) f.code) (placed counting (text_had texts name) f ∷ []) []
    here name same =
        subst (λ n. p ∷ [] ≡ cond (is_told (is_open n) f.code) (placed counting (text_had texts n) f ∷ []) []) same (ap (λ q. q ∷ []) is ∙ ap (λ b. cond b (placed counting (text_had texts f.file) f ∷ []) []) (sym told))

    by_cases : (b : Bool) → bytes_eq f.file other ≡ b → cond b (p ∷ []) [] ≡ cond (b && is_told (is_open other) f.code) (placed counting (text_had texts other) f ∷ []) []
    by_cases true same = here other (same_name f.file other same)
    by_cases false differ = refl

-- .. where it isn't told
pub none_told : (counting : Counting) (texts : Texts) (is_open : List ℕ → Bool) (f : Finding) (other : List ℕ) → is_told (is_open f.file) f.code ≡ false → told_one counting texts is_open other f ≡ []
none_told counting texts is_open f other untold = by_cases (bytes_eq f.file other) refl
  where
    here : (name : List ℕ) → f.file ≡ name → cond (is_told (is_open name) f.code) (placed counting (text_had texts name) f ∷ []) [] ≡ []
    here name same =
        subst (λ n. cond (is_told (is_open n) f.code) (placed counting (text_had texts n) f ∷ []) [] ≡ []) same (ap (λ b. cond b (placed counting (text_had texts f.file) f ∷ []) []) untold)

    by_cases : (b : Bool) → bytes_eq f.file other ≡ b → cond (b && is_told (is_open other) f.code) (placed counting (text_had texts other) f ∷ []) [] ≡ []
    by_cases true same = here other (same_name f.file other same)
    by_cases false differ = refl

-- what is told of a file is taken
pub taken_told : {Y : Type 0} (old new : BTreeMap (Vec ℕ Y) Told) (name : List ℕ) → UpdatesBy (λ x y. slice_cmp nat_cmp x.items y.items) (λ k. slice_cmp nat_cmp name k.items) old new None → (other : List ℕ) → told_of new other ≡ cond (bytes_eq name other) [] (told_of old other)
taken_told old new name h other =
    ap (λ o. option_map_or (λ t. t.list.items) o []) (held_after old new name None h other) ∙ by_cases (bytes_eq name other)
  where
    by_cases : (b : Bool) → option_map_or (λ t. t.list.items) (cond b None (held old other)) [] ≡ cond b [] (told_of old other)
    by_cases true = refl
    by_cases false = refl
