-- Names of files as a set.
use Rattle.std.proofs.Common.{◌≡◌, ℕ, List, [], ◌∷◌, ◌++◌, Vec, refl, ap, sym, ◌∙◌}
use Rattle.std.specs.List.{fold}
use Rattle.std.specs.BTreeSet.{insert_key}
use Rattle.std.specs.Cmp.Lexicographic.{slice_cmp}
use Rattle.std.specs.Ordering.{nat_cmp}
use Rattle.al_base.specs.Files.{name_cmp}
use Rattle.al_unit_graph.specs.Orders.{names_model}
use Rattle.al_unit_faults.proofs.OrderLemmas.{mapped_insert}

fold_push : {A X : Type 0} (g : A → X → A) (a : A) (xs : List X) (x : X) → fold g a (xs ++ x ∷ []) ≡ g (fold g a xs) x
fold_push g a [] x = refl
fold_push g a (y ∷ ys) x = fold_push g (g a y) ys x

-- one more name in the set of names
pub names_more : {Y : Type 0} (keys : List (Vec ℕ Y)) (name : Vec ℕ Y) (so_far : List (List ℕ)) → names_model keys ≡ fold (insert_key name_cmp) [] so_far → names_model (insert_key (λ a b. slice_cmp nat_cmp a.items b.items) keys name) ≡ fold (insert_key name_cmp) [] (so_far ++ name.items ∷ [])
names_more keys name so_far are =
    mapped_insert (λ n. n.items) (λ a b. slice_cmp nat_cmp a.items b.items) name_cmp (λ a b. refl) keys name
    ∙ ap (λ ns. insert_key name_cmp ns name.items) are
    ∙ sym (fold_push (insert_key name_cmp) [] so_far name.items)
