-- Names with their views, one after the other.
use Rattle.std.proofs.Common.{◌≡◌, ◌+◌, ◌<◌, ℕ, Bool, true, false, ◌&&◌, List, drop, get_or, length, Some, None, sym, ap, ◌∙◌, slice_get}
use Rattle.std.specs.List.{list_all}
use Rattle.std.proofs.lemmas.List.{at_drop_more}
use Rattle.std.proofs.lemmas.List.Folds.{list_all_at}
use Rattle.std.proofs.lemmas.Option.{slice_get-get_or}
use Rattle.al_view.specs.declared.view.ViewKind.{ViewKind}

pub some_views : (names : List (List ℕ × List ViewKind)) (i : ℕ) (e : List ℕ × List ViewKind) (n : List ℕ) (vs : List ViewKind) → i < length names → Some (n, vs) ≡ slice_get names i → vs ≡ (get_or names i e).1
some_views names i e n vs less is =
    let whole : Some (n, vs) ≡ Some (get_or names i e) = is ∙ slice_get-get_or names i e less in
    let same : (n, vs) ≡ get_or names i e = cc in
    ap (λ (x : List ℕ × List ViewKind). x.1) same

pub no_views : (names : List (List ℕ × List ViewKind)) (i : ℕ) (e : List ℕ × List ViewKind) → i < length names → None ≡ slice_get names i → ⊥
no_views names i e less is = let whole : None ≡ Some (get_or names i e) = is ∙ slice_get-get_or names i e less in cc

-- one that doesn't pass
pub stops_at : {X : Type 0} (q : X → Bool) (xs : List X) (i : ℕ) (d : X) (r whole : Bool) → i < length xs → r ≡ q (get_or xs i d) → r ≡ false → whole ≡ list_all q xs → false ≡ whole
stops_at q xs i d r whole less passed fails all = sym (all ∙ list_all_at q xs i d less (sym passed ∙ fails))

-- one that passes
pub goes_on : {X : Type 0} (q : X → Bool) (xs : List X) (i : ℕ) (d : X) (r : Bool) → list_all q (drop i xs) ≡ list_all q xs → i < length xs → r ≡ q (get_or xs i d) → r ≡ true → list_all q (drop (i + 1) xs) ≡ list_all q xs
goes_on q xs i d r rest less passed is =
    ap (λ b. b && list_all q (drop (i + 1) xs)) (sym is ∙ passed) ∙ sym (at_drop_more (list_all q) xs i d less) ∙ rest
