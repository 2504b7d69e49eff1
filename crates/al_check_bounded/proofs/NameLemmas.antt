-- Names that are put in one by one, and names of which each is there once.
use Rattle.std.proofs.Common.{◌≡◌, ◌∙◌, ◌+◌, ◌<◌, ℕ, List, [], ◌∷◌, ◌++◌, get_or, length, take, sym, ap}
use Rattle.std.specs.Cmp.Lexicographic.{nat_list_eq_equiv}
use Rattle.std.specs.List.{IsDistinct}
use Rattle.std.specs.Str.{bytes_eq}
use Rattle.std.proofs.lemmas.List.{take_more}
use Rattle.indexmap.specs.IndexSet.{insert_all, insert_key}
use Rattle.indexmap.proofs.SetLemmas.{set_all_distinct, set_all_push}

pub put_more : (names : List (List ℕ)) (i : ℕ) (n : List ℕ) (before after : List (List ℕ)) → i < length names → n ≡ get_or names i n → before ≡ insert_all bytes_eq [] (take i names) → after ≡ insert_key bytes_eq before n → after ≡ insert_all bytes_eq [] (take (i + 1) names)
put_more names i n before after less is was now =
    now ∙ ap (λ (ns : List (List ℕ)). insert_key bytes_eq ns n) was ∙ sym (set_all_push bytes_eq [] (take i names) n)
    ∙ sym (ap (λ (ns : List (List ℕ)). insert_all bytes_eq [] ns) (take_more names i n less ∙ ap (λ (m : List ℕ). take i names ++ m ∷ []) (sym is)))

pub put_all : (names : List (List ℕ)) → IsDistinct bytes_eq names → insert_all bytes_eq [] names ≡ names
put_all names d = set_all_distinct nat_list_eq_equiv [] names d
