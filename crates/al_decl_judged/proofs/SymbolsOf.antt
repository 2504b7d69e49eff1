-- The symbols of a list of types that grows.
use Rattle.std.proofs.Common.{◌≡◌, ℕ, ◌+◌, ◌<◌, List, [], ◌∷◌, ◌++◌, Bool, true, false, ◌||◌, length, take, get_or, refl, sym, ◌∙◌, ap, subst}
use Rattle.std.proofs.lemmas.List.{take_more}
use Rattle.std.proofs.lemmas.List.Sums.{fold_more}
use Rattle.std.specs.List.{list_any}
use Rattle.al_decl_judged.proofs.TypeDeclarationLemmas.{has, has-push}
use Rattle.al_decl_judged.specs.TypeLists.{joined, with_type}
use Rattle.al_view.proofs.SymbolLemmas.{same_symbol-one, same_symbol-self}
use Rattle.al_view.specs.Symbols.{same_symbol}
use Rattle.al_view.specs.declared.symbol.Symbol.{Symbol}
use Rattle.al_view.specs.declared.types.TypeView.{TypeView}

same_symbol-both : (a b : Symbol) → same_symbol a b ≡ same_symbol b a
same_symbol-both a b = at (same_symbol a b) (same_symbol b a) refl refl
  where
    at : (x y : Bool) → same_symbol a b ≡ x → same_symbol b a ≡ y → x ≡ y
    at true true f g = refl
    at false false f g = refl
    at true false f g = sym (subst (λ (x : Symbol). same_symbol x a ≡ true) (same_symbol-one a b f) (same_symbol-self a)) ∙ g
    at false true f g = sym f ∙ subst (λ (x : Symbol). same_symbol x b ≡ true) (same_symbol-one b a g) (same_symbol-self b)

turned : (a b c : Bool) → a ≡ b → (a || c) ≡ (c || (b || false))
turned true true true e = refl
turned true true false e = refl
turned false false true e = refl
turned false false false e = refl
turned true false c e = absurd (cc)
turned false true c e = absurd (cc)

-- after one more type
pub symbols_more : (s : Symbol) (types : List TypeView) (t : TypeView) (old new : List Symbol) → list_any (same_symbol s) old ≡ has types s → list_any (same_symbol s) new ≡ (same_symbol s t.symbol || list_any (same_symbol s) old) → list_any (same_symbol s) new ≡ has (types ++ t ∷ []) s
symbols_more s types t old new before is =
    is
    ∙ ap (λ (b : Bool). same_symbol s t.symbol || b) before
    ∙ turned (same_symbol s t.symbol) (same_symbol t.symbol s) (has types s) (same_symbol-both s t.symbol)
    ∙ sym (has-push types t s)

pub front_more : (xs : List TypeView) (i : ℕ) (x : TypeView) → i < length xs → x ≡ get_or xs i x → take (i + 1) xs ≡ take i xs ++ x ∷ []
front_more xs i x inside is = take_more xs i x inside ∙ ap (λ (y : TypeView). take i xs ++ y ∷ []) (sym is)

pub joined_more : (start before after xs : List TypeView) (i : ℕ) (x : TypeView) → i < length xs → x ≡ get_or xs i x → before ≡ joined start (take i xs) → after ≡ with_type before x → after ≡ joined start (take (i + 1) xs)
joined_more start before after xs i x inside is b a =
    a
    ∙ ap (λ (y : List TypeView). with_type y x) b
    ∙ ap (with_type (joined start (take i xs))) is
    ∙ sym (fold_more with_type start xs i x inside)
