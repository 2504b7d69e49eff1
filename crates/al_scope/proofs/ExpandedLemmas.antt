-- The region of a construct that encloses a place.
use Rattle.std.proofs.Common.{◌≡◌, ℕ, List, [], ◌∷◌, Bool, true, false, cond, inl, inr, Option, Some, None, refl, sym, ◌∙◌, ap, subst}
use Rattle.std.specs.List.{find}
use Rattle.std.specs.Option.{option_map, option_map_or}
use Rattle.al_view.specs.declared.symbol.Symbol.{Symbol}
use Rattle.al_view.specs.declared.view.ViewKind.{ViewKind}
use Rattle.al_view.specs.Named.{Declarations}
use Rattle.al_view.specs.Symbols.{same_symbol}
use Rattle.al_view.proofs.SymbolLemmas.{same_symbol-one, same_symbol-self}
use Rattle.al_query.specs.declared.query.Query.{Query}
use Rattle.al_query.specs.declared.answer.AnswerKind.{AnswerKind}
use Rattle.al_scope.specs.declared.region.Region.{Region}
use Rattle.al_scope.specs.Expanded.{Encloses, IsSelected, within}
use Rattle.al_scope.specs.Places.{is_region_of}
use Rattle.al_scope.specs.Visible.{found_in}
use Rattle.al_scope.specs.VisibleSet.{Has}

-- of a construct is just the region that has its symbol
construct-is : (s : Symbol) (o : Option Symbol) → option_map_or (same_symbol s) o false ≡ true → o ≡ Some s
construct-is s None h = absurd (cc)
construct-is s (Some c) h = ap (λ (x : Symbol). Some x) (sym (same_symbol-one s c h))

is-construct : (s : Symbol) (o : Option Symbol) → o ≡ Some s → option_map_or (same_symbol s) o false ≡ true
is-construct s o h = subst (λ (x : Option Symbol). option_map_or (same_symbol s) x false ≡ true) (sym h) (same_symbol-self s)

-- no region is the construct's, if the first one isn't
elsewhere : (s : Symbol) (r : Region) (rs : List Region) → is_region_of s r ≡ false → (Encloses s rs → ⊥) → (q : Region) → Has (r ∷ rs) q → q.construct ≡ Some s → ⊥
elsewhere s r rs i h q (inl e) is =
    let there : is_region_of s q ≡ true = is-construct s q.construct is in
    let here : is_region_of s r ≡ true = subst (λ (x : Region). is_region_of s x ≡ true) (sym e) there in
    let bad : true ≡ false = sym here ∙ i in
    absurd (cc)
elsewhere s r rs i h q (inr k) is = h (q, k, is)

-- a region further out that isn't the construct's
selected-further : (t : Query → AnswerKind) (m : Declarations) (name : List ℕ) (s : Symbol) (r : Region) (rs : List Region) (o : Option (List ViewKind)) → is_region_of s r ≡ false → IsSelected t m name s rs o → IsSelected t m name s (r ∷ rs) o
selected-further t m name s r rs None i h = λ k. elsewhere s r rs i h k.0 k.1 k.2
selected-further t m name s r rs (Some views) i h = (h.0, inr h.1, h.2, h.3)

pub within-selects : (t : Query → AnswerKind) (m : Declarations) (name : List ℕ) (s : Symbol) (rs : List Region) → IsSelected t m name s rs (within t m name s rs)
within-selects t m name s [] = λ h. h.1
within-selects t m name s (r ∷ rs) = at (is_region_of s r) refl (within-selects t m name s rs)
  where
    at : (b : Bool) → is_region_of s r ≡ b → IsSelected t m name s rs (within t m name s rs) → IsSelected t m name s (r ∷ rs) (option_map (λ q. (found_in t m name q).views) (cond b (Some r) (find (is_region_of s) rs)))
    at true i more = (r, inl refl, construct-is s r.construct i, refl)
    at false i more = selected-further t m name s r rs (within t m name s rs) i more
