-- The test of questions decides whether they are the same, so questions serve as keys.
use Rattle.std.proofs.Common.{◌≡◌, true, ◌&&◌, refl, sym, ◌∙◌, ap, subst, true≢false, IsTrue}
use Rattle.std.specs.Cmp.{IsEquivalence, both_ways}
use Rattle.std.specs.Str.{bytes_eq}
use Rattle.std.proofs.lemmas.Slice.Eq.{bytes_eq-Decides}
use Rattle.al_view.specs.Symbols.{same_unit, same_part}
use Rattle.al_view.proofs.SymbolLemmas.{both, and_both, same_unit-one, same_unit-self, same_part-one, same_part-self}
use Rattle.al_query.specs.declared.query.Query.{Query}
use Rattle.al_query.specs.declared.query.Query.TheVariants.{Named, Of}
use Rattle.al_query.specs.declared.query.Property.{Property}
use Rattle.al_query.specs.declared.query.Property.TheVariants.{Kind, Parent, IsPrivate, Context, NeedsBody, Completions}
use Rattle.al_query.specs.Hashing.{hashed}
use Rattle.al_query.specs.Queries.{same_query, same_property}

same_property-one : (a b : Property) → same_property a b ≡ true → a ≡ b
same_property-one Kind Kind h = refl
same_property-one Parent Parent h = refl
same_property-one IsPrivate IsPrivate h = refl
same_property-one Context Context h = refl
same_property-one NeedsBody NeedsBody h = refl
same_property-one Completions Completions h = refl
same_property-one _ _ h = absurd (true≢false (sym h))

-- questions that compare alike are one
pub same_query-one : (a b : Query) → same_query a b ≡ true → a ≡ b
same_query-one (Named u p n) (Named v q m) h =
    let parts = both (same_unit u v && same_part p q) (bytes_eq n m) h in
    let more = both (same_unit u v) (same_part p q) parts.0 in
    let unit = same_unit-one u v more.0 in
    let part = same_part-one p q more.1 in
    let name = (bytes_eq-Decides n m).0 parts.1 in
    ap (λ x. Named x p n) unit ∙ ap (λ x. Named v x n) part ∙ ap (λ x. Named v q x) name
same_query-one (Of u p) (Of v q) h =
    let parts = both (same_unit u v) (same_property p q) h in
    let unit = same_unit-one u v parts.0 in
    let property = same_property-one p q parts.1 in
    ap (λ x. Of x p) unit ∙ ap (λ x. Of v x) property
same_query-one _ _ h = absurd (true≢false (sym h))

same_property-self : (a : Property) → same_property a a ≡ true
same_property-self Kind = refl
same_property-self Parent = refl
same_property-self IsPrivate = refl
same_property-self Context = refl
same_property-self NeedsBody = refl
same_property-self Completions = refl

pub same_query-self : (a : Query) → same_query a a ≡ true
same_query-self (Named u p n) =
    and_both (same_unit u u && same_part p p) (bytes_eq n n)
    (and_both (same_unit u u) (same_part p p) (same_unit-self u) (same_part-self p))
    ((bytes_eq-Decides n n).1 refl)
same_query-self (Of u p) = and_both (same_unit u u) (same_property p p) (same_unit-self u) (same_property-self p)

same_query-turned : (a b : Query) → same_query a b ≡ true → same_query b a ≡ true
same_query-turned a b h = subst (λ (q : Query). same_query b q ≡ true) (sym (same_query-one a b h)) (same_query-self b)

pub same_query-equiv : IsEquivalence same_query
same_query-equiv = record {
  refl = same_query-self;
  symm = λ a b. both_ways (same_query a b) (same_query b a) (same_query-turned a b) (same_query-turned b a);
  congr = λ a b q h. ap (λ (x : Query). same_query x q) (same_query-one a b h);
}

pub hashed-same : (a b : Query) → IsTrue (same_query a b) → hashed a ≡ hashed b
hashed-same a b h = ap hashed (same_query-one a b h)
