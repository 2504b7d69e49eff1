-- What one change of an index does to what it leads to.
use Rattle.std.proofs.Common.{◌≡◌, Bool, true, false, ◌&&◌, ◌||◌, not, List, [], ◌∷◌, Option, Some, None, Ok, Err, OnErr, refl, sym, ◌∙◌, ap, subst, cond, unwrap_or}
use Rattle.std.specs.Prelude.{Result}
use Rattle.std.specs.BTreeSet.{BTreeSet}
use Rattle.std.specs.List.{list_any}
use Rattle.std.specs.Map.{lookup}
use Rattle.std.specs.Option.{option_map_or}
use Rattle.al_base.specs.declared.unit_key.UnitKey.{UnitKey}
use Rattle.al_view.specs.Symbols.{same_unit}
use Rattle.al_view.proofs.SymbolLemmas.{same_unit-one, same_unit-self}
use Rattle.al_query.specs.Queries.{same_query, unit_of}
use Rattle.al_query.specs.QueryLaws.{same_query-one}
use Rattle.al_query.specs.declared.query.Query.{Query}
use Rattle.al_query_store.specs.declared.place.Place.{Place}
use Rattle.al_query_store.specs.Reads.{any_has, has, places_of, questions_of, reads, same_place}

abbrev pub ByQuery : Type 0
ByQuery = List (Query × BTreeSet Place)

abbrev pub ByUnit : Type 0
ByUnit = List (UnitKey × ByQuery)

-- what holds at all holds after an error
pub on_err : {X E : Type 0} (r : Result X E) {P : Type 0} → P → OnErr r P
on_err (Ok x) p = tt
on_err (Err e) p = p

or_false : (b : Bool) → b ≡ (b || false)
or_false true = refl
or_false false = refl

and_true : (b : Bool) → b ≡ (b && not false)
and_true true = refl
and_true false = refl

module _ (old new : ByQuery) (k q : Query) (s : BTreeSet Place) (p : Place) (set : lookup (same_query q) new ≡ cond (same_query k q) (Some s) (lookup (same_query q) old)) where
  pub has-set : has new q p ≡ cond (same_query k q) (list_any (same_place p) s.keys) (has old q p)
  has-set = ap (λ (o : Option (BTreeSet Place)). list_any (same_place p) (option_map_or (λ x. x.keys) o [])) set ∙ by (same_query k q)
    where
      by : (b : Bool) → list_any (same_place p) (option_map_or (λ x. x.keys) (cond b (Some s) (lookup (same_query q) old)) []) ≡ cond b (list_any (same_place p) s.keys) (has old q p)
      by true = refl
      by false = refl

  pub has-added : (r : Place) → list_any (same_place p) s.keys ≡ (has old k p || same_place r p) → has new q p ≡ (has old q p || (same_query k q && same_place r p))
  has-added r more = has-set ∙ by (same_query k q) refl
    where
      by : (b : Bool) → same_query k q ≡ b → cond b (list_any (same_place p) s.keys) (has old q p) ≡ (has old q p || (b && same_place r p))
      by true h = more ∙ ap (λ (x : Query). has old x p || same_place r p) (same_query-one k q h)
      by false h = or_false (has old q p)

  pub has-removed : (r : Place) → list_any (same_place p) s.keys ≡ (has old k p && not (same_place r p)) → has new q p ≡ (has old q p && not (same_query k q && same_place r p))
  has-removed r less = has-set ∙ by (same_query k q) refl
    where
      by : (b : Bool) → same_query k q ≡ b → cond b (list_any (same_place p) s.keys) (has old q p) ≡ (has old q p && not (b && same_place r p))
      by true h = less ∙ ap (λ (x : Query). has old x p && not (same_place r p)) (same_query-one k q h)
      by false h = and_true (has old q p)

-- the same set again changes nothing
pub has-kept : (old new : ByQuery) (k q : Query) (s : BTreeSet Place) (p : Place) → lookup (same_query q) new ≡ cond (same_query k q) (Some s) (lookup (same_query q) old) → places_of old k ≡ s.keys → has new q p ≡ has old q p
has-kept old new k q s p set same = has-set old new k q s p set ∙ by (same_query k q) refl
  where
    by : (b : Bool) → same_query k q ≡ b → cond b (list_any (same_place p) s.keys) (has old q p) ≡ has old q p
    by true h = ap (λ (l : List Place). list_any (same_place p) l) (sym same) ∙ ap (λ (x : Query). has old x p) (same_query-one k q h)
    by false h = refl

-- where a question isn't there
pub has_none : (old : ByQuery) (q : Query) (p : Place) → lookup (same_query q) old ≡ None → has old q p ≡ false
has_none old q p none = ap (λ (o : Option (BTreeSet Place)). list_any (same_place p) (option_map_or (λ x. x.keys) o [])) none

-- nothing is removed of a question that isn't there
pub has_no_more : (old : ByQuery) (k q : Query) (p r : Place) → lookup (same_query k) old ≡ None → has old q p ≡ (has old q p && not (same_query k q && same_place r p))
has_no_more old k q p r none = by (same_query k q) refl
  where
    by : (b : Bool) → same_query k q ≡ b → has old q p ≡ (has old q p && not (b && same_place r p))
    by true h =
        let no : has old q p ≡ false = ap (λ (x : Query). has old x p) (sym (same_query-one k q h)) ∙ has_none old k p none in
        no ∙ sym (ap (λ (b : Bool). b && not (same_place r p)) no)
    by false h = and_true (has old q p)

another_unit : (k q : Query) → same_unit (unit_of k) (unit_of q) ≡ false → same_query k q ≡ false
another_unit k q other = by (same_query k q) refl
  where
    by : (b : Bool) → same_query k q ≡ b → b ≡ false
    by true h =
        let same : same_unit (unit_of k) (unit_of q) ≡ true = subst (λ (x : Query). same_unit (unit_of k) (unit_of x) ≡ true) (same_query-one k q h) (same_unit-self (unit_of k)) in
        absurd (cc)
    by false h = refl

module _ (old new : ByUnit) (k q : Query) (s : ByQuery) (p : Place) (set : lookup (same_unit (unit_of q)) new ≡ cond (same_unit (unit_of k) (unit_of q)) (Some s) (lookup (same_unit (unit_of q)) old)) where
  reads-set : reads new q p ≡ cond (same_unit (unit_of k) (unit_of q)) (has s q p) (reads old q p)
  reads-set = ap (λ (o : Option ByQuery). has (unwrap_or o []) q p) set ∙ by (same_unit (unit_of k) (unit_of q))
    where
      by : (b : Bool) → has (unwrap_or (cond b (Some s) (lookup (same_unit (unit_of q)) old)) []) q p ≡ cond b (has s q p) (reads old q p)
      by true = refl
      by false = refl

  there : same_unit (unit_of k) (unit_of q) ≡ true → has (questions_of old (unit_of k)) q p ≡ reads old q p
  there h = ap (λ (u : UnitKey). has (questions_of old u) q p) (same_unit-one (unit_of k) (unit_of q) h)

  pub reads-added : (r : Place) → has s q p ≡ (has (questions_of old (unit_of k)) q p || (same_query k q && same_place r p)) → reads new q p ≡ (reads old q p || (same_query k q && same_place r p))
  reads-added r more = reads-set ∙ by (same_unit (unit_of k) (unit_of q)) refl
    where
      by : (b : Bool) → same_unit (unit_of k) (unit_of q) ≡ b → cond b (has s q p) (reads old q p) ≡ (reads old q p || (same_query k q && same_place r p))
      by true h = more ∙ ap (λ (b : Bool). b || (same_query k q && same_place r p)) (there h)
      by false h = or_false (reads old q p) ∙ sym (ap (λ (b : Bool). reads old q p || (b && same_place r p)) (another_unit k q h))

  pub reads-removed : (r : Place) → has s q p ≡ (has (questions_of old (unit_of k)) q p && not (same_query k q && same_place r p)) → reads new q p ≡ (reads old q p && not (same_query k q && same_place r p))
  reads-removed r less = reads-set ∙ by (same_unit (unit_of k) (unit_of q)) refl
    where
      by : (b : Bool) → same_unit (unit_of k) (unit_of q) ≡ b → cond b (has s q p) (reads old q p) ≡ (reads old q p && not (same_query k q && same_place r p))
      by true h = less ∙ ap (λ (b : Bool). b && not (same_query k q && same_place r p)) (there h)
      by false h = and_true (reads old q p) ∙ sym (ap (λ (b : Bool). reads old q p && not (b && same_place r p)) (another_unit k q h))

  pub reads-kept : has s q p ≡ has (questions_of old (unit_of k)) q p → reads new q p ≡ reads old q p
  reads-kept same = reads-set ∙ by (same_unit (unit_of k) (unit_of q)) refl
    where
      by : (b : Bool) → same_unit (unit_of k) (unit_of q) ≡ b → cond b (has s q p) (reads old q p) ≡ reads old q p
      by true h = same ∙ there h
      by false h = refl

-- nothing is read of a unit that isn't there, and nothing is removed
pub reads_none : (old : ByUnit) (k q : Query) (p r : Place) → lookup (same_unit (unit_of k)) old ≡ None → reads old q p ≡ (reads old q p && not (same_query k q && same_place r p))
reads_none old k q p r none = by (same_query k q) refl
  where
    by : (b : Bool) → same_query k q ≡ b → reads old q p ≡ (reads old q p && not (b && same_place r p))
    by true h =
        let no : reads old q p ≡ false = ap (λ (x : Query). reads old x p) (sym (same_query-one k q h)) ∙ ap (λ (o : Option ByQuery). has (unwrap_or o []) k p) none in
        no ∙ sym (ap (λ (b : Bool). b && not (same_place r p)) no)
    by false h = and_true (reads old q p)

-- a place of an answer to one question is a place of an answer to any
pub has_any : (es : ByQuery) (q : Query) (p : Place) → has es q p ≡ true → any_has es p ≡ true
has_any [] q p h = absurd (cc)
has_any (e ∷ es) q p h = by (same_query q e.0) h (has_any es q p)
  where
    by : (b : Bool) → list_any (same_place p) (option_map_or (λ x. x.keys) (cond b (Some e.1) (lookup (same_query q) es)) []) ≡ true → (has es q p ≡ true → any_has es p ≡ true) → any_has (e ∷ es) p ≡ true
    by true k more = ap (λ (x : Bool). x || any_has es p) k
    by false k more = ap (λ (x : Bool). list_any (same_place p) e.1.keys || x) (more k) ∙ or_true (list_any (same_place p) e.1.keys)
      where
        or_true : (x : Bool) → (x || true) ≡ true
        or_true true = refl
        or_true false = refl

-- where a unit is found, what reads its answers is a place of an answer to any of its questions
pub reads_any : (us : ByUnit) (u : UnitKey) (s : ByQuery) (q : Query) (p : Place) → lookup (same_unit u) us ≡ Some s → unit_of q ≡ u → reads us q p ≡ true → any_has s p ≡ true
reads_any us u s q p at same h =
    has_any s q p (ap (λ (o : Option ByQuery). has (unwrap_or o []) q p) (sym (ap (λ (x : UnitKey). lookup (same_unit x) us) same ∙ at)) ∙ h)

-- where none is found, nothing reads them
pub reads_nothing : (us : ByUnit) (u : UnitKey) (q : Query) (p : Place) → lookup (same_unit u) us ≡ None → unit_of q ≡ u → reads us q p ≡ true → ⊥
reads_nothing us u q p at same h =
    let no : reads us q p ≡ false = ap (λ (o : Option ByQuery). has (unwrap_or o []) q p) (ap (λ (x : UnitKey). lookup (same_unit x) us) same ∙ at) in
    absurd (cc)
