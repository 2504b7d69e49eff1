-- Use clauses one after the other, and questions of some units.
use Rattle.std.proofs.Common.{◌≡◌, ℕ, ◌+◌, ◌<◌, zero, suc, List, [], ◌∷◌, ◌++◌, Bool, true, false, cond, ◌||◌, Option, Some, None, inl, inr, map, take, drop, length, get_or, filter, refl, sym, ◌∙◌, ap, subst, arith}
use Rattle.std.specs.Option.{is_some, option_map}
use Rattle.std.specs.List.{flat_map, last_or, list_any}
use Rattle.std.proofs.lemmas.List.{at_drop_more, take_more}
use Rattle.al_base.specs.declared.unit_key.UnitKey.{UnitKey}
use Rattle.al_view.specs.declared.part.Part.{Part}
use Rattle.al_query.specs.declared.query.Query.{Query}
use Rattle.al_query.specs.declared.answer.AnswerKind.{AnswerKind}
use Rattle.al_query.specs.declared.answer.UseClause.{UseClause}
use Rattle.al_query.specs.declared.answer.UseInPart.{UseInPart}
use Rattle.al_query.specs.declared.query.Query.TheVariants.{Of}
use Rattle.al_query.specs.declared.query.Property.{Property}
use Rattle.al_query.specs.declared.query.Property.TheVariants.{IsPrivate}
use Rattle.al_query.specs.Answers.{is_private_of}
use Rattle.al_query.specs.Asked.{AsksOf, OfKnown, by_property}
use Rattle.al_query.specs.Known.{has_unit}
use Rattle.al_query.specs.Queries.{unit_of}
use Rattle.al_query.specs.Reads.{Log, Table, logged}
use Rattle.al_query.proofs.AskLemmas.{asks_none, asks_of-both, asks_of-left, asks_of-one, asks_of-right, asks_of-same, asks_of-units, asks_then}
use Rattle.al_query.proofs.KnownLemmas.{has_unit-cases, has_unit-left, has_unit-right}
use Rattle.al_scope.specs.declared.region.Region.{Region}
use Rattle.al_scope.specs.declared.region.UnitPart.{UnitPart}
use Rattle.al_scope.specs.Places.{part_units}
use Rattle.al_scope.specs.UnitPlaces.{at_stub, at_stubs, continued, declaration_parts, inside, inward, opened, outward_opened, part_uses, some_private, stands_in, symbol_at, view_at, with_clause, with_clauses}

-- use clauses

pub with_clauses-join : (xs ys : List UseClause) (rs : List Region) → with_clauses (xs ++ ys) rs ≡ with_clauses ys (with_clauses xs rs)
with_clauses-join [] ys rs = refl
with_clauses-join (x ∷ xs) ys rs = with_clauses-join xs ys (with_clause x rs)

-- one more clause, at its place in the list
pub with_clauses-more : (cs : List UseClause) (i : ℕ) (c : UseClause) (rs before after : List Region) → i < length cs → c ≡ get_or cs i c → before ≡ with_clauses (take i cs) rs → after ≡ with_clause c before → after ≡ with_clauses (take (i + 1) cs) rs
with_clauses-more cs i c rs before after h e b a =
    let more : take (i + 1) cs ≡ take i cs ++ c ∷ [] = take_more cs i c h ∙ ap (λ x. take i cs ++ x ∷ []) (sym e) in
    a ∙ ap (with_clause c) b ∙ sym (ap (λ l. with_clauses l rs) more ∙ with_clauses-join (take i cs) (c ∷ []) rs)

inside-join : (p : Part) (xs ys : List UseInPart) → inside (xs ++ ys) p ≡ inside xs p ++ inside ys p
inside-join p [] ys = refl
inside-join p (x ∷ xs) ys = at (stands_in p x) (inside-join p xs ys)
  where
    at : (b : Bool) → inside (xs ++ ys) p ≡ inside xs p ++ inside ys p → map (λ (u : UseInPart). u.clause) (cond b (x ∷ filter (stands_in p) (xs ++ ys)) (filter (stands_in p) (xs ++ ys))) ≡ map (λ (u : UseInPart). u.clause) (cond b (x ∷ filter (stands_in p) xs) (filter (stands_in p) xs)) ++ inside ys p
    at true more = ap (λ l. x.clause ∷ l) more
    at false more = more

pub inside-more : (p : Part) (us : List UseInPart) (i : ℕ) (u : UseInPart) (rs before after : List Region) → i < length us → u ≡ get_or us i u → before ≡ with_clauses (inside (take i us) p) rs → after ≡ with_clauses (inside (u ∷ []) p) before → after ≡ with_clauses (inside (take (i + 1) us) p) rs
inside-more p us i u rs before after h e b a =
    let more : take (i + 1) us ≡ take i us ++ u ∷ [] = take_more us i u h ∙ ap (λ x. take i us ++ x ∷ []) (sym e) in
    let split : inside (take (i + 1) us) p ≡ inside (take i us) p ++ inside (u ∷ []) p = ap (λ l. inside l p) more ∙ inside-join p (take i us) (u ∷ []) in
    a ∙ ap (with_clauses (inside (u ∷ []) p)) b ∙ sym (ap (λ l. with_clauses l rs) split ∙ with_clauses-join (inside (take i us) p) (inside (u ∷ []) p) rs)

-- if no use clause is in the part, none of the list is
pub inside-none : (p : Part) (us : List UseInPart) (i : ℕ) (u : UseInPart) → i < length us → u ≡ get_or us i u → inside us p ≡ [] → stands_in p u ≡ false
inside-none p [] i u h e none = absurd (omega arith)
inside-none p (x ∷ us) zero u h e none = ap (stands_in p) e ∙ at (stands_in p x) none
  where
    at : (b : Bool) → map (λ (y : UseInPart). y.clause) (cond b (x ∷ filter (stands_in p) us) (filter (stands_in p) us)) ≡ [] → b ≡ false
    at true k = absurd (cc)
    at false k = refl
inside-none p (x ∷ us) (suc i) u h e none = inside-none p us i u (omega arith) e (at (stands_in p x) none)
  where
    at : (b : Bool) → map (λ (y : UseInPart). y.clause) (cond b (x ∷ filter (stands_in p) us) (filter (stands_in p) us)) ≡ [] → inside us p ≡ []
    at true k = absurd (cc)
    at false k = k

-- what joined lists are made of, if these have nothing
pub joined-first : {X : Type 0} (xs ys : List X) → xs ++ ys ≡ [] → xs ≡ []
joined-first [] ys none = refl
joined-first (x ∷ xs) ys none = absurd (cc)

pub joined-second : {X : Type 0} (xs ys : List X) → xs ++ ys ≡ [] → ys ≡ []
joined-second [] ys none = none
joined-second (x ∷ xs) ys none = absurd (cc)

pub append-assoc : {X : Type 0} (xs ys zs : List X) → (xs ++ ys) ++ zs ≡ xs ++ (ys ++ zs)
append-assoc [] ys zs = refl
append-assoc (x ∷ xs) ys zs = ap (λ l. x ∷ l) (append-assoc xs ys zs)

pub append-none : {X : Type 0} (xs : List X) → xs ++ [] ≡ xs
append-none [] = refl
append-none (x ∷ xs) = ap (λ l. x ∷ l) (append-none xs)

flat_map-push : {X Y : Type 0} (f : X → List Y) (xs : List X) (x : X) → flat_map f (xs ++ x ∷ []) ≡ flat_map f xs ++ f x
flat_map-push f [] x = append-none (f x)
flat_map-push f (y ∷ ys) x = ap (λ l. f y ++ l) (flat_map-push f ys x) ∙ sym (append-assoc (f y) (flat_map f ys) (f x))

-- what one more gives
pub flat_map-more : {X Y : Type 0} (f : X → List Y) (xs : List X) (i : ℕ) (x : X) → i < length xs → x ≡ get_or xs i x → flat_map f (take (i + 1) xs) ≡ flat_map f (take i xs) ++ f x
flat_map-more f xs i x h e =
    let more : take (i + 1) xs ≡ take i xs ++ x ∷ [] = take_more xs i x h ∙ ap (λ y. take i xs ++ y ∷ []) (sym e) in
    ap (flat_map f) more ∙ flat_map-push f (take i xs) x

at_stubs-join : (t : Query → AnswerKind) (xs ys : List UnitPart) (rs : List Region) → at_stubs t (xs ++ ys) rs ≡ at_stubs t ys (at_stubs t xs rs)
at_stubs-join t [] ys rs = refl
at_stubs-join t (x ∷ xs) ys rs = at_stubs-join t xs ys (at_stub t x (view_at t x.unit) rs)

-- the region of one more body
pub at_stubs-more : (t : Query → AnswerKind) (ps : List UnitPart) (i : ℕ) (p : UnitPart) (rs before after : List Region) → i < length ps → p ≡ get_or ps i p → before ≡ at_stubs t (take i ps) rs → after ≡ at_stub t p (view_at t p.unit) before → after ≡ at_stubs t (take (i + 1) ps) rs
at_stubs-more t ps i p rs before after h e b a =
    let more : take (i + 1) ps ≡ take i ps ++ p ∷ [] = take_more ps i p h ∙ ap (λ x. take i ps ++ x ∷ []) (sym e) in
    a ∙ ap (at_stub t p (view_at t p.unit)) b ∙ sym (ap (λ l. at_stubs t l rs) more ∙ at_stubs-join t (take i ps) (p ∷ []) rs)

-- the use clauses of one more part
pub part_uses-more : (t : Query → AnswerKind) (ps : List UnitPart) (i : ℕ) (p : UnitPart) (rs before after : List Region) → i < length ps → p ≡ get_or ps i p → before ≡ with_clauses (flat_map (part_uses t) (take i ps)) rs → after ≡ with_clauses (part_uses t p) before → after ≡ with_clauses (flat_map (part_uses t) (take (i + 1) ps)) rs
part_uses-more t ps i p rs before after h e b a =
    let more : take (i + 1) ps ≡ take i ps ++ p ∷ [] = take_more ps i p h ∙ ap (λ x. take i ps ++ x ∷ []) (sym e) in
    let split : flat_map (part_uses t) (take (i + 1) ps) ≡ flat_map (part_uses t) (take i ps) ++ part_uses t p = ap (flat_map (part_uses t)) more ∙ flat_map-push (part_uses t) (take i ps) p in
    a ∙ ap (with_clauses (part_uses t p)) b ∙ sym (ap (λ l. with_clauses l rs) split ∙ with_clauses-join (flat_map (part_uses t) (take i ps)) (part_uses t p) rs)

-- the names of one more unit
pub names-more : (f : UnitKey → List (List ℕ)) (us : List UnitKey) (i : ℕ) (u : UnitKey) (start before after : List (List ℕ)) → i < length us → u ≡ get_or us i u → before ≡ start ++ flat_map f (take i us) → after ≡ before ++ f u → after ≡ start ++ flat_map f (take (i + 1) us)
names-more f us i u start before after h e b a =
    let more : take (i + 1) us ≡ take i us ++ u ∷ [] = take_more us i u h ∙ ap (λ x. take i us ++ x ∷ []) (sym e) in
    let split : flat_map f (take (i + 1) us) ≡ flat_map f (take i us) ++ f u = ap (flat_map f) more ∙ flat_map-push f (take i us) u in
    a ∙ ap (λ l. l ++ f u) b ∙ append-assoc start (flat_map f (take i us)) (f u) ∙ ap (λ l. start ++ l) (sym split)

-- one of some tests

any-join : {X : Type 0} (f : X → Bool) (xs ys : List X) → list_any f xs ≡ false → list_any f (xs ++ ys) ≡ list_any f ys
any-join f [] ys h = refl
any-join f (x ∷ xs) ys h = at (f x) h (any-join f xs ys)
  where
    at : (b : Bool) → (b || list_any f xs) ≡ false → (list_any f xs ≡ false → list_any f (xs ++ ys) ≡ list_any f ys) → (b || list_any f (xs ++ ys)) ≡ list_any f ys
    at true k more = absurd (cc)
    at false k more = more k

-- none so far and not the next
pub none-more : (t : Query → AnswerKind) (us : List UnitKey) (i : ℕ) (u : UnitKey) → i < length us → u ≡ get_or us i u → some_private t (take i us) ≡ false → some_private t (u ∷ []) ≡ false → some_private t (take (i + 1) us) ≡ false
none-more t us i u h e before isnt =
    let more : take (i + 1) us ≡ take i us ++ u ∷ [] = take_more us i u h ∙ ap (λ x. take i us ++ x ∷ []) (sym e) in
    ap (some_private t) more ∙ any-join (λ (x : UnitKey). is_private_of (t (Of x IsPrivate))) (take i us) (u ∷ []) before ∙ isnt

-- the next is
pub some-at : (t : Query → AnswerKind) (us : List UnitKey) (i : ℕ) (u : UnitKey) → i < length us → u ≡ get_or us i u → some_private t (u ∷ []) ≡ true → some_private t us ≡ true
some-at t [] i u h e is = absurd (omega arith)
some-at t (x ∷ us) zero u h e is =
    let first : some_private t (x ∷ []) ≡ true = ap (λ (y : UnitKey). some_private t (y ∷ [])) (sym e) ∙ is in
    at (is_private_of (t (Of x IsPrivate))) first
  where
    at : (b : Bool) → (b || false) ≡ true → (b || some_private t us) ≡ true
    at true k = refl
    at false k = absurd (cc)
some-at t (x ∷ us) (suc i) u h e is = at (is_private_of (t (Of x IsPrivate))) (some-at t us i u (omega arith) e is)
  where
    at : (b : Bool) → some_private t us ≡ true → (b || some_private t us) ≡ true
    at true k = refl
    at false k = k

-- ancestors

pub first-of : (us : List UnitKey) (i : ℕ) (u : UnitKey) → i < length us → u ≡ get_or us i u → drop i us ≡ u ∷ drop (i + 1) us
first-of us i u h e = at_drop_more (λ l. l) us i u h ∙ ap (λ x. x ∷ drop (i + 1) us) (sym e)

pub inward-more : (t : Query → AnswerKind) (sees : Bool) (us : List UnitKey) (i : ℕ) (u : UnitKey) (near : List UnitKey) (rs before after : List Region) → drop i us ≡ u ∷ near → inward t sees (drop i us) before ≡ rs → after ≡ (let parts = declaration_parts u (sees || some_private t near) in continued t (symbol_at t u) parts parts before) → inward t sees near after ≡ rs
inward-more t sees us i u near rs before after d b a = ap (inward t sees near) a ∙ ap (λ l. inward t sees l before) (sym d) ∙ b

pub opened-more : (t : Table) (sees : Bool) (us : List UnitKey) (i : ℕ) (u : UnitKey) (near : List UnitKey) (rs before after : List Region) → drop i us ≡ u ∷ near → outward_opened t sees (drop i us) before ≡ rs → after ≡ cond (sees || some_private t near) before (opened t u before) → outward_opened t sees near after ≡ rs
opened-more t sees us i u near rs before after d b a = ap (outward_opened t sees near) a ∙ ap (λ l. outward_opened t sees l before) (sym d) ∙ b

-- questions for properties, one call after another

pub asks-none : (us : List UnitKey) (log : Log) → AsksOf us by_property log log
asks-none us log = asks_none (OfKnown us by_property) log

pub asks-both : (us : List UnitKey) (old mid new : Log) → AsksOf us by_property old mid → AsksOf us by_property mid new → AsksOf us by_property old new
asks-both us old mid new one two = asks_then (OfKnown us by_property) old mid new one two

pub asks-then : (us vs : List UnitKey) (old mid new : Log) → AsksOf us by_property old mid → AsksOf vs by_property mid new → AsksOf (us ++ vs) by_property old new
asks-then us vs old mid new one two = asks_of-both us vs by_property old mid new one two

pub asks-same : (us vs : List UnitKey) (old new : Log) → us ≡ vs → AsksOf us by_property old new → AsksOf vs by_property old new
asks-same us vs old new e one = asks_of-same us vs by_property old new e one

among-at : (us : List UnitKey) (i : ℕ) (u v : UnitKey) → i < length us → u ≡ get_or us i u → has_unit (u ∷ []) v ≡ true → has_unit us v ≡ true
among-at [] i u v h e m = absurd (omega arith)
among-at (x ∷ us) zero u v h e m = has_unit-left (x ∷ []) us v (subst (λ (y : UnitKey). has_unit (y ∷ []) v ≡ true) e m)
among-at (x ∷ us) (suc i) u v h e m = has_unit-right (x ∷ []) us v (among-at us i u v (omega arith) e m)

-- of one of them
pub asks-at : (us : List UnitKey) (i : ℕ) (u : UnitKey) (old new : Log) → i < length us → u ≡ get_or us i u → AsksOf (u ∷ []) by_property old new → AsksOf us by_property old new
asks-at us i u old new h e one = asks_of-units (u ∷ []) us by_property old new (λ v m. among-at us i u v h e m) one

among-drop : (us : List UnitKey) (i : ℕ) (v : UnitKey) → has_unit (drop i us) v ≡ true → has_unit us v ≡ true
among-drop [] zero v m = m
among-drop [] (suc i) v m = m
among-drop (x ∷ us) zero v m = m
among-drop (x ∷ us) (suc i) v m = has_unit-right (x ∷ []) us v (among-drop us i v m)

-- of those from a place on
pub asks-drop : (us : List UnitKey) (i : ℕ) (old new : Log) → AsksOf (drop i us) by_property old new → AsksOf us by_property old new
asks-drop us i old new one = asks_of-units (drop i us) us by_property old new (among-drop us i) one

-- of the unit of a declaration's parts
among-parts : (u : UnitKey) (b : Bool) (v : UnitKey) → has_unit (part_units (declaration_parts u b)) v ≡ true → has_unit (u ∷ []) v ≡ true
among-parts u true v m = elim (has_unit-cases (u ∷ []) (u ∷ []) v m) as (λ _. has_unit (u ∷ []) v ≡ true) [ inl k ↦ k | inr k ↦ k ]
among-parts u false v m = m

pub asks-parts : (u : UnitKey) (b : Bool) (old new : Log) → AsksOf (part_units (declaration_parts u b)) by_property old new → AsksOf (u ∷ []) by_property old new
asks-parts u b old new one = asks_of-units (part_units (declaration_parts u b)) (u ∷ []) by_property old new (among-parts u b) one

-- of the others first, and of this one then
pub asks-turned : (u : UnitKey) (us : List UnitKey) (old mid new : Log) → AsksOf us by_property old mid → AsksOf (u ∷ []) by_property mid new → AsksOf (u ∷ us) by_property old new
asks-turned u us old mid new one two = asks-both (u ∷ us) old mid new (asks_of-right (u ∷ []) us by_property old mid one) (asks_of-left (u ∷ []) us by_property mid new two)

-- of a body's declaration, by its parts
pub asks-own : (u : UnitKey) (b p : Bool) (old new : Log) → AsksOf (part_units (cond b (declaration_parts u p) [])) by_property old new → AsksOf (cond b (u ∷ []) []) by_property old new
asks-own u true p old new one = asks-parts u p old new one
asks-own u false p old new one = one

-- and of the body
among-stub : (u : UnitKey) (b p : Bool) (x : UnitPart) (v : UnitKey) → has_unit (part_units (cond b (declaration_parts u p) [] ++ x ∷ [])) v ≡ true → has_unit (cond b (u ∷ []) [] ++ x.unit ∷ []) v ≡ true
among-stub u true true x v m = elim (has_unit-cases (u ∷ []) (u ∷ x.unit ∷ []) v m) as (λ _. has_unit (u ∷ x.unit ∷ []) v ≡ true) [
  | inl k ↦ has_unit-left (u ∷ []) (x.unit ∷ []) v k
  | inr k ↦ k
]
among-stub u true false x v m = m
among-stub u false p x v m = m

pub asks-stub : (u : UnitKey) (b p : Bool) (x : UnitPart) (old new : Log) → AsksOf (part_units (cond b (declaration_parts u p) [] ++ x ∷ [])) by_property old new → AsksOf (cond b (u ∷ []) [] ++ x.unit ∷ []) by_property old new
asks-stub u b p x old new one = asks_of-units (part_units (cond b (declaration_parts u p) [] ++ x ∷ [])) (cond b (u ∷ []) [] ++ x.unit ∷ []) by_property old new (among-stub u b p x) one

-- one question
pub asks-one : (old new : Log) (q : Query) (unit : UnitKey) (p : Property) (a : AnswerKind) → by_property old (Of unit p) ≡ true → q ≡ Of unit p → new ≡ logged old q a → AsksOf (unit ∷ []) by_property old new
asks-one old new q unit p a h is e = asks_of-one by_property old new q unit a (ap unit_of is) (ap (by_property old) is ∙ h) e

pub map-after : {X Y Z : Type 0} (f : Y → Z) (g : X → Y) (xs : List X) → map (λ x. f (g x)) xs ≡ map f (map g xs)
map-after f g [] = refl
map-after f g (x ∷ xs) = ap (λ l. f (g x) ∷ l) (map-after f g xs)

-- a unit has no ancestors if, and only if, it has no parent

ends : {X : Type 0} (x : X) (xs : List X) → last_or (Some x) xs ≡ None → ⊥
ends x [] none = absurd (cc)
ends x (y ∷ xs) none = ends y xs none

no-last : {X : Type 0} (xs : List X) → last_or None xs ≡ None → xs ≡ []
no-last [] none = refl
no-last (x ∷ xs) none = absurd (ends x xs none)

pub no_parent : {B X : Type 0} (f : B → X) (o : Option B) (xs : List X) → is_some o ≡ false → option_map f o ≡ last_or None xs → xs ≡ []
no_parent f None xs none is = no-last xs (sym is)
no_parent f (Some b) xs none is = absurd (cc)
