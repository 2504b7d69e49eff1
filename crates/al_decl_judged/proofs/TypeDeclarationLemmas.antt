-- Lists of types that are joined.
use Rattle.std.proofs.Common.{◌≡◌, List, [], ◌∷◌, ◌++◌, Bool, true, false, cond, not, ◌||◌, ◌⊎◌, inl, inr, Option, Some, refl, sym, ◌∙◌, ap, subst, append_assoc}
use Rattle.std.specs.Prelude.{is_some}
use Rattle.std.specs.List.{find, list_all, list_any}
use Rattle.std.specs.Option.{option_or}
use Rattle.std.proofs.lemmas.List.{append-nil}
use Rattle.std.proofs.lemmas.List.Folds.{list_any-append}
use Rattle.al_view.specs.declared.symbol.Symbol.{Symbol}
use Rattle.al_view.specs.declared.types.TypeView.{TypeView}
use Rattle.al_view.specs.Symbols.{same_symbol}
use Rattle.al_view.specs.ViewSymbols.{definition_symbols}
use Rattle.al_view.proofs.SymbolLemmas.{and_both, both, same_symbol-one, same_symbol-self}
use Rattle.al_view_predefined.specs.StandardTypes.{standard_types}
use Rattle.al_view.specs.Types.{type_in}
use Rattle.al_decl_judged.specs.TypeLists.{is_known, joined, other_types, with_type}
use Rattle.al_decl_judged.specs.Laws.{each_once, has_components, closed_after, TypesStandOnce, TypesAreThere}

-- whether one of these has the symbol
abbrev pub has : List TypeView → Symbol → Bool
has types s = list_any (λ t. same_symbol t.symbol s) types

found_or : (p : TypeView → Bool) (types : List TypeView) (o : Option TypeView) → is_some (option_or (find p types) o) ≡ (list_any p types || is_some o)
found_or p [] o = refl
found_or p (t ∷ ts) o = at (p t) (found_or p ts o)
  where
    at : (b : Bool) → is_some (option_or (find p ts) o) ≡ (list_any p ts || is_some o) → is_some (option_or (cond b (Some t) (find p ts)) o) ≡ ((b || list_any p ts) || is_some o)
    at true rest = refl
    at false rest = rest

-- a symbol is known if one of these types has it, or one of Standard's
pub known_is : (types : List TypeView) (s : Symbol) → is_known types s ≡ (has types s || is_some (type_in standard_types s))
known_is types s = found_or (λ t. same_symbol t.symbol s) types (type_in standard_types s)

or_left : (a b : Bool) → a ≡ true → (a || b) ≡ true
or_left true b h = refl
or_left false b h = absurd (cc)

or_right : (a b : Bool) → b ≡ true → (a || b) ≡ true
or_right true b h = refl
or_right false b h = h

or_cases : (a b : Bool) → (a || b) ≡ true → (a ≡ true) ⊎ (b ≡ true)
or_cases true b h = inl refl
or_cases false b h = inr h

neither : (a b : Bool) → (a || b) ≡ false → (a ≡ false) × (b ≡ false)
neither true b h = absurd (cc)
neither false b h = (refl, h)

-- after one more type
pub has-push : (types : List TypeView) (t : TypeView) (s : Symbol) → has (types ++ t ∷ []) s ≡ (has types s || (same_symbol t.symbol s || false))
has-push types t s = list_any-append (λ u. same_symbol u.symbol s) types (t ∷ [])

from_has : (types : List TypeView) (s : Symbol) → has types s ≡ true → is_known types s ≡ true
from_has types s h = known_is types s ∙ or_left (has types s) (is_some (type_in standard_types s)) h

-- a symbol that is known stays known after one more type
known-push : (types : List TypeView) (t : TypeView) (s : Symbol) → is_known types s ≡ true → is_known (types ++ t ∷ []) s ≡ true
known-push types t s h = at (or_cases (has types s) (is_some (type_in standard_types s)) (sym (known_is types s) ∙ h))
  where
    at : (has types s ≡ true) ⊎ (is_some (type_in standard_types s) ≡ true) → is_known (types ++ t ∷ []) s ≡ true
    at (inl k) = from_has (types ++ t ∷ []) s (has-push types t s ∙ or_left (has types s) (same_symbol t.symbol s || false) k)
    at (inr k) = known_is (types ++ t ∷ []) s ∙ or_right (has (types ++ t ∷ []) s) (is_some (type_in standard_types s)) k

-- and so is the symbol of that type
known-self : (types : List TypeView) (t : TypeView) → is_known (types ++ t ∷ []) t.symbol ≡ true
known-self types t =
    from_has (types ++ t ∷ []) t.symbol
    (has-push types t t.symbol ∙ or_right (has types t.symbol) (same_symbol t.symbol t.symbol || false) (or_left (same_symbol t.symbol t.symbol) false (same_symbol-self t.symbol)))

-- no other symbol becomes known
pushed_cases : (types : List TypeView) (t : TypeView) (s : Symbol) → is_known (types ++ t ∷ []) s ≡ true → (is_known types s ≡ true) ⊎ (t.symbol ≡ s)
pushed_cases types t s h = at (or_cases (has (types ++ t ∷ []) s) (is_some (type_in standard_types s)) (sym (known_is (types ++ t ∷ []) s) ∙ h))
  where
    last : (same_symbol t.symbol s ≡ true) ⊎ (false ≡ true) → (is_known types s ≡ true) ⊎ (t.symbol ≡ s)
    last (inl k) = inr (same_symbol-one t.symbol s k)
    last (inr k) = absurd (cc)

    within : (has types s ≡ true) ⊎ ((same_symbol t.symbol s || false) ≡ true) → (is_known types s ≡ true) ⊎ (t.symbol ≡ s)
    within (inl k) = inl (from_has types s k)
    within (inr k) = last (or_cases (same_symbol t.symbol s) false k)

    at : (has (types ++ t ∷ []) s ≡ true) ⊎ (is_some (type_in standard_types s) ≡ true) → (is_known types s ≡ true) ⊎ (t.symbol ≡ s)
    at (inl k) = within (or_cases (has types s) (same_symbol t.symbol s || false) (sym (has-push types t s) ∙ k))
    at (inr k) = inl (known_is types s ∙ or_right (has types s) (is_some (type_in standard_types s)) k)

-- the same of one more type that may be known already
known-with_type : (types : List TypeView) (t : TypeView) (s : Symbol) → is_known types s ≡ true → is_known (with_type types t) s ≡ true
known-with_type types t s h = at (is_known types t.symbol)
  where
    at : (b : Bool) → is_known (cond b types (types ++ t ∷ [])) s ≡ true
    at true = h
    at false = known-push types t s h

with_type-self : (types : List TypeView) (t : TypeView) → is_known (with_type types t) t.symbol ≡ true
with_type-self types t = at (is_known types t.symbol) refl
  where
    at : (b : Bool) → is_known types t.symbol ≡ b → is_known (cond b types (types ++ t ∷ [])) t.symbol ≡ true
    at true h = h
    at false h = known-self types t

-- what is known of two lists is known of both joined
known-joined : (types others : List TypeView) (s : Symbol) → is_known types s ≡ true → is_known (joined types others) s ≡ true
known-joined types [] s h = h
known-joined types (t ∷ ts) s h = known-joined (with_type types t) ts s (known-with_type types t s h)

has-joined : (types others : List TypeView) (s : Symbol) → has others s ≡ true → is_known (joined types others) s ≡ true
has-joined types [] s h = absurd (cc)
has-joined types (t ∷ ts) s h = at (or_cases (same_symbol t.symbol s) (has ts s) h) (has-joined (with_type types t) ts s)
  where
    at : (same_symbol t.symbol s ≡ true) ⊎ (has ts s ≡ true) → (has ts s ≡ true → is_known (joined (with_type types t) ts) s ≡ true) → is_known (joined (with_type types t) ts) s ≡ true
    at (inl k) rest = known-joined (with_type types t) ts s (subst (λ (x : Symbol). is_known (with_type types t) x ≡ true) (same_symbol-one t.symbol s k) (with_type-self types t))
    at (inr k) rest = rest k

known-others : (types others : List TypeView) (s : Symbol) → is_known others s ≡ true → is_known (joined types others) s ≡ true
known-others types others s h = at (or_cases (has others s) (is_some (type_in standard_types s)) (sym (known_is others s) ∙ h))
  where
    at : (has others s ≡ true) ⊎ (is_some (type_in standard_types s) ≡ true) → is_known (joined types others) s ≡ true
    at (inl k) = has-joined types others s k
    at (inr k) = known-joined types others s (known_is types s ∙ or_right (has types s) (is_some (type_in standard_types s)) k)

-- the test of symbols goes both ways
same_symbol-swap : (a b : Symbol) → same_symbol a b ≡ false → same_symbol b a ≡ false
same_symbol-swap a b h = at (same_symbol b a) refl
  where
    at : (c : Bool) → same_symbol b a ≡ c → c ≡ false
    at true k =
        let one : b ≡ a = same_symbol-one b a k in
        let yes : same_symbol a b ≡ true = subst (λ (x : Symbol). same_symbol x b ≡ true) one (same_symbol-self b) in
        absurd (cc)
    at false k = refl

not_false : (a : Bool) → not a ≡ true → a ≡ false
not_false true h = absurd (cc)
not_false false h = refl

-- one more type that has no symbol of these is there once
each_once-push : (types : List TypeView) (t : TypeView) → each_once types ≡ true → has types t.symbol ≡ false → each_once (types ++ t ∷ []) ≡ true
each_once-push [] t h k = refl
each_once-push (u ∷ us) t h k =
    let parts = both (not (has us u.symbol)) (each_once us) h in
    let apart = neither (same_symbol u.symbol t.symbol) (has us t.symbol) k in
    let rest = each_once-push us t parts.1 apart.1 in
    let other = same_symbol-swap u.symbol t.symbol apart.0 in
    let none : has (us ++ t ∷ []) u.symbol ≡ false = has-push us t u.symbol ∙ ap (λ (b : Bool). b || (same_symbol t.symbol u.symbol || false)) (not_false (has us u.symbol) parts.0) ∙ ap (λ (b : Bool). b || false) other in
    and_both (not (has (us ++ t ∷ []) u.symbol)) (each_once (us ++ t ∷ [])) (ap not none) rest

each_once-with_type : (types : List TypeView) (t : TypeView) → each_once types ≡ true → each_once (with_type types t) ≡ true
each_once-with_type types t h = at (is_known types t.symbol) refl
  where
    at : (b : Bool) → is_known types t.symbol ≡ b → each_once (cond b types (types ++ t ∷ [])) ≡ true
    at true k = h
    at false k = each_once-push types t h (neither (has types t.symbol) (is_some (type_in standard_types t.symbol)) (sym (known_is types t.symbol) ∙ k)).0

pub stand_once : TypesStandOnce
stand_once types [] h = h
stand_once types (t ∷ ts) h = stand_once (with_type types t) ts (each_once-with_type types t h)

-- whatever is known here is known there
abbrev Known : List TypeView → List TypeView → Type 0
Known env there = (s : Symbol) → is_known env s ≡ true → is_known there s ≡ true

all_known : (env there : List TypeView) (symbols : List Symbol) → Known env there → list_all (is_known env) symbols ≡ true → list_all (is_known there) symbols ≡ true
all_known env there [] known h = refl
all_known env there (s ∷ ss) known h =
    let parts = both (is_known env s) (list_all (is_known env) ss) h in
    and_both (is_known there s) (list_all (is_known there) ss) (known s parts.0) (all_known env there ss known parts.1)

closed-push : (before types all : List TypeView) (t : TypeView) → all ≡ before ++ types → closed_after before types ≡ true → has_components all t ≡ true → closed_after before (types ++ t ∷ []) ≡ true
closed-push before [] all t is h k =
    let same : all ≡ before = is ∙ append-nil before in
    and_both (has_components before t) true (subst (λ (l : List TypeView). has_components l t ≡ true) same k) refl
closed-push before (u ∷ us) all t is h k =
    let parts = both (has_components before u) (closed_after (before ++ u ∷ []) us) h in
    let longer : all ≡ (before ++ u ∷ []) ++ us = is ∙ sym (append_assoc before (u ∷ []) us) in
    and_both (has_components before u) (closed_after (before ++ u ∷ []) (us ++ t ∷ [])) parts.0 (closed-push (before ++ u ∷ []) us all t longer parts.1 k)

known-with : (before types : List TypeView) (t : TypeView) → Known before types → Known (before ++ t ∷ []) (with_type types t)
known-with before types t known s h = at (pushed_cases before t s h)
  where
    at : (is_known before s ≡ true) ⊎ (t.symbol ≡ s) → is_known (with_type types t) s ≡ true
    at (inl k) = known-with_type types t s (known s k)
    at (inr k) = subst (λ (x : Symbol). is_known (with_type types t) x ≡ true) k (with_type-self types t)

closed-with : (before types : List TypeView) (t : TypeView) → Known before types → has_components before t ≡ true → closed_after [] types ≡ true → closed_after [] (with_type types t) ≡ true
closed-with before types t known h k = at (is_known types t.symbol)
  where
    at : (b : Bool) → closed_after [] (cond b types (types ++ t ∷ [])) ≡ true
    at true = k
    at false = closed-push [] types types t refl k (all_known before types (definition_symbols t.definition) known h)

closed-joined : (before types others : List TypeView) → Known before types → closed_after before others ≡ true → closed_after [] types ≡ true → closed_after [] (joined types others) ≡ true
closed-joined before types [] known h k = k
closed-joined before types (t ∷ ts) known h k =
    let parts = both (has_components before t) (closed_after (before ++ t ∷ []) ts) h in
    closed-joined (before ++ t ∷ []) (with_type types t) ts (known-with before types t known) parts.1 (closed-with before types t known parts.0 k)

known-none : (types : List TypeView) → Known [] types
known-none types s h = known_is types s ∙ or_right (has types s) (is_some (type_in standard_types s)) h

pub are_there : TypesAreThere
are_there types others h k =
    (closed-joined [] types others (known-none types) k h, known-joined types others, known-others types others)

-- if no type is one of Standard's, nothing is left out
pub none_left_out : (types : List TypeView) → list_any (λ t. is_known [] t.symbol) types ≡ false → other_types types ≡ types
none_left_out [] h = refl
none_left_out (t ∷ ts) h =
    let parts = neither (is_known [] t.symbol) (list_any (λ u. is_known [] u.symbol) ts) h in
    at (is_known [] t.symbol) parts.0 (none_left_out ts parts.1)
  where
    at : (b : Bool) → b ≡ false → other_types ts ≡ ts → cond (not b) (t ∷ other_types ts) (other_types ts) ≡ (t ∷ ts)
    at true other rest = absurd (cc)
    at false other rest = ap (λ (l : List TypeView). t ∷ l) rest

-- a type that is listed is known, and of another one Standard decides
pub known_listed : (types : List TypeView) (s : Symbol) (listed : Bool) → listed ≡ has types s → listed ≡ true → listed ≡ is_known types s
known_listed types s listed is h = h ∙ sym (from_has types s (sym is ∙ h))

pub known_other : (types : List TypeView) (s : Symbol) (listed standard : Bool) → listed ≡ has types s → listed ≡ false → standard ≡ is_known [] s → standard ≡ is_known types s
known_other types s listed standard is h e =
    e ∙ sym (known_is types s ∙ ap (λ (b : Bool). b || is_some (type_in standard_types s)) (sym is ∙ h))
