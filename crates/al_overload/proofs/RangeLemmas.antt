-- No type of an operand's head is left out.
use Rattle.std.proofs.Common.{◌≡◌, ℕ, ◌+◌, ◌<◌, map, take, get_or, length, Bool, true, false, ◌||◌, List, [], ◌∷◌, ◌++◌, fold, if◌then◌else◌, refl, sym, ◌∙◌, ap}
use Rattle.std.specs.List.{list_any}
use Rattle.std.proofs.lemmas.List.{append_assoc, map-append, take_more}
use Rattle.al_view.specs.Symbols.{same_symbol}
use Rattle.al_view.proofs.SymbolLemmas.{both, same_symbol-one}
use Rattle.al_overload.specs.declared.types.Given.{Given}
use Rattle.al_overload.specs.declared.types.Given.TheVariants as g
use Rattle.al_overload.specs.declared.types.ValueType.{ValueType}
use Rattle.al_overload.specs.declared.term.Candidate.{Candidate}
use Rattle.al_overload.specs.Fitting.{is_discrete}
use Rattle.al_overload.specs.Labelling.{Node, Trees, NoTree, MoreTrees}
use Rattle.al_overload.specs.Ranges.{added, added_given, given_is, has_type, may_be, with_given, with_types}

or-right : (a : Bool) → (a || true) ≡ true
or-right true = refl
or-right false = refl

left-at : (b e f : Bool) → (b || e) ≡ true → (e ≡ true → f ≡ true) → (b || f) ≡ true
left-at true e f h k = refl
left-at false e f h k = k h

any-left : {A : Type 0} (p : A → Bool) (xs : List A) (y : A) → list_any p xs ≡ true → list_any p (xs ++ y ∷ []) ≡ true
any-left p [] y h = cc
any-left p (x ∷ xs) y h = left-at (p x) (list_any p xs) (list_any p (xs ++ y ∷ [])) h (any-left p xs y)

any-last : {A : Type 0} (p : A → Bool) (xs : List A) (y : A) → p y ≡ true → list_any p (xs ++ y ∷ []) ≡ true
any-last p [] y h = rw h refl
any-last p (x ∷ xs) y h = let e = any-last p xs y h in rw e (or-right (p x))

kept-added : (b : Bool) (ts : List ValueType) (s t : ValueType) → has_type ts t ≡ true → has_type (if b then ts else ts ++ s ∷ []) t ≡ true
kept-added true ts s t h = h
kept-added false ts s t h = any-left (λ (x : ValueType). same_symbol x.symbol t.symbol) ts s h

kept-given : (b : Bool) (ts : List ValueType) (s t : ValueType) → has_type ts t ≡ true → has_type (if b then added ts s else ts) t ≡ true
kept-given true ts s t h = kept-added (has_type ts s) ts s t h
kept-given false ts s t h = h

kept : (ts : List ValueType) (given : Given) (t : ValueType) → has_type ts t ≡ true → has_type (with_given ts given) t ≡ true
kept ts g.Nothing t h = h
kept ts (g.Value s) t h = kept-given (is_discrete s.class) ts s t h
kept ts g.Universal t h = h
kept ts g.Text t h = h

entered-at : (b : Bool) (ts : List ValueType) (s t : ValueType) → has_type ts s ≡ b → s.symbol ≡ t.symbol → same_symbol s.symbol t.symbol ≡ true → has_type (if b then ts else ts ++ s ∷ []) t ≡ true
entered-at true ts s t h e k = sym (ap (λ y. list_any (λ (x : ValueType). same_symbol x.symbol y) ts) e) ∙ h
entered-at false ts s t h e k = any-last (λ (x : ValueType). same_symbol x.symbol t.symbol) ts s k

entered : (ts : List ValueType) (given : Given) (t : ValueType) → given_is given t ≡ true → has_type (with_given ts given) t ≡ true
entered ts g.Nothing t h = cc
entered ts (g.Value s) t h =
    let parts = both (is_discrete s.class) (same_symbol s.symbol t.symbol) h in
    let d = parts.0 in
    rw d (entered-at (has_type ts s) ts s t refl (same_symbol-one s.symbol t.symbol parts.1) parts.1)
entered ts g.Universal t h = cc
entered ts g.Text t h = cc

fold-kept : (cs : List Candidate) (ts : List ValueType) (t : ValueType) → has_type ts t ≡ true → has_type (fold added_given ts cs) t ≡ true
fold-kept [] ts t h = h
fold-kept (c ∷ cs) ts t h = fold-kept cs (added_given ts c) t (kept ts c.given t h)

either : {Q : Type 0} (a b : Bool) → (a || b) ≡ true → (a ≡ true → Q) → (b ≡ true → Q) → Q
either true b h f k = f refl
either false b h f k = k h

fold-entered : (cs : List Candidate) (ts : List ValueType) (t : ValueType) → list_any (λ c. given_is c.given t) cs ≡ true → has_type (fold added_given ts cs) t ≡ true
fold-entered [] ts t h = cc
fold-entered (c ∷ cs) ts t h =
    either (given_is c.given t) (list_any (λ d. given_is d.given t) cs) h
    (λ e. fold-kept cs (added_given ts c) t (entered ts c.given t e))
    (λ e. fold-entered cs (added_given ts c) t e)

types-kept : (args : Trees) (ts : List ValueType) (t : ValueType) → has_type ts t ≡ true → has_type (with_types ts args) t ≡ true
types-kept NoTree ts t h = h
types-kept (MoreTrees (Node cs args) more) ts t h = types-kept more (fold added_given ts cs) t (fold-kept cs ts t h)

pub types_entered : (args : Trees) (ts : List ValueType) (t : ValueType) → may_be t args ≡ true → has_type (with_types ts args) t ≡ true
types_entered NoTree ts t h = cc
types_entered (MoreTrees (Node cs args) more) ts t h =
    either (list_any (λ c. given_is c.given t) cs) (may_be t more) h
    (λ e. types-kept more (fold added_given ts cs) t (fold-entered cs ts t e))
    (λ e. types_entered more (fold added_given ts cs) t e)

-- one more item of a loop
pub map-next : {A B : Type 0} (f : A → B) (start cs : List B) (ts : List A) (i : ℕ) (d : A) (c : B) → i < length ts → d ≡ get_or ts i d → c ≡ f d →
    cs ≡ start ++ map f (take i ts) → cs ++ c ∷ [] ≡ start ++ map f (take (i + 1) ts)
map-next f start cs ts i d c h e k g =
    let one : take (i + 1) ts ≡ take i ts ++ d ∷ [] = take_more ts i d h ∙ ap (λ x. take i ts ++ x ∷ []) (sym e) in
    rw (g, k)
    (append_assoc start (map f (take i ts)) (f d ∷ [])
    ∙ ap (λ l. start ++ l) (sym (map-append f (take i ts) (d ∷ [])) ∙ ap (map f) (sym one)))
