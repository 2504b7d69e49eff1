-- All that the view of a type has under a sign are operators of the type.
use Rattle.std.proofs.Common.{◌≡◌, ℕ, Bool, true, false, cond, ◌||◌, ◌&&◌, List, [], ◌∷◌, ◌+◌, ◌++◌, Option, Some, None, filter, fold, length, refl, sym, ◌∙◌, ap}
use Rattle.std.specs.List.{list_all}
use Rattle.std.specs.Map.{lookup}
use Rattle.std.specs.Option.{option_map_or}
use Rattle.std.specs.Prelude.{unwrap_or}
use Rattle.std.specs.Str.{bytes_eq}
use Rattle.al_view.proofs.SymbolLemmas.{and_both, both, same_symbol-self}
use Rattle.al_view.specs.Interfaces.{views_of, with_view}
use Rattle.al_view.specs.Named.{Declarations}
use Rattle.al_view.specs.Operators.{is_operator_of}
use Rattle.al_view.specs.Types.{type_in}
use Rattle.al_view.specs.declared.symbol.Symbol.{Symbol}
use Rattle.al_view.specs.declared.types.TypeView.{TypeView}
use Rattle.al_view.specs.declared.view.ViewKind.{ViewKind}
use Rattle.al_view_predefined.specs.Operators.{Group, operator_view, operators_of, spelling, with_group, with_operator, with_operators}
use Rattle.al_view_predefined.specs.declared.operators.OperatorProfile.{OperatorProfile}
use Rattle.al_view_predefined.specs.declared.operators.OperatorSymbol.{OperatorSymbol}
use Rattle.al_scope.specs.Places.{visible_part}
use Rattle.al_scope.specs.UseClauses.{operators_in}
use Rattle.al_scope.specs.UseTypes.{NeedsNoMention, OpensAllOperators}
use Rattle.al_scope.specs.Visible.{declared_by}
use Rattle.al_scope.proofs.HidingLemmas.{append-none}

or-none : (b : Bool) → (b || false) ≡ b
or-none true = refl
or-none false = refl

-- a view is an operator of the type, as use clauses find it
abbrev of_type : Symbol → ViewKind → Bool
of_type s v = is_operator_of v s || false

-- each view that is declared is one
abbrev all_of_type : Symbol → Declarations → Bool
all_of_type s d = list_all (λ (e : List ℕ × List ViewKind). list_all (of_type s) e.1) d

all-join : (p : ViewKind → Bool) (xs : List ViewKind) (v : ViewKind) → list_all p xs ≡ true → p v ≡ true → list_all p (xs ++ v ∷ []) ≡ true
all-join p [] v h k = and_both (p v) true k refl
all-join p (x ∷ xs) v h k = let parts = both (p x) (list_all p xs) h in and_both (p x) (list_all p (xs ++ v ∷ [])) parts.0 (all-join p xs v parts.1 k)

one-more : (s : Symbol) (d : Declarations) (name : List ℕ) (v : ViewKind) → all_of_type s d ≡ true → of_type s v ≡ true → all_of_type s (with_view d name v) ≡ true
one-more s [] name v h k = and_both (of_type s v && true) true (and_both (of_type s v) true k refl) refl
one-more s (e ∷ es) name v h k =
    let parts = both (list_all (of_type s) e.1) (all_of_type s es) h in
    at (bytes_eq name e.0) parts.0 parts.1 (one-more s es name v parts.1 k)
  where
    at : (b : Bool) → list_all (of_type s) e.1 ≡ true → all_of_type s es ≡ true → all_of_type s (with_view es name v) ≡ true → all_of_type s (cond b ((e.0, e.1 ++ v ∷ []) ∷ es) (e ∷ with_view es name v)) ≡ true
    at true first rest more = and_both (list_all (of_type s) (e.1 ++ v ∷ [])) (all_of_type s es) (all-join (of_type s) e.1 v first k) rest
    at false first rest more = and_both (list_all (of_type s) e.1) (all_of_type s (with_view es name v)) first more

one-operator : (s : Symbol) (types : List TypeView) (p : OperatorProfile) (d : Declarations) (o : OperatorSymbol) → all_of_type s d ≡ true → all_of_type s (with_operator s types p [] d o) ≡ true
one-operator s types p d o h =
    one-more s d (spelling o) (operator_view s types p o (length (views_of [] (spelling o)) + length (views_of d (spelling o)))) h
    (or-none (is_operator_of (operator_view s types p o (length (views_of [] (spelling o)) + length (views_of d (spelling o)))) s) ∙ same_symbol-self s)

one-group : (s : Symbol) (types : List TypeView) (p : OperatorProfile) (d : Declarations) (os : List OperatorSymbol) → all_of_type s d ≡ true → all_of_type s (fold (with_operator s types p []) d os) ≡ true
one-group s types p d [] h = h
one-group s types p d (o ∷ os) h = one-group s types p (with_operator s types p [] d o) os (one-operator s types p d o h)

all-groups : (s : Symbol) (types : List TypeView) (d : Declarations) (gs : List Group) → all_of_type s d ≡ true → all_of_type s (with_operators s types [] d gs) ≡ true
all-groups s types d [] h = h
all-groups s types d (g ∷ gs) h = all-groups s types (with_group s types [] d g) gs (one-group s types g.0 d g.1 h)

all-declared : (s : Symbol) (types : List TypeView) → all_of_type s (operators_in s types) ≡ true
all-declared s types = at (type_in types s)
  where
    at : (o : Option TypeView) → all_of_type s (option_map_or (λ (t : TypeView). with_operators s types [] [] (operators_of t.definition)) o []) ≡ true
    at None = refl
    at (Some t) = all-groups s types [] (operators_of t.definition) refl

-- so is each that is under a name
under-name : (s : Symbol) (d : Declarations) (name : List ℕ) → all_of_type s d ≡ true → list_all (of_type s) (views_of d name) ≡ true
under-name s [] name h = refl
under-name s (e ∷ es) name h =
    let parts = both (list_all (of_type s) e.1) (all_of_type s es) h in
    at (bytes_eq name e.0) parts.0 (under-name s es name parts.1)
  where
    at : (b : Bool) → list_all (of_type s) e.1 ≡ true → list_all (of_type s) (views_of es name) ≡ true → list_all (of_type s) (unwrap_or (cond b (Some e.1) (lookup (bytes_eq name) es)) []) ≡ true
    at true first more = first
    at false first more = more

filter-all : (p : ViewKind → Bool) (xs : List ViewKind) → list_all p xs ≡ true → filter p xs ≡ xs
filter-all p [] h = refl
filter-all p (x ∷ xs) h =
    let parts = both (p x) (list_all p xs) h in
    ap (λ (b : Bool). cond b (x ∷ filter p xs) (filter p xs)) parts.0 ∙ ap (λ (l : List ViewKind). x ∷ l) (filter-all p xs parts.1)

filter-same : (s : Symbol) (xs : List ViewKind) → filter (of_type s) xs ≡ filter (λ v. is_operator_of v s) xs
filter-same s [] = refl
filter-same s (x ∷ xs) =
    ap (λ (b : Bool). cond b (x ∷ filter (of_type s) xs) (filter (of_type s) xs)) (or-none (is_operator_of x s))
    ∙ ap (λ (l : List ViewKind). cond (is_operator_of x s) (x ∷ l) l) (filter-same s xs)

all-opened : (s : Symbol) (types : List TypeView) (name : List ℕ) → filter (of_type s) (views_of (operators_in s types) name ++ []) ≡ views_of (operators_in s types) name
all-opened s types name =
    ap (filter (of_type s)) (append-none (views_of (operators_in s types) name))
    ∙ filter-all (of_type s) (views_of (operators_in s types) name) (under-name s (operators_in s types) name (all-declared s types))

pub opens_all_operators : OpensAllOperators
opens_all_operators t m name s types = (all-opened s types name, refl)

pub needs_no_mention : NeedsNoMention
needs_no_mention t m name s types h = all-opened s types name ∙ sym h ∙ sym (filter-same s (declared_by t m name (visible_part s.unit.name)))
