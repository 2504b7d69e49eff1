-- What sets gain.
use Rattle.std.proofs.Common.{◌≡◌, ◌+◌, ◌<◌, ◌≤◌, ℕ, Bool, true, false, ◌&&◌, ◌||◌, List, [], ◌∷◌, ◌++◌, append-nil, get_or, take, length, map, refl, sym, ap, ◌∙◌, subst}
use Rattle.std.specs.List.{flat_map, list_any}
use Rattle.std.proofs.lemmas.Grind.{flat_map-append}
use Rattle.std.proofs.lemmas.List.{map-append, take_more}
use Rattle.al_view.specs.Symbols.{same_symbol}
use Rattle.al_view.specs.ViewUses.{link}
use Rattle.al_view.specs.declared.link.LinkKind.{LinkKind}
use Rattle.al_view.specs.declared.link.LinkKind.TheVariants as kind
use Rattle.al_view.specs.declared.link.LinkSymbol.{LinkSymbol}
use Rattle.al_view.specs.declared.symbol.Symbol.{Symbol}
use Rattle.al_view_typed.specs.UnitTrees.{body_model, unit_model}
use Rattle.al_view_typed.specs.Uses.{body_defines, protected_defines, unit_defines}
use Rattle.al_view_typed.specs.declared.unit.TypedUnit.{TypedUnit}
use Rattle.al_check_promises.specs.declared.link_set.LinkSet.{LinkSet}
use Rattle.al_check_promises.specs.Links.{Gains, has_link, is_among, of_kind, same_link, same_link_kind}

pub gains_none : (set : LinkSet) → Gains set set []
gains_none set x = refl

either : (a b c d e : Bool) → d ≡ (b || c) → e ≡ (a || d) → e ≡ ((a || b) || c)
either true b c d e h k = k
either false b c d e h k = k ∙ h

either_turned : (a b c : Bool) → (b || (a || c)) ≡ ((a || b) || c)
either_turned true true c = refl
either_turned true false c = refl
either_turned false b c = refl

among-append : (xs ys : List LinkSymbol) (x : LinkSymbol) → is_among (xs ++ ys) x ≡ (is_among xs x || is_among ys x)
among-append [] ys x = refl
among-append (l ∷ xs) ys x = ap (λ (b : Bool). same_link x l || b) (among-append xs ys x) ∙ joined (same_link x l) (is_among xs x) (is_among ys x)
  where
    joined : (a b c : Bool) → (a || (b || c)) ≡ ((a || b) || c)
    joined true b c = refl
    joined false b c = refl

pub gains_both : (a b c : LinkSet) (xs ys : List LinkSymbol) → Gains a b xs → Gains b c ys → Gains a c (xs ++ ys)
gains_both a b c xs ys one two x =
    two x ∙ ap (λ (h : Bool). is_among ys x || h) (one x) ∙ either_turned (is_among xs x) (is_among ys x) (has_link a x)
    ∙ ap (λ (h : Bool). h || has_link a x) (sym (among-append xs ys x))

-- nothing is in a set of no symbols
pub none_yet : (set : LinkSet) → set.code ≡ [] → set.gates ≡ [] → set.entry_bodies ≡ [] → set.flags ≡ [] → set.words ≡ [] → set.protected_objects ≡ [] → (x : LinkSymbol) → has_link set x ≡ false
unfolding has_link
none_yet set a b c d e f x = by x.kind
  where
    by : (k : LinkKind) → list_any (same_symbol x.symbol) (of_kind set k) ≡ false
    by kind.Code = ap (list_any (same_symbol x.symbol)) a
    by kind.Gate = ap (list_any (same_symbol x.symbol)) b
    by kind.EntryBody = ap (list_any (same_symbol x.symbol)) c
    by kind.Flag = ap (list_any (same_symbol x.symbol)) d
    by kind.Data = ap (list_any (same_symbol x.symbol)) e
    by kind.Protected = ap (list_any (same_symbol x.symbol)) f

-- one symbol more in the set of one kind

ends : (a b : Bool) → (a || b) ≡ ((a || false) || b)
ends true b = refl
ends false b = refl

abbrev Grows : List Symbol → List Symbol → Symbol → Type 0
Grows old new symbol = (s : Symbol) → list_any (same_symbol s) new ≡ (same_symbol s symbol || list_any (same_symbol s) old)

pub code_gained : (old new : LinkSet) (symbols : List Symbol) (symbol : Symbol) → new ≡ record old { code = symbols } → Grows old.code symbols symbol → Gains old new (link kind.Code symbol ∷ [])
unfolding has_link
code_gained old new symbols symbol is grows x = ap (λ (set : LinkSet). has_link set x) is ∙ by x.kind x.symbol
  where
    by : (k : LinkKind) (s : Symbol) → has_link (record old { code = symbols }) (link k s) ≡ (is_among (link kind.Code symbol ∷ []) (link k s) || has_link old (link k s))
    by kind.Code s = grows s ∙ ends (same_symbol s symbol) (list_any (same_symbol s) old.code)
    by kind.Gate s = refl
    by kind.EntryBody s = refl
    by kind.Flag s = refl
    by kind.Data s = refl
    by kind.Protected s = refl

pub gates_gained : (old new : LinkSet) (symbols : List Symbol) (symbol : Symbol) → new ≡ record old { gates = symbols } → Grows old.gates symbols symbol → Gains old new (link kind.Gate symbol ∷ [])
unfolding has_link
gates_gained old new symbols symbol is grows x = ap (λ (set : LinkSet). has_link set x) is ∙ by x.kind x.symbol
  where
    by : (k : LinkKind) (s : Symbol) → has_link (record old { gates = symbols }) (link k s) ≡ (is_among (link kind.Gate symbol ∷ []) (link k s) || has_link old (link k s))
    by kind.Code s = refl
    by kind.Gate s = grows s ∙ ends (same_symbol s symbol) (list_any (same_symbol s) old.gates)
    by kind.EntryBody s = refl
    by kind.Flag s = refl
    by kind.Data s = refl
    by kind.Protected s = refl

pub entry_bodies_gained : (old new : LinkSet) (symbols : List Symbol) (symbol : Symbol) → new ≡ record old { entry_bodies = symbols } → Grows old.entry_bodies symbols symbol → Gains old new (link kind.EntryBody symbol ∷ [])
unfolding has_link
entry_bodies_gained old new symbols symbol is grows x = ap (λ (set : LinkSet). has_link set x) is ∙ by x.kind x.symbol
  where
    by : (k : LinkKind) (s : Symbol) → has_link (record old { entry_bodies = symbols }) (link k s) ≡ (is_among (link kind.EntryBody symbol ∷ []) (link k s) || has_link old (link k s))
    by kind.Code s = refl
    by kind.Gate s = refl
    by kind.EntryBody s = grows s ∙ ends (same_symbol s symbol) (list_any (same_symbol s) old.entry_bodies)
    by kind.Flag s = refl
    by kind.Data s = refl
    by kind.Protected s = refl

pub flags_gained : (old new : LinkSet) (symbols : List Symbol) (symbol : Symbol) → new ≡ record old { flags = symbols } → Grows old.flags symbols symbol → Gains old new (link kind.Flag symbol ∷ [])
unfolding has_link
flags_gained old new symbols symbol is grows x = ap (λ (set : LinkSet). has_link set x) is ∙ by x.kind x.symbol
  where
    by : (k : LinkKind) (s : Symbol) → has_link (record old { flags = symbols }) (link k s) ≡ (is_among (link kind.Flag symbol ∷ []) (link k s) || has_link old (link k s))
    by kind.Code s = refl
    by kind.Gate s = refl
    by kind.EntryBody s = refl
    by kind.Flag s = grows s ∙ ends (same_symbol s symbol) (list_any (same_symbol s) old.flags)
    by kind.Data s = refl
    by kind.Protected s = refl

pub words_gained : (old new : LinkSet) (symbols : List Symbol) (symbol : Symbol) → new ≡ record old { words = symbols } → Grows old.words symbols symbol → Gains old new (link kind.Data symbol ∷ [])
unfolding has_link
words_gained old new symbols symbol is grows x = ap (λ (set : LinkSet). has_link set x) is ∙ by x.kind x.symbol
  where
    by : (k : LinkKind) (s : Symbol) → has_link (record old { words = symbols }) (link k s) ≡ (is_among (link kind.Data symbol ∷ []) (link k s) || has_link old (link k s))
    by kind.Code s = refl
    by kind.Gate s = refl
    by kind.EntryBody s = refl
    by kind.Flag s = refl
    by kind.Data s = grows s ∙ ends (same_symbol s symbol) (list_any (same_symbol s) old.words)
    by kind.Protected s = refl

pub protected_objects_gained : (old new : LinkSet) (symbols : List Symbol) (symbol : Symbol) → new ≡ record old { protected_objects = symbols } → Grows old.protected_objects symbols symbol → Gains old new (link kind.Protected symbol ∷ [])
unfolding has_link
protected_objects_gained old new symbols symbol is grows x = ap (λ (set : LinkSet). has_link set x) is ∙ by x.kind x.symbol
  where
    by : (k : LinkKind) (s : Symbol) → has_link (record old { protected_objects = symbols }) (link k s) ≡ (is_among (link kind.Protected symbol ∷ []) (link k s) || has_link old (link k s))
    by kind.Code s = refl
    by kind.Gate s = refl
    by kind.EntryBody s = refl
    by kind.Flag s = refl
    by kind.Data s = refl
    by kind.Protected s = grows s ∙ ends (same_symbol s symbol) (list_any (same_symbol s) old.protected_objects)

-- what items give, one more of them
pub gains_more : {X : Type 0} (f : X → List LinkSymbol) (a b c : LinkSet) (xs : List X) (i : ℕ) (x : X) → Gains a b (flat_map f (take i xs)) → Gains b c (f x) → x ≡ get_or xs i x → i < length xs → Gains a c (flat_map f (take (i + 1) xs))
gains_more f a b c xs i x one two is less =
    subst (λ (links : List LinkSymbol). Gains a c links)
    (sym (ap (flat_map f) (take_more xs i x less ∙ ap (λ y. take i xs ++ y ∷ []) (sym is)) ∙ flat_map-append f (take i xs) (x ∷ []) ∙ ap (λ ys. flat_map f (take i xs) ++ ys) (append-nil (f x))))
    (gains_both a b c (flat_map f (take i xs)) (f x) one two)

pub gains_symbol : {X : Type 0} (f : X → LinkSymbol) (a b c : LinkSet) (xs : List X) (i : ℕ) (x : X) → Gains a b (map f (take i xs)) → Gains b c (f x ∷ []) → x ≡ get_or xs i x → i < length xs → Gains a c (map f (take (i + 1) xs))
gains_symbol f a b c xs i x one two is less =
    subst (λ (links : List LinkSymbol). Gains a c links)
    (sym (ap (map f) (take_more xs i x less ∙ ap (λ y. take i xs ++ y ∷ []) (sym is)) ∙ map-append f (take i xs) (x ∷ [])))
    (gains_both a b c (map f (take i xs)) (f x ∷ []) one two)

-- all that a labelled unit defines, by what its parts define
pub gains_defines : (a b c d e : LinkSet) (unit : TypedUnit) → Gains a b (flat_map (λ x. body_defines (body_model x).symbol (body_model x).kind) unit.bodies.items)
    → Gains b c (map (λ p. link kind.Data p.symbol) unit.objects) → Gains c d (map (λ p. link kind.Flag p.symbol) unit.flags) → Gains d e (flat_map protected_defines unit.protected_objects)
    → Gains a e (unit_defines (unit_model unit))
unfolding unit_model unit_defines
gains_defines a b c d e unit one two three four =
    let bodies = flat_map (λ x. body_defines (body_model x).symbol (body_model x).kind) unit.bodies.items in
    let objects = map (λ p. link kind.Data p.symbol) unit.objects in
    let flags = map (λ p. link kind.Flag p.symbol) unit.flags in
    let regions = flat_map protected_defines unit.protected_objects in
    subst (λ (links : List LinkSymbol). Gains a e (links ++ objects ++ flags ++ regions)) (mapped (λ x. body_defines x.symbol x.kind) body_model unit.bodies.items)
    (gains_both a d e (bodies ++ objects ++ flags) regions (gains_both a c d (bodies ++ objects) flags (gains_both a b c bodies objects one two) three) four)
  where
    mapped : {X Y : Type 0} (f : Y → List LinkSymbol) (h : X → Y) (xs : List X) → flat_map (λ x. f (h x)) xs ≡ flat_map f (map h xs)
    mapped f h [] = refl
    mapped f h (x ∷ xs) = ap (λ ys. f (h x) ++ ys) (mapped f h xs)
