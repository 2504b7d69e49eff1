-- What pieces of code use.
use Rattle.std.proofs.Common.{◌≡◌, ℕ, ◌+◌, List, [], ◌∷◌, ◌++◌, map, Option, Some, None, refl, ap, subst, ◌∙◌, inl, inr}
use Rattle.std.specs.List.{Contains, flat_map}
use Rattle.std.proofs.lemmas.Grind.{flat_map-append}
use Rattle.std.proofs.lemmas.List.{map-append}
use Rattle.std.proofs.lemmas.List.Elements.{Contains-append_left, Contains-append_right, Contains-append_cases}
use Rattle.al_base_graph.proofs.Members.{nowhere}
use Rattle.al_view.specs.declared.link.LinkSymbol.{LinkSymbol}
use Rattle.al_instr.specs.declared.instruction.Instr.{Instr}
use Rattle.al_code_object.specs.declared.object.Relocation.{Relocation}
use Rattle.al_code.specs.declared.piece.Construct.{Construct}
use Rattle.al_code.specs.declared.piece.JumpCondition.{JumpCondition}
use Rattle.al_code.specs.declared.piece.Target.{Target}
use Rattle.al_code.specs.Pieces.{Piece, Whole, Using, Leaving, Begins, Line, back, closed, over_or, piece_size, repeated, size, use_at, uses_from}
use Rattle.al_code.specs.Targets.{outside}

abbrev pub used_by : Piece → List LinkSymbol
used_by (Whole i) = []
used_by (Using i symbol) = symbol ∷ []
used_by (Leaving w target) = []
used_by (Begins symbol) = []
used_by (Line n) = []

abbrev pub used : List Piece → List LinkSymbol
used ps = flat_map used_by ps

-- code uses the symbols that were noted for it
symbol_of : (from : ℕ) (p : Piece) → map (λ (r : Relocation). r.symbol) (use_at from p) ≡ used_by p
symbol_of from (Whole i) = refl
symbol_of from (Using i symbol) = refl
symbol_of from (Leaving w target) = refl
symbol_of from (Begins symbol) = refl
symbol_of from (Line n) = refl

pub symbols_used : (from : ℕ) (ps : List Piece) → map (λ (r : Relocation). r.symbol) (uses_from from ps) ≡ used ps
symbols_used from [] = refl
symbols_used from (p ∷ ps) =
    map-append (λ (r : Relocation). r.symbol) (use_at from p) (uses_from (from + piece_size p) ps)
    ∙ ap (λ (xs : List LinkSymbol). xs ++ map (λ (r : Relocation). r.symbol) (uses_from (from + piece_size p) ps)) (symbol_of from p)
    ∙ ap (λ (xs : List LinkSymbol). used_by p ++ xs) (symbols_used (from + piece_size p) ps)

-- pieces use only these symbols
pub record Uses (ps : List Piece) (xs : List LinkSymbol) : Type 0 where
  pub are : (x : LinkSymbol) → Contains (used ps) x → Contains xs x

pub quiet : {p : List Piece} {xs : List LinkSymbol} → used p ≡ [] → Uses p xs
quiet none = record { are = λ x c. absurd (nowhere x (subst (λ (l : List LinkSymbol). Contains l x) none c)) }

pub nothing : {xs : List LinkSymbol} → Uses [] xs
nothing = record { are = λ x c. absurd (nowhere x c) }

pub then : {p q : List Piece} {xs : List LinkSymbol} → Uses p xs → Uses q xs → Uses (p ++ q) xs
then {p = p} {q = q} {xs = xs} h k = record { are = both }
  where
    both : (x : LinkSymbol) → Contains (used (p ++ q)) x → Contains xs x
    both x c =
        elim (Contains-append_cases (used p) (used q) x (subst (λ (l : List LinkSymbol). Contains l x) (flat_map-append used_by p q) c)) as (λ _. Contains xs x) [
          | inl a ↦ h.are x a
          | inr b ↦ k.are x b
        ]

pub left : {p : List Piece} {xs : List LinkSymbol} (ys : List LinkSymbol) → Uses p xs → Uses p (xs ++ ys)
left {p = p} {xs = xs} ys h = record { are = λ x c. Contains-append_left xs ys x (h.are x c) }

pub right : {p : List Piece} {ys : List LinkSymbol} (xs : List LinkSymbol) → Uses p ys → Uses p (xs ++ ys)
right {p = p} {ys = ys} xs h = record { are = λ x c. Contains-append_right xs ys x (h.are x c) }

-- an instruction, a jump and a symbol that is defined there use nothing
pub whole : {i : Instr} {xs : List LinkSymbol} → Uses (Whole i ∷ []) xs
whole = quiet refl

pub waiting : {w : JumpCondition} {t : Target} {xs : List LinkSymbol} → Uses (Leaving w t ∷ []) xs
waiting = quiet refl

pub begins : {s : LinkSymbol} {xs : List LinkSymbol} → Uses (Begins s ∷ []) xs
begins = quiet refl

-- one symbol, which is the first of these
pub using_first : {i : Instr} {s : LinkSymbol} {xs : List LinkSymbol} → Uses (Using i s ∷ []) (s ∷ xs)
using_first {i = i} {s = s} {xs = xs} = record { are = λ x c. Contains-append_left (s ∷ []) xs x c }

-- a construct's end changes no use
over_quiet : (w : JumpCondition) (t : Option Target) (n : ℕ) → used_by (over_or w t n) ≡ []
over_quiet w None n = refl
over_quiet w (Some t) n = refl

pub used_closed : (c : Construct) (ps : List Piece) → used (closed c ps) ≡ used ps
used_closed c [] = refl
used_closed c (Whole i ∷ ps) = used_closed c ps
used_closed c (Using i symbol ∷ ps) = ap (λ (xs : List LinkSymbol). symbol ∷ xs) (used_closed c ps)
used_closed c (Begins symbol ∷ ps) = used_closed c ps
used_closed c (Line n ∷ ps) = used_closed c ps
used_closed c (Leaving w t ∷ ps) = ap (λ (xs : List LinkSymbol). xs ++ used (closed c ps)) (over_quiet w (outside c t) (size ps)) ∙ used_closed c ps

pub end_of : (c : Construct) {p : List Piece} {xs : List LinkSymbol} → Uses p xs → Uses (closed c p) xs
end_of c {p = p} {xs = xs} h = record { are = λ x e. h.are x (subst (λ (l : List LinkSymbol). Contains l x) (used_closed c p) e) }

pub around : {p : List Piece} {xs : List LinkSymbol} → Uses p xs → Uses (repeated p) xs
unfolding repeated
around {p = p} {xs = xs} h = then {p = p} {q = back (size p) ∷ []} {xs = xs} h (quiet refl)

-- codes one after another
pub each : {A : Type 0} (f : A → List Piece) (xs : List LinkSymbol) → ((a : A) → Uses (f a) xs) → (as_ : List A) → Uses (flat_map f as_) xs
each f xs h [] = nothing
each f xs h (a ∷ as_) = then {p = f a} {q = flat_map f as_} {xs = xs} (h a) (each f xs h as_)

-- codes one after another, each of which uses its own symbols
pub each_own : {A : Type 0} (f : A → List Piece) (g : A → List LinkSymbol) → ((a : A) → Uses (f a) (g a)) → (as_ : List A) → Uses (flat_map f as_) (flat_map g as_)
each_own f g h [] = nothing
each_own f g h (a ∷ as_) = then {p = f a} {q = flat_map f as_} {xs = g a ++ flat_map g as_} (left _ (h a)) (right (g a) (each_own f g h as_))

-- ---- the symbols of several parts

module _ (as_ bs cs : List LinkSymbol) (x : LinkSymbol) where
  -- of the first or the last of three
  pub first_or_last : Contains (as_ ++ cs) x → Contains ((as_ ++ bs) ++ cs) x
  first_or_last c =
      elim (Contains-append_cases as_ cs x c) as (λ _. Contains ((as_ ++ bs) ++ cs) x) [
        | inl a ↦ Contains-append_left (as_ ++ bs) cs x (Contains-append_left as_ bs x a)
        | inr b ↦ Contains-append_right (as_ ++ bs) cs x b
      ]

  -- of the second or the last
  pub rest_or_last : Contains (bs ++ cs) x → Contains ((as_ ++ bs) ++ cs) x
  rest_or_last c =
      elim (Contains-append_cases bs cs x c) as (λ _. Contains ((as_ ++ bs) ++ cs) x) [
        | inl a ↦ Contains-append_left (as_ ++ bs) cs x (Contains-append_right as_ bs x a)
        | inr b ↦ Contains-append_right (as_ ++ bs) cs x b
      ]

  -- of the first two
  pub first_two : Contains (as_ ++ bs) x → Contains (as_ ++ (bs ++ cs)) x
  first_two c =
      elim (Contains-append_cases as_ bs x c) as (λ _. Contains (as_ ++ (bs ++ cs)) x) [
        | inl a ↦ Contains-append_left as_ (bs ++ cs) x a
        | inr b ↦ Contains-append_right as_ (bs ++ cs) x (Contains-append_left bs cs x b)
      ]

  -- of the first or the last
  pub first_and_last : Contains (as_ ++ cs) x → Contains (as_ ++ (bs ++ cs)) x
  first_and_last c =
      elim (Contains-append_cases as_ cs x c) as (λ _. Contains (as_ ++ (bs ++ cs)) x) [
        | inl a ↦ Contains-append_left as_ (bs ++ cs) x a
        | inr b ↦ Contains-append_right as_ (bs ++ cs) x (Contains-append_right bs cs x b)
      ]
