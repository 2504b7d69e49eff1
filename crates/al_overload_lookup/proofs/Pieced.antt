-- Parts of names, with one more.
use Rattle.std.proofs.Common.{◌≡◌, ℕ, List, [], ◌∷◌, ◌++◌, true, false, Bool, Option, Some, None, refl, ap, ◌∙◌}
use Rattle.std.specs.Prelude.{fold, option_map}
use Rattle.std.proofs.lemmas.List.Sums.{fold-append}
use Rattle.al_overload_lookup.specs.Keys.{dotted}
use Rattle.al_overload_lookup.specs.Pieces.{front, last_key, names_from, names_of, piece_key, piece_name}
use Rattle.al_overload_lookup.specs.TextNames.{selected_names, sign_names}
use Rattle.al_overload_lookup.specs.declared.name.TextName.{TextName}
use Rattle.al_overload_lookup.specs.declared.piece.Piece.{Piece}
use Rattle.al_overload_lookup.specs.declared.piece.Piece.TheVariants.{Alone, After}

from_more : (key : List ℕ) (ps : List Piece) (p : Piece) → names_from key (ps ++ p ∷ []) ≡ names_from key ps ++ piece_name (fold piece_key key ps) p ∷ []
from_more key [] p = refl
from_more key (x ∷ ps) p = ap (λ (ns : List TextName). piece_name key x ∷ ns) (from_more (piece_key key x) ps p)

pub names_more : (ps : List Piece) (p : Piece) → names_of (ps ++ p ∷ []) ≡ names_of ps ++ piece_name (last_key ps) p ∷ []
unfolding names_of last_key
names_more ps p = from_more [] ps p

pub key_more : (ps : List Piece) (p : Piece) → last_key (ps ++ p ∷ []) ≡ piece_key (last_key ps) p
unfolding last_key
key_more ps p = fold-append piece_key [] ps (p ∷ [])

-- an identifier or a sign
pub alone_names : (old new : List Piece) (name : List ℕ) → new ≡ old ++ Alone name ∷ [] → names_of new ≡ names_of old ++ sign_names (Some name)
alone_names old new name is = ap names_of is ∙ names_more old (Alone name)

pub alone_key : (old new : List Piece) (name : List ℕ) → new ≡ old ++ Alone name ∷ [] → last_key new ≡ name
alone_key old new name is = ap last_key is ∙ key_more old (Alone name)

-- a selector
pub after_names : (old new : List Piece) (name : List ℕ) → new ≡ old ++ After name ∷ [] → names_of new ≡ names_of old ++ selected_names (Some (last_key old)) name
after_names old new name is = ap names_of is ∙ names_more old (After name)

pub after_key : (old new : List Piece) (name : List ℕ) → new ≡ old ++ After name ∷ [] → last_key new ≡ dotted (last_key old) name
after_key old new name is = ap last_key is ∙ key_more old (After name)

-- no parts
pub no_names : names_of [] ≡ []
unfolding names_of
no_names = refl

pub no_key : last_key [] ≡ []
unfolding last_key
no_key = refl
