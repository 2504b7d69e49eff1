-- Names and signs of a text by their parts, each of which is there once.
use Rattle.std.specs.Prelude.{◌≡◌, ◌<◌, ℕ, Bool, false, nat_lt, length, List, [], ◌∷◌, fold, Option, Some, None, if◌then◌else◌}
use Rattle.al_overload_lookup.specs.Keys.{dotted}
use Rattle.al_overload_lookup.specs.declared.denoted.Names.{Names}
use Rattle.al_overload_lookup.specs.declared.name.TextName.{TextName}
use Rattle.al_overload_lookup.specs.declared.name.TextName.TheVariants.{Simple, Selected}
use Rattle.al_overload_lookup.specs.declared.piece.Piece.{Piece}
use Rattle.al_overload_lookup.specs.declared.piece.Piece.TheVariants.{Alone, After}
use Rattle.al_view.specs.Interfaces.{views_of}

-- the name that a part is, after a name
abbrev pub piece_name : List ℕ → Piece → TextName
piece_name key (Alone name) = Simple name
piece_name key (After name) = Selected key name

-- the whole name that ends with it
abbrev pub piece_key : List ℕ → Piece → List ℕ
piece_key key (Alone name) = name
piece_key key (After name) = dotted key name

abbrev pub names_from : List ℕ → List Piece → List TextName
names_from key [] = []
names_from key (p ∷ ps) = piece_name key p ∷ names_from (piece_key key p) ps

-- the names that these parts are
unfoldable pub names_of : List Piece → List TextName
names_of ps = names_from [] ps

-- the whole name that ends with the last of them
unfoldable pub last_key : List Piece → List ℕ
last_key ps = fold piece_key [] ps

-- that name, if what comes before is one
abbrev pub front : Bool → List Piece → Option (List ℕ)
front named ps = if named then Some (last_key ps) else None

-- nothing is visible under a name that has more bytes
abbrev pub AreShort : Names → ℕ → Type 0
AreShort names n = (q : List ℕ) → n < length q → views_of names.visible q ≡ []

-- whether a part is a selector after a name of more than so many bytes
abbrev pub is_past : List ℕ → ℕ → Piece → Bool
is_past key n (Alone name) = false
is_past key n (After name) = nat_lt n (length key)
