-- How far a name is looked for: from the innermost region outward, up to the first region that decides.
use Rattle.std.specs.Prelude.{◌≡◌, ℕ, List, [], ◌∷◌, ◌++◌, Bool, true, map, if◌then◌else◌}
use Rattle.std.specs.List.{list_any}
use Rattle.al_view.specs.declared.view.ViewKind.{ViewKind}
use Rattle.al_view.specs.Named.{Declarations}
use Rattle.al_query.specs.Reads.{Log, Table}
use Rattle.al_scope.specs.declared.hiding.RegionEntry.{RegionEntry}
use Rattle.al_scope.specs.declared.hiding.Search.{Search}
use Rattle.al_scope.specs.declared.region.Region.{Region}
use Rattle.al_scope.specs.declared.region.UnitPart.{UnitPart}
use Rattle.al_scope.specs.Asked.{AsksParts}
use Rattle.al_scope.specs.Places.{Place, region_parts, use_parts, uses_at}
use Rattle.al_scope.specs.Visible.{decides, direct, found_in, shuts_out}

-- whether one of the regions decides
abbrev pub any_decides : Table → Declarations → List ℕ → List Region → Bool
any_decides t m name regions = list_any decides (map (found_in t m name) regions)

-- the regions that are looked into
abbrev pub searched : Table → Declarations → List ℕ → List Region → List Region
searched t m name [] = []
searched t m name (r ∷ inner) = if any_decides t m name inner then searched t m name inner else r ∷ inner

-- the parts that are asked: of these regions, and if none decides of the packages that use clauses open
abbrev pub searched_parts : Table → List ℕ → Place → List UnitPart
searched_parts t name place =
    region_parts (searched t place.mentioned name place.regions)
    ++ (if any_decides t place.mentioned name place.regions then [] else use_parts (uses_at place.regions))

-- what a search gives stands for what all regions have: it has what is directly visible, whether one decides, and it shuts out
-- what they do
pub record IsSearch (founds : List RegionEntry) (s : Search) : Type 0 where
  pub views : s.direct ≡ direct founds
  pub decided : s.is_decided ≡ list_any decides founds
  pub shuts : (v : ViewKind) → list_any (shuts_out v) s.founds.items ≡ list_any (shuts_out v) founds

-- a name that the innermost region decides alone, continuing no part, asks nothing
abbrev pub LocalNamesAskNothing : Type 0
LocalNamesAskNothing =
    (t : Table) (name : List ℕ) (m : Declarations) (outer : List Region) (r : Region) (before now : Log)
    → r.parts ≡ [] → decides (found_in t m name r) ≡ true
    → AsksParts (searched_parts t name (record { mentioned = m; regions = outer ++ r ∷ [] })) name before now → now ≡ before
