-- Names of units (ARM 10.1.1): identifiers in lower case, with dots between them.
use Rattle.std.specs.Prelude.{ℕ, Bool, ◌||◌, ◌==◌, List, [], ◌∷◌, ◌++◌, map, Option, None, codes, if◌then◌else◌}
use Rattle.std.specs.List.{list_any, last_or}
use Rattle.std.specs.Str.{bytes_eq}

-- what comes before each dot: the names of a unit's parent, of the parent's parent, and so on, the farthest first
abbrev pub ancestors : List ℕ → List (List ℕ)
ancestors [] = []
ancestors (b ∷ bs) =
    if b == 46 then [] ∷ map (λ a. b ∷ a) (ancestors bs)
    else map (λ a. b ∷ a) (ancestors bs)

-- the names of the ancestors, and the unit's own name
abbrev pub lineage : List ℕ → List (List ℕ)
lineage name = ancestors name ++ name ∷ []

-- what comes before the last dot; a root library unit has no dot, and its parent is Standard (ARM 10.1.1(10))
abbrev pub parent_of : List ℕ → Option (List ℕ)
parent_of name = last_or None (ancestors name)

abbrev pub standard : List ℕ
standard = codes "standard"

abbrev pub ada : List ℕ
ada = codes "ada"

-- Ada, Ada.Real_Time and Ada.Text_IO are there without files (ARM A.2, A.10, D.8)
abbrev pub is_predefined : List ℕ → Bool
is_predefined name = list_any (bytes_eq name) (ada ∷ codes "ada.real_time" ∷ codes "ada.text_io" ∷ [])

-- no file declares these, whatever it holds; Standard is no library unit that a file could declare (ARM A.1, 10.1.1(1))
abbrev pub is_without_file : List ℕ → Bool
is_without_file name = bytes_eq name standard || is_predefined name

-- Standard, Ada and Ada's descendants are the implementation's (ARM A.1, A.2(4))
abbrev pub is_reserved : List ℕ → Bool
is_reserved name = bytes_eq name standard || list_any (λ n. bytes_eq n ada) (lineage name)
