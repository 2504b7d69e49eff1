-- What holds of the predefined declarations.
use Rattle.std.specs.Prelude.{ℕ, Bool, true, ◌&&◌, not, List, [], ◌∷◌, map, codes}
use Rattle.std.specs.List.{list_all, list_any}
use Rattle.al_view.specs.declared.view.ViewKind.{ViewKind}
use Rattle.al_view.specs.Homographs.{homographs}
use Rattle.al_view.specs.Named.{Declarations}

-- no two are homographs
abbrev pub apart : List ViewKind → Bool
apart [] = true
apart (v ∷ vs) = not (list_any (homographs v) vs) && apart vs

-- no two declarations of one name are homographs (ARM 8.3(26))
abbrev pub no_homographs : Declarations → Bool
no_homographs declared = list_all (λ e. apart e.1) declared

abbrev pub names : Declarations → List (List ℕ)
names declared = map (λ e. e.0) declared

-- the names that Standard declares, in order
abbrev pub standard_names : List (List ℕ)
standard_names =
    codes "boolean" ∷ codes "false" ∷ codes "true"
    ∷ codes "=" ∷ codes "/=" ∷ codes "<" ∷ codes "<=" ∷ codes ">" ∷ codes ">="
    ∷ codes "and" ∷ codes "or" ∷ codes "xor" ∷ codes "not"
    ∷ codes "integer"
    ∷ codes "+" ∷ codes "-" ∷ codes "abs" ∷ codes "*" ∷ codes "/" ∷ codes "rem" ∷ codes "mod" ∷ codes "**"
    ∷ codes "natural" ∷ codes "positive" ∷ []

-- the names that Ada.Text_IO declares
abbrev pub text_io_names : List (List ℕ)
text_io_names = codes "put" ∷ codes "put_line" ∷ codes "new_line" ∷ []

-- the names that Ada.Real_Time declares
abbrev pub real_time_names : List (List ℕ)
real_time_names = codes "time" ∷ codes "time_span" ∷ codes "clock" ∷ codes "+" ∷ codes "milliseconds" ∷ []
