-- What is wrong with a unit's name, and with a unit that looks only at what it names, in the order in which it is found.
use Rattle.std.specs.Prelude.{◌↔◌, ℕ, Bool, true, false, not, ◌&&◌, List, [], ◌∷◌, ◌++◌, Option, Some, None}
use Rattle.std.specs.Option.{is_none, option_map_or}
use Rattle.std.specs.List.{Contains, flat_map, list_any}
use Rattle.std.specs.Str.{bytes_eq}
use Rattle.al_base.specs.Batch.{Finding, Key}
use Rattle.al_base.specs.FileNames.{file_name_of}
use Rattle.al_base.specs.declared.place.Place.{Place}
use Rattle.al_base.specs.declared.unit_key.UnitKind.TheVariants.{Decl}
use Rattle.al_unit_graph.specs.Headers.{Mention, Header, Library, key_of_unit, is_package, is_package_body, is_library_body}
use Rattle.al_unit_graph.specs.Names.{parent_of, is_predefined, is_reserved}
use Rattle.al_unit_graph.specs.Library.{unit_at, declaration_of, parent_body_of, has_declaration_file, has_body_file}
use Rattle.al_unit_graph.specs.Faults.{finding, Misnames, BreaksByItself}

-- a finding if a test says so, and nothing else
abbrev pub finding_if : Bool → List ℕ → Place → ℕ → List Finding
finding_if true file place code = finding file place code ∷ []
finding_if false file place code = []

unfoldable pub name_faults : List ℕ → Header → List Finding
name_faults file h =
    finding_if (not (bytes_eq file (file_name_of (key_of_unit h)))) file h.place 201 ++ finding_if (is_reserved h.name) file h.place 207

abbrev pub is_missing : Library → List ℕ → Bool
is_missing lib name = not (is_predefined name) && is_none (declaration_of lib name)

abbrev pub mention_faults : Library → List ℕ → Mention → List Finding
mention_faults lib file m = finding_if (is_missing lib m.name) file m.place 202

-- the declaration is sound and no package's
abbrev pub is_no_package : Library → Key → Bool
is_no_package lib key = option_map_or (λ d. not (is_package d.form)) (unit_at lib key) false

abbrev pub is_no_parent : Library → List ℕ → Bool
is_no_parent lib parent = option_map_or (is_no_package lib) (declaration_of lib parent) true

abbrev pub has_no_parent : Library → Option (List ℕ) → Bool
has_no_parent lib parent = option_map_or (is_no_parent lib) parent false

abbrev pub has_stub : List ℕ → Header → Bool
has_stub stub parent = list_any (λ s. bytes_eq s stub) parent.stubs

abbrev pub lacks_stub : Library → List ℕ → Key → Bool
lacks_stub lib stub key = option_map_or (λ parent. not (has_stub stub parent)) (unit_at lib key) false

abbrev pub has_no_stub : Library → List ℕ → List ℕ → Bool
has_no_stub lib parent stub = option_map_or (lacks_stub lib stub) (parent_body_of lib parent) false

-- what is wrong with the parent body of a subunit, or with the parent of another unit
abbrev pub parent_faults : Library → List ℕ → Header → Option Mention → List Finding
parent_faults lib file h None = finding_if (has_no_parent lib (parent_of h.name)) file h.place 205
parent_faults lib file h (Some m) =
    finding_if (not (has_body_file lib m.name)) file m.place 202 ++ finding_if (has_no_stub lib m.name h.designator) file h.place 206

abbrev pub is_alike : Bool → Bool → Bool
is_alike true b = b
is_alike false b = not b

abbrev pub fits : Header → Header → Bool
fits h declaration = declaration.needs_body && is_alike (is_package declaration.form) (is_package_body h.form)

abbrev pub is_misfit : Library → Header → Bool
is_misfit lib h = is_library_body h.form && option_map_or (λ declaration. not (fits h declaration)) (unit_at lib (h.name, Decl)) false

-- a body's declaration
abbrev pub declaration_faults : Library → List ℕ → Header → List Finding
declaration_faults lib file h =
    finding_if (is_package_body h.form && not (has_declaration_file lib h.name)) file h.place 202 ++ finding_if (is_misfit lib h) file h.place 209

unfoldable pub own_faults : Library → List ℕ → Header → List Finding
own_faults lib file h =
    (flat_map (mention_faults lib file) h.mentions ++ parent_faults lib file h h.parent_body) ++ declaration_faults lib file h

abbrev pub NameFaultsAreMisnames : Type 0
NameFaultsAreMisnames = (file : List ℕ) (h : Header) (f : Finding) → Contains (name_faults file h) f ↔ Misnames file h f

abbrev pub OwnFaultsAreBroken : Type 0
OwnFaultsAreBroken = (lib : Library) (file : List ℕ) (h : Header) (f : Finding) → Contains (own_faults lib file h) f ↔ BreaksByItself lib file h f
