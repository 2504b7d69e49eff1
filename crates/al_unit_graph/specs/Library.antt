-- Which files hold which units.
use Rattle.std.specs.Prelude.{ℕ, ◌≤◌, Bool, true, false, ◌&&◌, not, List, length, Option, Some, None, if◌then◌else◌}
use Rattle.std.specs.Option.{is_some, option_and_then, option_map_or}
use Rattle.std.specs.List.{AllByRecursion}
use Rattle.std.specs.Str.{bytes_eq}
use Rattle.std.specs.Map.{lookup}
use Rattle.std.specs.BTreeMap.{is_at}
use Rattle.al_base.specs.Batch.{Key}
use Rattle.al_base.specs.Files.{name_cmp}
use Rattle.al_base.specs.FileNames.{file_name_of}
use Rattle.al_base.specs.declared.unit_key.UnitKind.{UnitKind}
use Rattle.al_base.specs.declared.unit_key.UnitKind.TheVariants.{Decl, Body, Sub}
use Rattle.al_unit_graph.specs.Headers.{Header, Contents, Headed, Unread, Source, Library, kind_of, key_of_unit, is_subprogram_body}
use Rattle.al_unit_graph.specs.Names.{is_without_file, is_reserved}

-- each file has a name of at most 255 bytes
abbrev pub HasShortNames : Library → Type 0
HasShortNames lib = AllByRecursion (λ e. length e.0 ≤ 255) lib

abbrev pub source_at : Library → List ℕ → Option Source
source_at lib file = lookup (is_at (name_cmp file)) lib

abbrev pub is_there : Library → List ℕ → Bool
is_there lib file = is_some (source_at lib file)

-- the unit is in the file that its name asks for, and its name isn't the implementation's
abbrev pub is_rightly_named : List ℕ → Header → Bool
is_rightly_named file h = bytes_eq file (file_name_of (key_of_unit h)) && not (is_reserved h.name)

-- the unit that a file of this name holds, if it is sound
abbrev pub held : List ℕ → Contents → Option Header
held file (Headed h) = if is_rightly_named file h then Some h else None
held file (Unread place code) = None

-- the unit that the file of this name holds
abbrev pub unit_in : Library → List ℕ → Option Header
unit_in lib file = option_and_then (λ source. held file source.contents) (source_at lib file)

abbrev pub is_kind : UnitKind → UnitKind → Bool
is_kind Decl Decl = true
is_kind Body Body = true
is_kind Sub Sub = true
is_kind Decl Body = false
is_kind Decl Sub = false
is_kind Body Decl = false
is_kind Body Sub = false
is_kind Sub Decl = false
is_kind Sub Body = false

-- a body and a subunit of one name ask for one file
abbrev pub of_key : Key → Header → Option Header
of_key key h = if bytes_eq h.name key.0 && is_kind (kind_of h.form) key.1 then Some h else None

-- the header of a unit, by what the unit's own file holds
abbrev pub headed_as : Contents → Key → Option Header
headed_as (Headed h) key = if (bytes_eq h.name key.0 && is_kind (kind_of h.form) key.1) && not (is_reserved key.0) then Some h else None
headed_as (Unread place code) key = None

-- the unit of the library with this name and kind
unfoldable pub unit_at : Library → Key → Option Header
unit_at lib key = option_and_then (of_key key) (unit_in lib (file_name_of key))

-- the library has a unit with this name and kind
abbrev pub is_unit : Library → Key → Bool
is_unit lib key = is_some (unit_at lib key)

-- there is a file for the declaration, sound or not
abbrev pub has_declaration_file : Library → List ℕ → Bool
has_declaration_file lib name = not (is_without_file name) && is_there lib (file_name_of (name, Decl))

-- the body of a subprogram acts as its declaration if there is no file for one (ARM 10.1.4(4))
abbrev pub acts_as_declaration : Library → Header → Bool
acts_as_declaration lib h = is_subprogram_body h.form && not (has_declaration_file lib h.name)

-- the declaration of a unit, in a file that may not be sound
unfoldable pub declaration_of : Library → List ℕ → Option Key
declaration_of lib name =
    if has_declaration_file lib name then Some (name, Decl)
    else if option_map_or (λ h. is_subprogram_body h.form) (unit_at lib (name, Body)) false then Some (name, Body)
    else None

-- there is a file for the body, sound or not
abbrev pub has_body_file : Library → List ℕ → Bool
has_body_file lib name = not (is_without_file name) && is_there lib (file_name_of (name, Body))

-- the body to which subunits of this parent belong, in a file that may not be sound: a library unit's body, or a subunit (ARM 10.1.3(8))
unfoldable pub parent_body_of : Library → List ℕ → Option Key
parent_body_of lib name =
    if not (has_body_file lib name) then None
    else if is_some (unit_at lib (name, Sub)) then Some (name, Sub)
    else Some (name, Body)
