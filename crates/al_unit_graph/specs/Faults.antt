-- What is wrong with the files of a library as units, each rule by itself.
use Rattle.std.specs.Prelude.{◌≡◌, ◌≢◌, ℕ, ◌⊎◌, ⊤, true, false, List, Option, Some, None}
use Rattle.std.specs.List.{Contains}
use Rattle.al_base.specs.Batch.{Finding, Key}
use Rattle.al_base.specs.FileNames.{file_name_of}
use Rattle.al_base.specs.declared.place.Place.{Place}
use Rattle.al_base.specs.declared.unit_key.UnitKind.TheVariants.{Decl, Sub}
use Rattle.al_unit_graph.specs.Headers.{Mention, Header, Headed, Unread, Source, Library, kind_of, key_of_unit, is_package, is_package_body, is_library_body}
use Rattle.al_unit_graph.specs.Names.{ancestors, lineage, parent_of, is_predefined, is_reserved}
use Rattle.al_unit_graph.specs.Library.{held, unit_at, declaration_of, parent_body_of, has_declaration_file, has_body_file, acts_as_declaration}
use Rattle.al_unit_graph.specs.Dependence.{DependsOn}

-- a rule is broken at a place of a file
abbrev pub finding : List ℕ → Place → ℕ → Finding
finding file place code = record { file = file; line = place.line; col = place.col; code = code }

-- the declaration of this name is sound and private (ARM 10.1.1(12))
abbrev pub IsPrivate : Library → List ℕ → Type 0
IsPrivate lib name = (h : Header) × (unit_at lib (name, Decl) ≡ Some h) × (h.is_private ≡ true)

-- the library unit of which a unit is part: of a subunit the one of its parent body (ARM 10.1.3(8)); if that isn't there, the one
-- that its parent's name gives
pub data IsPartOf (lib : Library) : Header → List ℕ → Type 0 where
  itself : {h : Header} → h.parent_body ≡ None → IsPartOf lib h h.name
  of_body : {h : Header} {parent : Mention} → h.parent_body ≡ Some parent → unit_at lib (parent.name, Sub) ≡ None → IsPartOf lib h parent.name
  of_subunit : {h outer : Header} {parent : Mention} {name : List ℕ} → h.parent_body ≡ Some parent → unit_at lib (parent.name, Sub) ≡ Some outer → IsPartOf lib outer name → IsPartOf lib h name

-- a unit descends from itself and its ancestors, and from Standard, the parent of the root library units (ARM 10.1.1(10, 11))
abbrev pub Descends : List ℕ → Option (List ℕ) → Type 0
Descends name None = ⊤
Descends name (Some ancestor) = Contains (lineage name) ancestor

-- the name is a descendant's, and not that of the unit itself
abbrev pub DescendsBelow : List ℕ → Option (List ℕ) → Type 0
DescendsBelow name None = ⊤
DescendsBelow name (Some ancestor) = Contains (ancestors name) ancestor

-- a private descendant: it, or a unit between it and the ancestor, is private (ARM 10.1.1(12))
abbrev pub IsPrivateDescendant : Library → List ℕ → Option (List ℕ) → Type 0
IsPrivateDescendant lib name ancestor = (between : List ℕ) × Contains (lineage name) between × DescendsBelow between ancestor × IsPrivate lib between

-- a body or a subunit, and not a body that acts as a declaration
abbrev pub IsAfterDeclaration : Library → Header → Type 0
IsAfterDeclaration lib h = (kind_of h.form ≢ Decl) × (acts_as_declaration lib h ≡ false)

-- the units that may mention private children of a unit (ARM 10.1.2(8))
abbrev pub MayMentionChildrenOf : Library → Header → Option (List ℕ) → Type 0
MayMentionChildrenOf lib h parent =
    (name : List ℕ) × IsPartOf lib h name × (IsPrivateDescendant lib name parent ⊎ (Descends name parent × IsAfterDeclaration lib h))

-- the declaration of this name is sound and no package's: a subprogram's, or a body that acts as one
abbrev pub IsNoPackage : Library → List ℕ → Type 0
IsNoPackage lib name = (key : Key) × (h : Header) × (declaration_of lib name ≡ Some key) × (unit_at lib key ≡ Some h) × (is_package h.form ≡ false)

-- a body fits the declaration that it completes: this needs a body, and both are a package's or both a subprogram's
abbrev pub Fits : Header → Header → Type 0
Fits declaration body = (declaration.needs_body ≡ true) × (is_package declaration.form ≡ is_package_body body.form)

-- a file's unit has a name that the file can't hold
pub data Misnames (file : List ℕ) (h : Header) : Finding → Type 0 where
  -- the name asks for another file
  other_file : file ≢ file_name_of (key_of_unit h) → Misnames file h (finding file h.place 201)
  -- the name is the implementation's (ARM A.2(4))
  reserved : is_reserved h.name ≡ true → Misnames file h (finding file h.place 207)

-- a unit of the library breaks a rule that looks at it and at the units and files that it names
pub data BreaksByItself (lib : Library) (file : List ℕ) (h : Header) : Finding → Type 0 where
  -- a mentioned unit has no declaration (ARM 10.1.2(6))
  missing_mention : {m : Mention} → Contains h.mentions m → is_predefined m.name ≡ false → declaration_of lib m.name ≡ None → BreaksByItself lib file h (finding file m.place 202)
  -- there is no file for a subunit's parent body (ARM 10.1.3(8))
  missing_parent_body : {m : Mention} → h.parent_body ≡ Some m → has_body_file lib m.name ≡ false → BreaksByItself lib file h (finding file m.place 202)
  -- a package's body has no declaration (ARM 7.2(4))
  missing_declaration : is_package_body h.form ≡ true → has_declaration_file lib h.name ≡ false → BreaksByItself lib file h (finding file h.place 202)
  -- the parent of a child, which is no subunit, has no declaration (ARM 10.1.1(10))
  missing_parent : {parent : List ℕ} → h.parent_body ≡ None → parent_of h.name ≡ Some parent → declaration_of lib parent ≡ None → BreaksByItself lib file h (finding file h.place 205)
  -- it is no package (ARM 10.1.1(10))
  parent_no_package : {parent : List ℕ} → h.parent_body ≡ None → parent_of h.name ≡ Some parent → IsNoPackage lib parent → BreaksByItself lib file h (finding file h.place 205)
  -- a subunit's parent body has no stub for it (ARM 10.1.3(8))
  no_stub : {m : Mention} {key : Key} {parent : Header} → h.parent_body ≡ Some m → parent_body_of lib m.name ≡ Some key → unit_at lib key ≡ Some parent → (Contains parent.stubs h.designator → ⊥) → BreaksByItself lib file h (finding file h.place 206)
  -- a body doesn't fit its declaration (ARM 7.2(4), 6.3)
  misfit : {declaration : Header} → is_library_body h.form ≡ true → unit_at lib (h.name, Decl) ≡ Some declaration → (Fits declaration h → ⊥) → BreaksByItself lib file h (finding file h.place 209)

-- a unit of the library breaks a rule
pub data Breaks (lib : Library) (file : List ℕ) (h : Header) : Finding → Type 0 where
  by_itself : {f : Finding} → BreaksByItself lib file h f → Breaks lib file h f
  -- the unit depends on itself (ARM 10.1.1(26))
  cycle : DependsOn lib (key_of_unit h) (key_of_unit h) → Breaks lib file h (finding file (record { line = 1; col = 1 }) 203)
  -- a private child is mentioned by a unit that may not, by its name or by a descendant's (ARM 10.1.2(8))
  private_child : {m : Mention} {child : List ℕ} → Contains h.mentions m → Contains (lineage m.name) child → IsPrivate lib child → (MayMentionChildrenOf lib h (parent_of child) → ⊥) → Breaks lib file h (finding file m.place 204)

-- What is wrong with the files: with each its first lexical fault, or else its syntax fault, or else the faults of its name, or else
-- those of its unit.
pub data IsFault (lib : Library) : Finding → Type 0 where
  unread : {file : List ℕ} {source : Source} {place : Place} {code : ℕ} → Contains lib (file, source) → source.contents ≡ Unread place code → IsFault lib (finding file place code)
  misnamed : {file : List ℕ} {source : Source} {h : Header} {f : Finding} → Contains lib (file, source) → source.contents ≡ Headed h → Misnames file h f → IsFault lib f
  broken : {file : List ℕ} {source : Source} {h : Header} {f : Finding} → Contains lib (file, source) → held file source.contents ≡ Some h → Breaks lib file h f → IsFault lib f
