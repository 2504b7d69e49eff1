-- What is known of the headers of a library that is read from sources.
use Rattle.std.specs.Prelude.{◌≡◌, ℕ, List, ◌∷◌, ◌++◌, Some}
use Rattle.std.specs.Option.{is_some}
use Rattle.al_base.specs.declared.unit_key.UnitKind.TheVariants.{Sub}
use Rattle.al_unit_graph.specs.Headers.{Header, Headed, Library, Mention, Source, kind_of}
use Rattle.al_unit_graph.specs.Library.{is_kind, source_at}

-- a file that is read as a unit has the header that is read in its source
abbrev pub AreHeaded : (List ℕ → Header) → Library → Type 0
AreHeaded header lib = (file : List ℕ) (source : Source) (h : Header) → source_at lib file ≡ Some source → source.contents ≡ Headed h → header source.text ≡ h

-- a subunit, and no other unit, has a parent body, whose name with a dot comes before that of the subunit's own body (ARM
-- 10.1.3(8))
pub record NamesParentBody (h : Header) : Type 0 where
  pub has : is_some h.parent_body ≡ is_kind (kind_of h.form) Sub
  pub name : (m : Mention) → h.parent_body ≡ Some m → h.name ≡ m.name ++ 46 ∷ h.designator

-- all units do so
abbrev pub NameParentBodies : Library → Type 0
NameParentBodies lib = (file : List ℕ) (source : Source) (h : Header) → source_at lib file ≡ Some source → source.contents ≡ Headed h → NamesParentBody h
