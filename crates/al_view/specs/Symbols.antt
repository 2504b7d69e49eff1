-- When two units, parts or symbols are one.
use Rattle.std.specs.Prelude.{Bool, true, false, ◌&&◌, ◌==◌}
use Rattle.std.specs.Str.{bytes_eq}
use Rattle.al_base.specs.declared.unit_key.UnitKey.{UnitKey}
use Rattle.al_base.specs.declared.unit_key.UnitKind.{UnitKind}
use Rattle.al_base.specs.declared.unit_key.UnitKind.TheVariants.{Decl, Body, Sub}
use Rattle.al_view.specs.declared.part.Part.{Part}
use Rattle.al_view.specs.declared.part.Part.TheVariants as part
use Rattle.al_view.specs.declared.symbol.Symbol.{Symbol}

abbrev pub same_kind : UnitKind → UnitKind → Bool
same_kind Decl Decl = true
same_kind Body Body = true
same_kind Sub Sub = true
same_kind _ _ = false

-- same kind, same name
abbrev pub same_unit : UnitKey → UnitKey → Bool
same_unit a b = same_kind a.kind b.kind && bytes_eq a.name b.name

abbrev pub same_part : Part → Part → Bool
same_part part.Visible part.Visible = true
same_part part.Private part.Private = true
same_part part.Body part.Body = true
same_part (part.Stub a) (part.Stub b) = bytes_eq a b
same_part _ _ = false

abbrev pub same_symbol : Symbol → Symbol → Bool
same_symbol a b = same_unit a.unit b.unit && bytes_eq a.name b.name && (a.number == b.number)
