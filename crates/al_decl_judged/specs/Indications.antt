-- Subtype indications and index subtypes, from their judged parts (ARM 3.2.2, 3.6).
use Rattle.std.specs.Prelude.{List, [], Option, Some, None, Result}
use Rattle.al_base.specs.declared.place.Place.{Place}
use Rattle.al_base_fault.specs.declared.fault.Fault.{Fault}
use Rattle.al_base_fault.specs.Judging.{both, next, map_ok}
use Rattle.al_view.specs.declared.symbol.Symbol.{Symbol}
use Rattle.al_view.specs.declared.types.TypeView.{TypeView}
use Rattle.al_view.specs.declared.view.SubtypeView.{SubtypeView}
use Rattle.al_decl_judged.specs.declared.subtype_views.StaticRange.{StaticRange}
use Rattle.al_decl_judged.specs.TypeSubtypes.{scalar_bounds, subtype_bounds, subtype_of}
use Rattle.al_decl_judged.specs.Rules.{optional}

-- of a mark that must be scalar, at that place, with a constraint or without
abbrev pub index_of_mark : Place → Result SubtypeView Fault → Option (Result StaticRange Fault) → Result SubtypeView Fault
index_of_mark place mark constraint =
    next mark (λ m. next (both (scalar_bounds place (subtype_bounds m.types m.subtype)) (optional constraint)) (λ r. subtype_of m place r.1))

-- of a mark that must be scalar if it is constrained
abbrev pub indication : Place → Result SubtypeView Fault → Option (Result StaticRange Fault) → Result SubtypeView Fault
indication place mark None = next mark (λ m. subtype_of m place None)
indication place mark (Some range) = index_of_mark place mark (Some range)

-- a range of a type alone, which is compared with no bounds (ARM 3.6.1)
abbrev pub index_of_bounds : Symbol → List TypeView → Result StaticRange Fault → Result SubtypeView Fault
index_of_bounds of types range = map_ok (λ (r : StaticRange). record { subtype = record { base = of; bounds = Some r.bounds }; types = types; literals = [] }) range
