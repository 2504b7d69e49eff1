-- What a unit says of itself, by its source and its place.
use Rattle.std.specs.Prelude.{List, Option, Some, None, slice_get, if◌then◌else◌}
use Rattle.al_view.specs.declared.view.ViewKind.{ViewKind}
use Rattle.al_view.specs.declared.view.ViewKind.TheVariants.{OfPackage}
use Rattle.al_scope.specs.declared.own.OwnText.{OwnText}
use Rattle.al_decl_judged.specs.declared.declaration.Declaration.{Declaration}
use Rattle.al_query_outcome.specs.declared.interface.Properties.{Properties}
use Rattle.al_check_bounded.specs.declared.said.SaidUnit.{SaidUnit}

abbrev pub view_by : Option Declaration → Option ViewKind → Option ViewKind
view_by (Some d) completed = Some d.view
view_by None completed = completed

-- the own view of a subprogram: that which its own declaration gives, or else that of the declaration which its body completes
abbrev pub view_of_subprogram : List Declaration → Option ViewKind → Option ViewKind
view_of_subprogram declared completed = view_by (slice_get declared 0) completed

abbrev pub own_view : OwnText → List Declaration → Option ViewKind → Option ViewKind
own_view own declared completed = if own.is_package then Some (OfPackage own.symbol) else view_of_subprogram declared completed

abbrev pub said : SaidUnit → Properties
said u = record {
  kind = u.kind;
  parent = u.parent;
  is_private = u.own.is_private;
  context = record { withs = u.withs; uses = u.own.uses; uses_inside = u.uses_inside; private_types = u.private_types };
  needs_body = u.needs_body;
  completions = u.completions;
}
