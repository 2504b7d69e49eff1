-- Declarations that wait for those before them.
use Rattle.std.specs.Prelude.{List, [], ◌∷◌}
use Rattle.serde_json.specs.View.{view}
use Rattle.al_lsp_listing.specs.declared.listing.Pending.{Pending}
use Rattle.al_lsp_listing.specs.Listed.{Deep}

abbrev pub deep : Pending → Deep
deep p = record { depth = p.depth; listed = view p.value }

-- onto others, one after the other
abbrev pub onto : List Pending → List Deep → List Deep
onto [] ds = ds
onto (p ∷ ps) ds = onto ps (deep p ∷ ds)

-- the last one first
abbrev pub stacked : List Pending → List Deep
stacked ps = onto ps []
