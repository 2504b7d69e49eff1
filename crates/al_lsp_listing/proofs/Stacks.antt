-- What is on top of a stack.
use Rattle.std.proofs.Common.{true, ◌≡◌, ◌∙◌, ◌+◌, ◌-◌, ℕ, Bool, false, nat_lt, if◌then◌else◌, List, [], ◌∷◌, ◌++◌, Option, Some, None, refl, ap, length, map, arith}
use Rattle.std.specs.List.{slice_get}
use Rattle.serde_json.specs.Data.{Data}
use Rattle.serde_json.specs.View.{view}
use Rattle.serde_json.specs.declared.value.Value.{Value}
use Rattle.al_lsp_listing.specs.declared.listing.Pending.{Pending}
use Rattle.al_lsp_listing.specs.Listed.{behind, inside, is_inside, Deep, Pops}
use Rattle.al_lsp_listing.specs.Stacks.{deep, onto, stacked}

onto_push : (ps : List Pending) (p : Pending) (ds : List Deep) → onto (ps ++ p ∷ []) ds ≡ deep p ∷ onto ps ds
onto_push [] p ds = refl
onto_push (q ∷ qs) p ds = onto_push qs p (deep q ∷ ds)

pub stacked_push : (ps : List Pending) (p : Pending) → stacked (ps ++ p ∷ []) ≡ deep p ∷ stacked ps
stacked_push ps p = onto_push ps p []

abbrev is_first : ℕ → Option Pending → Bool
is_first depth None = false
is_first depth (Some p) = nat_lt depth p.depth

-- whether the last of some is deeper, onto others
is_last_inside : (depth : ℕ) (ps : List Pending) (p last : Pending) (ds : List Deep) → slice_get (p ∷ ps) (length ps) ≡ Some last → is_inside depth (onto (p ∷ ps) ds) ≡ nat_lt depth last.depth
is_last_inside depth [] p last ds e = ap (λ (o : Option Pending). is_first depth o) e
is_last_inside depth (q ∷ qs) p last ds e = is_last_inside depth qs q last (deep p ∷ ds) e

pub is_inside_last : (depth : ℕ) (ps : List Pending) (last : Pending) → slice_get ps (length ps - 1) ≡ Some last → is_inside depth (stacked ps) ≡ nat_lt depth last.depth
is_inside_last depth [] last e = cc
is_inside_last depth (p ∷ ps) last e =
    let before : length ps ≡ length (p ∷ ps) - 1 = omega arith in
    is_last_inside depth ps p last [] (ap (slice_get (p ∷ ps)) before ∙ e)

-- taken from the top, if it is deeper
pub pops_top : (depth : ℕ) (d : Deep) (ds : List Deep) → nat_lt depth d.depth ≡ true → Pops depth (d ∷ ds) ds (Some d.listed)
pops_top depth d ds e = (ap (λ (b : Bool). if b then d.listed ∷ inside depth ds else []) e, ap (λ (b : Bool). if b then behind depth ds else d ∷ ds) e)

pub value_moved : (vs : List Value) (v : Value) (ds : List Data) → map view (vs ++ v ∷ []) ++ ds ≡ map view vs ++ view v ∷ ds
value_moved [] v ds = refl
value_moved (w ∷ ws) v ds = ap (λ (es : List Data). view w ∷ es) (value_moved ws v ds)
