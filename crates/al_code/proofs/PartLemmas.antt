-- The parts of a name with one more at their beginning, and without it.
use Rattle.std.proofs.Common.{◌≡◌, ℕ, Bool, length, List, [], ◌∷◌, ◌++◌, Option, Some, Box, Global, sym, ap, subst, ◌∙◌}
use Rattle.std.specs.Option.{option_to_list}
use Rattle.std.proofs.lemmas.List.{append_assoc, append-nil}
use Rattle.al_view.specs.declared.link.LinkKind.TheVariants.{Data}
use Rattle.al_view.specs.declared.types.Bounds.{Bounds}
use Rattle.al_view.specs.declared.view.ObjectPlace.{ObjectPlace}
use Rattle.al_instr.specs.declared.numbers.Sized.TheVariants as sized
use Rattle.al_code.proofs.Writing.{written_append, written_nothing}
use Rattle.al_code.specs.Pieces.{Piece}
use Rattle.al_code.specs.Written.{Buffer, written}
use Rattle.al_code.specs.Parts.{ArePartsBelow, IsPartBelow, part_code, parted_code}
use Rattle.al_code.specs.ExprPieces.{of_size, place_code}
use Rattle.al_code.specs.Templates.{address_of, index_code, value_of}
use Rattle.al_code.specs.declared.parts.Part.{Part}
use Rattle.al_view_typed.specs.ExpressionViews.{name_model, typed_model}
use Rattle.al_view_typed.specs.declared.expression.Typed.{Typed}
use Rattle.al_view_typed.specs.declared.expression.TypedName.{TypedName}
use Rattle.al_view_typed.specs.declared.expression.TypedName.TheVariants.{Object, Component, Indexed}
use Rattle.al_view_typed.proofs.ExpressionsMade.{component_made, indexed_made, object_made}

pub last_parted : (depth : ℕ) (parts : List Part) (part : Part) → parted_code depth (parts ++ part ∷ []) ≡ part_code depth part ++ parted_code depth parts
last_parted depth [] part = sym (append-nil (part_code depth part))
last_parted depth (x ∷ parts) part =
    ap (λ (ps : List Piece). ps ++ part_code depth x) (last_parted depth parts part)
    ∙ append_assoc (part_code depth part) (parted_code depth parts) (part_code depth x)

-- a step down to what a part is of
pub first_parted : (depth : ℕ) (parts new : List Part) (part : Part) (rest prefix whole : List Piece)
    → new ≡ parts ++ part ∷ [] → rest ≡ prefix ++ part_code depth part → rest ++ parted_code depth parts ≡ whole → prefix ++ parted_code depth new ≡ whole
first_parted depth parts new part rest prefix whole is step known =
    ap (λ (ps : List Part). prefix ++ parted_code depth ps) is
    ∙ ap (λ (ps : List Piece). prefix ++ ps) (last_parted depth parts part)
    ∙ sym (append_assoc prefix (part_code depth part) (parted_code depth parts))
    ∙ ap (λ (ps : List Piece). ps ++ parted_code depth parts) (sym step)
    ∙ known

last_below : (whole : TypedName) (parts : List Part) (part : Part) → ArePartsBelow whole (parts ++ part ∷ []) → ArePartsBelow whole parts × IsPartBelow whole part
last_below whole [] part all = (tt, all.0)
last_below whole (x ∷ parts) part all = let rest = last_below whole parts part all.1 in ((all.0, rest.0), rest.1)

more_below : (whole : TypedName) (parts : List Part) (part : Part) → ArePartsBelow whole parts → IsPartBelow whole part → ArePartsBelow whole (parts ++ part ∷ [])
more_below whole [] part all one = (one, tt)
more_below whole (x ∷ parts) part all one = (all.0, more_below whole parts part all.1 one)

pub part_pushed : (whole : TypedName) (parts new : List Part) (part : Part) → new ≡ parts ++ part ∷ [] → ArePartsBelow whole parts → IsPartBelow whole part → ArePartsBelow whole new
part_pushed whole parts new part is all one = subst (ArePartsBelow whole) (sym is) (more_below whole parts part all one)

-- ---- the next part from the object on

pub part_popped : (old new : List Part) (o : Option Part) (part : Part) → old ≡ new ++ option_to_list o → o ≡ Some part → old ≡ new ++ part ∷ []
part_popped old new o part items is = items ∙ ap (λ (x : Option Part). new ++ option_to_list x) is

pub popped_part_below : (whole : TypedName) (old new : List Part) (o : Option Part) (part : Part) → old ≡ new ++ option_to_list o → o ≡ Some part → ArePartsBelow whole old → ArePartsBelow whole new × IsPartBelow whole part
popped_part_below whole old new o part items is all = last_below whole new part (subst (ArePartsBelow whole) (part_popped old new o part items is) all)

-- what was written so far, and the next part
pub next_part : (depth : ℕ) (old new : List Part) (o : Option Part) (part : Part) (out next whole : Option Buffer) → old ≡ new ++ option_to_list o → o ≡ Some part
    → next ≡ written out (part_code depth part) → written out (parted_code depth old) ≡ whole → written next (parted_code depth new) ≡ whole
next_part depth old new o part out next whole items is step known =
    ap (λ (b : Option Buffer). written b (parted_code depth new)) step
    ∙ written_append out (part_code depth part) (parted_code depth new)
    ∙ ap (written out) (sym (ap (parted_code depth) (part_popped old new o part items is) ∙ last_parted depth new part))
    ∙ known

pub no_part_left : (depth : ℕ) (parts : List Part) (out whole : Option Buffer) → length parts ≡ 0 → written out (parted_code depth parts) ≡ whole → out ≡ whole
no_part_left depth [] out whole empty known = sym (written_nothing out) ∙ known
no_part_left depth (part ∷ parts) out whole empty known = absurd (cc)

-- ---- the address of an object, and of a component

pub object_address : (rest : TypedName) (place : ObjectPlace) (is_constant : Bool) → rest ≡ Object place is_constant → (depth : ℕ) → address_of depth (name_model rest) ≡ place_code Data depth place
object_address rest place is_constant is depth = ap (λ (n : TypedName). address_of depth (name_model n)) is ∙ ap (address_of depth) (object_made place is_constant)

pub component_address : (rest part : TypedName) (whole : Box TypedName Global) (offset : ℕ) → rest ≡ Component whole offset → part ≡ whole.value
    → (depth : ℕ) → address_of depth (name_model rest) ≡ address_of depth (name_model part) ++ of_size sized.Field offset
component_address rest part whole offset is same depth =
    ap (λ (n : TypedName). address_of depth (name_model n)) is
    ∙ ap (address_of depth) (component_made whole offset)
    ∙ ap (λ (n : TypedName). address_of depth (name_model n) ++ of_size sized.Field offset) (sym same)

pub indexed_address : (rest part : TypedName) (array : Box TypedName Global) (index : Box Typed Global) (bounds : Bounds) (words : ℕ) (at : Typed) (within : Bounds)
    → rest ≡ Indexed array index bounds words → part ≡ array.value → at ≡ index.value → within ≡ bounds
    → (depth : ℕ) → address_of depth (name_model rest) ≡ address_of depth (name_model part) ++ (value_of depth (typed_model at) ++ index_code within words)
indexed_address rest part array index bounds words at within is same at-is within-is depth =
    ap (λ (n : TypedName). address_of depth (name_model n)) is
    ∙ ap (address_of depth) (indexed_made array index bounds words)
    ∙ append_assoc (address_of depth (name_model array.value)) (value_of depth (typed_model index.value)) (index_code bounds words)
    ∙ ap (λ (n : TypedName). address_of depth (name_model n) ++ (value_of depth (typed_model index.value) ++ index_code bounds words)) (sym same)
    ∙ ap (λ (t : Typed). address_of depth (name_model part) ++ (value_of depth (typed_model t) ++ index_code bounds words)) (sym at-is)
    ∙ ap (λ (b : Bounds). address_of depth (name_model part) ++ (value_of depth (typed_model at) ++ index_code b words)) (sym within-is)
