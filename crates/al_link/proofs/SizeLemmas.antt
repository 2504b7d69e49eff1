-- How many bytes images of units have.
use Rattle.std.proofs.Common.{◌≡◌, ℕ, ◌+◌, ◌*◌, ◌<◌, ◌≤◌, List, length, drop, get_or, Option, Some, option_map, sym, ap, ◌∙◌, arith}
use Rattle.std.specs.List.{flat_map}
use Rattle.al_instr.specs.declared.lines.LineEntry.{LineEntry}
use Rattle.al_link_image.specs.declared.parts.ImageObject.{ImageObject}
use Rattle.al_link_image.specs.declared.parts.ImageParts.{ImageParts}
use Rattle.al_link_image.specs.declared.parts.Region.{Region}
use Rattle.al_link_image.specs.Images.{image_bytes, object_bytes}
use Rattle.al_link_image.specs.Parts as parts
use Rattle.al_link_image.specs.Parts.{IsWhole}
use Rattle.al_link_image.specs.Sizes.{lines_size, parts_size}
use Rattle.al_link_image.proofs.LineReaders.{rise_count}
use Rattle.al_link_image.proofs.Room.{one_less}
use Rattle.al_link_image.proofs.Sizes.{object_length, whole_length}
use Rattle.al_view.specs.declared.link.LinkSymbol.{LinkSymbol}
use Rattle.al_link.specs.declared.bases.Bases.{Bases}
use Rattle.al_link.specs.Units.{UnitObject, totals}
use Rattle.al_link.specs.declared.prepared.Prepared.{Prepared}
use Rattle.al_link.specs.Kept.{IsPrepared, prepared_size}

abbrev lines_in : ImageParts → Option (List LineEntry)
lines_in p = option_map (λ v. v.items) p.lines

-- an image that is made of what was prepared
pub made_size : (q : Prepared) (p : ImageParts) → IsWhole p → p.protected.items ≡ q.protected.items → p.objects.items ≡ q.objects.items → length p.code.items ≡ q.totals.code → lines_in p ≡ Some q.lines.items → length (image_bytes (parts.image_of p)) ≡ prepared_size q
made_size q p h r o c l =
    let regions : length p.protected.items ≡ length q.protected.items = ap (λ (xs : List Region). length xs) r in
    let objects : length (flat_map object_bytes p.objects.items) ≡ length (flat_map object_bytes q.objects.items) = ap (λ (xs : List ImageObject). length (flat_map object_bytes xs)) o in
    let lines : lines_size (lines_in p) ≡ 4 + 8 * length q.lines.items = ap (λ (es : Option (List LineEntry)). lines_size es) l in
    whole_length p h ∙ omega (arith, regions, objects, c, lines)

-- an image whose parts are as long as those of another one
pub again_size : (q p : ImageParts) → IsWhole q → IsWhole p → length q.protected.items ≡ length p.protected.items → q.objects.items ≡ p.objects.items → length q.code.items ≡ length p.code.items → lines_in q ≡ lines_in p → length (image_bytes (parts.image_of q)) ≡ length (image_bytes (parts.image_of p))
again_size q p h k r o c l =
    let objects : length (flat_map object_bytes q.objects.items) ≡ length (flat_map object_bytes p.objects.items) = ap (λ (xs : List ImageObject). length (flat_map object_bytes xs)) o in
    let lines : lines_size (lines_in q) ≡ lines_size (lines_in p) = ap (λ (es : Option (List LineEntry)). lines_size es) l in
    let sizes : parts_size q ≡ parts_size p = omega (arith, r, objects, c, lines) in
    whole_length q h ∙ sizes ∙ sym (whole_length p k)

-- there are as many lines as bytes of code at most
pub lines_count : (main : LinkSymbol) (us : List UnitObject) (q : Prepared) → IsPrepared main us q → length q.lines.items ≤ 16777216
lines_count main us q h =
    let code : q.totals.code ≡ (totals us).code = ap (λ (b : Bases). b.code) h.totals_are in
    omega (arith, rise_count 0 q.totals.code q.lines.items (omega arith) h.lines_fit.rise_in, code, h.within.sums.code)

-- one object more is counted
pub object_counted : (objects : List ImageObject) (i size len : ℕ) (x : ImageObject) → i < length objects → x ≡ get_or objects i x → len ≡ length x.name → size + length (flat_map object_bytes (drop i objects)) ≡ length (flat_map object_bytes objects)
    → size + (6 + len) + length (flat_map object_bytes (drop (i + 1) objects)) ≡ length (flat_map object_bytes objects)
object_counted objects i size len x lt at n e =
    let less : length (flat_map object_bytes (drop i objects)) ≡ length (object_bytes x) + length (flat_map object_bytes (drop (i + 1) objects)) = one_less object_bytes objects i x lt at in
    omega (arith, less, object_length x, n, e)
