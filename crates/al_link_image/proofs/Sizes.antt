-- How many bytes an image has.
use Rattle.std.proofs.Common.{◌≡◌, ℕ, suc, ◌+◌, ◌*◌, List, [], ◌∷◌, ◌++◌, length, Option, Some, None, option_map, refl, sym, ap, ◌∙◌, arith, length-append}
use Rattle.std.specs.List.{flat_map}
use Rattle.al_instr.specs.declared.lines.LineEntry.{LineEntry}
use Rattle.al_instr.specs.Codes.{word_bytes, code_bytes}
use Rattle.al_link_image.specs.declared.parts.Region.{Region}
use Rattle.al_link_image.specs.declared.parts.ImageObject.{ImageObject}
use Rattle.al_link_image.specs.declared.parts.ImageParts.{ImageParts}
use Rattle.al_link_image.specs.Images.{Image, front_bytes, image_bytes, object_bytes, objects_bytes, region_bytes, regions_bytes}
use Rattle.al_link_image.specs.Lines.{entry_bytes, lines_bytes, mark_of}
use Rattle.al_link_image.specs.Parts.{IsWhole, image_of}
use Rattle.al_link_image.specs.Sizes.{image_size, lines_size, parts_size}

pub word_length : (n : ℕ) → length (word_bytes n) ≡ 4
unfolding word_bytes
word_length n = refl

mark_length : (lines : Option (List LineEntry)) → length (mark_of lines) ≡ 6
mark_length None = refl
mark_length (Some es) = refl

region_length : (r : Region) → length (region_bytes r) ≡ 12
region_length r =
    let one = length-append (word_bytes r.address) (word_bytes r.words) in
    let two = length-append (word_bytes r.address ++ word_bytes r.words) (word_bytes r.ceiling) in
    omega (arith, one, two, word_length r.address, word_length r.words, word_length r.ceiling)

regions_length : (rs : List Region) → length (flat_map region_bytes rs) ≡ 12 * length rs
regions_length [] = refl
regions_length (r ∷ rs) =
    let all = length-append (region_bytes r) (flat_map region_bytes rs) in
    omega (arith, all, region_length r, regions_length rs)

entry_length : (e : LineEntry) → length (entry_bytes e) ≡ 8
entry_length e = length-append (word_bytes e.place) (word_bytes e.line) ∙ omega (arith, word_length e.place, word_length e.line)

entries_length : (es : List LineEntry) → length (flat_map entry_bytes es) ≡ 8 * length es
entries_length [] = refl
entries_length (e ∷ es) =
    let all = length-append (entry_bytes e) (flat_map entry_bytes es) in
    omega (arith, all, entry_length e, entries_length es)

lines_length : (lines : Option (List LineEntry)) → length (lines_bytes lines) ≡ lines_size lines
lines_length None = refl
lines_length (Some es) = length-append (word_bytes (length es)) (flat_map entry_bytes es) ∙ omega (arith, word_length (length es), entries_length es)

pub object_length : (o : ImageObject) → length (object_bytes o) ≡ 6 + length o.name
object_length o =
    ap (λ (n : ℕ). suc (suc n)) (length-append o.name (word_bytes o.place)) ∙ omega (arith, word_length o.place)

front_length : (i : Image) → length (front_bytes i) ≡ 22 + 12 * length i.protected + length (flat_map object_bytes i.objects)
front_length i =
    let m : List ℕ = mark_of i.lines in
    let t : List ℕ = word_bytes i.tasks in
    let d : List ℕ = word_bytes i.data_words in
    let r : List ℕ = regions_bytes i.protected in
    let o : List ℕ = objects_bytes i.objects in
    let one : length (m ++ t) ≡ length m + length t = length-append m t in
    let two : length ((m ++ t) ++ d) ≡ length (m ++ t) + length d = length-append (m ++ t) d in
    let three : length (((m ++ t) ++ d) ++ r) ≡ length ((m ++ t) ++ d) + length r = length-append ((m ++ t) ++ d) r in
    let four : length ((((m ++ t) ++ d) ++ r) ++ o) ≡ length (((m ++ t) ++ d) ++ r) + length o = length-append (((m ++ t) ++ d) ++ r) o in
    let regions : length r ≡ 4 + 12 * length i.protected = length-append (word_bytes (length i.protected)) (flat_map region_bytes i.protected) ∙ omega (arith, word_length (length i.protected), regions_length i.protected) in
    let objects : length o ≡ 4 + length (flat_map object_bytes i.objects) = length-append (word_bytes (length i.objects)) (flat_map object_bytes i.objects) ∙ omega (arith, word_length (length i.objects)) in
    omega (arith, one, two, three, four, regions, objects, mark_length i.lines, word_length i.tasks, word_length i.data_words)

pub bytes_length : (i : Image) → length (image_bytes i) ≡ image_size i
unfolding image_bytes
bytes_length i =
    let f : List ℕ = front_bytes i in
    let c : List ℕ = code_bytes i.code in
    let w : List ℕ = word_bytes (length c) in
    let l : List ℕ = lines_bytes i.lines in
    let one : length (f ++ w) ≡ length f + length w = length-append f w in
    let two : length ((f ++ w) ++ c) ≡ length (f ++ w) + length c = length-append (f ++ w) c in
    let three : length (((f ++ w) ++ c) ++ l) ≡ length ((f ++ w) ++ c) + length l = length-append ((f ++ w) ++ c) l in
    three ∙ omega (arith, one, two, front_length i, word_length (length c), lines_length i.lines)

-- the bytes of an image by its parts
pub whole_length : (p : ImageParts) → IsWhole p → length (image_bytes (image_of p)) ≡ parts_size p
whole_length p h =
    let code : length (code_bytes (image_of p).code) ≡ length p.code.items = ap (λ (bs : List ℕ). length bs) h.bytes_are in
    bytes_length (image_of p) ∙ omega (arith, code)
