-- The parts of an image.
use Rattle.std.proofs.Common.{◌≡◌, ℕ, ◌+◌, ◌≤◌, Bool, true, false, cond, List, [], ◌∷◌, ◌++◌, length, map, Option, Some, option_map, refl, sym, ap, ◌∙◌, length-append, sum_by}
use Rattle.std.specs.List.{All, flat_map}
use Rattle.std.proofs.lemmas.List.Sums.{sum_by-cons}
use Rattle.al_view.specs.declared.link.LinkSymbol.{LinkSymbol}
use Rattle.al_instr.specs.declared.instruction.Instr.{Instr}
use Rattle.al_instr.specs.declared.instruction.Instr.TheVariants.{Plain}
use Rattle.al_instr.specs.declared.numbers.Plain.TheVariants as plain
use Rattle.al_instr.specs.declared.lines.LineEntry.{LineEntry}
use Rattle.al_instr.specs.Codes.{encoded, code_bytes, word_bytes}
use Rattle.al_link_image.specs.declared.parts.ImageObject.{ImageObject}
use Rattle.al_link_image.specs.declared.parts.ImageParts.{ImageParts}
use Rattle.al_link_image.specs.declared.parts.Region.{Region}
use Rattle.al_link_image.specs.Images.{Image, IsObject, IsRegion}
use Rattle.al_link_image.specs.Lines.{LinesFit}
use Rattle.al_link_image.specs.Parts as parts
use Rattle.al_link_image.specs.Parts.{IsCode, IsWhole, code_of}
use Rattle.al_link_image.proofs.CodeLemmas.{code_bytes-append}
use Rattle.al_link.specs.declared.bases.Bases.{Bases}
use Rattle.al_link.specs.Bases.{next_bases}
use Rattle.al_link.specs.Images.{called, calls_of, start_code, code_linked, image_of, lines_of, object_of, regions_of}
use Rattle.al_link.specs.Units.{UnitObject, Located, located, is_item, call_size, start_size, first_bases, bases_after, totals}

call_length : (b : Bool) (place : ℕ) → length (code_bytes (cond b (called place) [])) ≡ cond b 10 0
unfolding encoded word_bytes
call_length true place = refl
call_length false place = refl

calls_length : (b : Bases) (us : List UnitObject) → length (code_bytes (flat_map calls_of (located b us))) ≡ sum_by call_size us
calls_length b [] = refl
calls_length b (u ∷ us) =
    let rest : List Instr = flat_map calls_of (located (next_bases b u.object) us) in
    let one : List Instr = cond (is_item u.key.kind) (called b.code) [] in
    let h : length (code_bytes one) ≡ cond (is_item u.key.kind) 10 0 = call_length (is_item u.key.kind) b.code in
    let ih : length (code_bytes rest) ≡ sum_by call_size us = calls_length (next_bases b u.object) us in
    ap length (code_bytes-append one rest) ∙ length-append (code_bytes one) (code_bytes rest) ∙ ap (λ (n : ℕ). n + length (code_bytes rest)) h ∙ ap (λ (n : ℕ). cond (is_item u.key.kind) 10 0 + n) ih ∙ sym (sum_by-cons call_size u us)

main_length : (main : ℕ) → length (code_bytes (Plain plain.Go ∷ (called main ++ Plain plain.Done ∷ []))) ≡ 12
unfolding encoded word_bytes
main_length main = refl

-- the starting code has the size that is counted
pub start_length : (main : ℕ) (b : Bases) (us : List UnitObject) → length (code_bytes (start_code (located b us) main)) ≡ start_size us
start_length main b us =
    let calls : List Instr = flat_map calls_of (located b us) in
    let ends : List Instr = Plain plain.Go ∷ (called main ++ Plain plain.Done ∷ []) in
    ap length (code_bytes-append calls ends) ∙ length-append (code_bytes calls) (code_bytes ends) ∙ ap (λ (n : ℕ). n + length (code_bytes ends)) (calls_length b us) ∙ ap (λ (n : ℕ). sum_by call_size us + n) (main_length main)

-- parts within the limits are those of an image
pub whole : (p : ImageParts) → p.tasks ≤ 63 → p.data_words ≤ 1048576 → length p.protected.items ≤ 65535 → All (IsRegion p.data_words) p.protected.items → length p.objects.items ≤ 65535 → All IsObject p.objects.items → IsCode p.code.items → length p.code.items ≤ 16777216 → LinesFit (length p.code.items) (option_map (λ v. v.items) p.lines) → IsWhole p
whole p tasks words count regions units objects code size lines =
    record {
      within = record { tasks = tasks; data_words = words; protected_count = count; protected = regions; object_count = units; objects = objects; code = code.are; code_size = rw code.bytes_are size; lines = rw code.bytes_are lines };
      bytes_are = code.bytes_are;
    }

image_from : ℕ → ℕ → List Region → List ImageObject → List ℕ → Option (List LineEntry) → Image
image_from tasks words regions objects code lines = record { tasks = tasks; data_words = words; protected = regions; objects = objects; code = code_of code; lines = lines }

-- and the image is that of the units
pub image_is : (main : LinkSymbol) (us : List UnitObject) (first after : Bases) (xs : List Located) (p : ImageParts) → first ≡ first_bases us → xs ≡ located first us → after ≡ bases_after first us → p.tasks ≡ after.tasks → p.data_words ≡ after.words → p.protected.items ≡ flat_map regions_of xs → p.objects.items ≡ map object_of xs → p.code.items ≡ code_linked main xs → option_map (λ v. v.items) p.lines ≡ Some (flat_map lines_of xs) → parts.image_of p ≡ image_of main us
unfolding image_from
image_is main us first after xs p e l a t w r o c k =
    let all : after ≡ totals us = a ∙ ap (λ (b : Bases). bases_after b us) e in
    let places : xs ≡ located (first_bases us) us = l ∙ ap (λ (b : Bases). located b us) e in
    let lines : Option (List LineEntry) = option_map (λ v. v.items) p.lines in
    ap (λ (n : ℕ). image_from n p.data_words p.protected.items p.objects.items p.code.items lines) (t ∙ ap (λ (b : Bases). b.tasks) all)
    ∙ ap (λ (n : ℕ). image_from (totals us).tasks n p.protected.items p.objects.items p.code.items lines) (w ∙ ap (λ (b : Bases). b.words) all)
    ∙ ap (λ (rs : List Region). image_from (totals us).tasks (totals us).words rs p.objects.items p.code.items lines) r
    ∙ ap (λ (os : List ImageObject). image_from (totals us).tasks (totals us).words (flat_map regions_of xs) os p.code.items lines) o
    ∙ ap (λ (bs : List ℕ). image_from (totals us).tasks (totals us).words (flat_map regions_of xs) (map object_of xs) bs lines) c
    ∙ ap (λ (es : Option (List LineEntry)). image_from (totals us).tasks (totals us).words (flat_map regions_of xs) (map object_of xs) (code_linked main xs) es) k
    ∙ ap (λ (ys : List Located). image_from (totals us).tasks (totals us).words (flat_map regions_of ys) (map object_of ys) (code_linked main ys) (Some (flat_map lines_of ys))) places
