-- The image without anything.
use Rattle.std.proofs.Common.{◌≡◌, ℕ, List, [], length, Option, None, option_map, refl, sym, ap, subst, ◌∙◌, arith}
use Rattle.std.specs.List.{All}
use Rattle.std.proofs.lemmas.List.Elements.{All-nil}
use Rattle.al_instr.specs.declared.instruction.Instr.{Instr}
use Rattle.al_instr.specs.Codes.{code_bytes, IsInstr}
use Rattle.al_link_image.specs.declared.parts.ImageObject.{ImageObject}
use Rattle.al_link_image.specs.declared.parts.ImageParts.{ImageParts}
use Rattle.al_link_image.specs.declared.parts.Region.{Region}
use Rattle.al_instr.specs.declared.lines.LineEntry.{LineEntry}
use Rattle.al_link_image.specs.Lines.{LinesFit}
use Rattle.al_link_image.specs.Images.{IsRegion, IsObject}
use Rattle.al_link_image.specs.Parts.{IsWhole, code_of, instructions_in}

none_in : code_of [] ≡ []
unfolding instructions_in
none_in = refl

-- parts without anything are those of an image
pub empty_whole : (p : ImageParts) → p.tasks ≡ 0 → p.data_words ≡ 0 → p.protected.items ≡ [] → p.objects.items ≡ [] → p.code.items ≡ [] → option_map (λ v. v.items) p.lines ≡ None → IsWhole p
empty_whole p t w r o c l =
    let none : code_of p.code.items ≡ [] = ap (λ (xs : List ℕ). code_of xs) c ∙ none_in in
    let no_bytes : code_bytes (code_of p.code.items) ≡ [] = ap (λ (is : List Instr). code_bytes is) none in
    let size : length (code_bytes (code_of p.code.items)) ≡ 0 = ap (λ (xs : List ℕ). length xs) no_bytes in
    let regions : length p.protected.items ≡ 0 = ap (λ (xs : List Region). length xs) r in
    let objects : length p.objects.items ≡ 0 = ap (λ (xs : List ImageObject). length xs) o in
    record {
      within = record {
        tasks = omega arith;
        data_words = omega arith;
        protected_count = omega arith;
        protected = subst (λ (xs : List Region). All (IsRegion p.data_words) xs) (sym r) (All-nil (IsRegion p.data_words));
        object_count = omega arith;
        objects = subst (λ (xs : List ImageObject). All IsObject xs) (sym o) (All-nil IsObject);
        code = subst (λ (xs : List Instr). All IsInstr xs) (sym none) (All-nil IsInstr);
        code_size = omega arith;
        lines = subst (λ (x : Option (List LineEntry)). LinesFit (length (code_bytes (code_of p.code.items))) x) (sym l) tt;
      };
      bytes_are = no_bytes ∙ sym c;
    }
