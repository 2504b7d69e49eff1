-- Linked code is code.
use Rattle.std.proofs.Common.{◌≡◌, ℕ, ◌+◌, ◌<◌, ◌%◌, ◌^◌, List, [], ◌∷◌, ◌++◌, length, map, refl, sym, ap, ◌∙◌, append-nil, arith}
use Rattle.std.specs.List.{All}
use Rattle.std.proofs.lemmas.List.Elements.{All-head, All-tail, All-nil, All-cons, All-append}
use Rattle.al_instr.specs.declared.instruction.Instr.{Instr}
use Rattle.al_instr.specs.declared.instruction.Instr.TheVariants as instr
use Rattle.al_instr.specs.Codes.{encoded, code_bytes, IsInstr}
use Rattle.al_code_object.specs.declared.object.Relocation.{Relocation}
use Rattle.al_code_object.specs.Objects.{CompiledCode, Keeps}
use Rattle.al_code_object.specs.Parts as parts
use Rattle.al_code_object.specs.Parts.{Part, Whole, Using, IsPart, instr_of, uses_from}
use Rattle.al_link_image.specs.Parts.{IsCode, code_of}
use Rattle.al_link_image.proofs.CodeLemmas.{is_code, code_bytes-append}
use Rattle.al_link.specs.Symbols.{Places, place_in}
use Rattle.al_link.specs.Linking.{patched}
use Rattle.al_link.specs.LinkedParts.{shifted, linked_part}
use Rattle.al_link.proofs.LinkedLemmas.{links_parts}

below : (n : ℕ) → n % 2 ^ 32 < 0x1_0000_0000
below n = omega arith

-- operands that the linker fills in fit
shifted_fits : (v : ℕ) (i : Instr) → IsInstr i → IsInstr (shifted v i)
shifted_fits v (instr.Global place) fit = below (place + v)
shifted_fits v (instr.Call place words) fit = (below (place + v), fit.1)
shifted_fits v (instr.Task place priority) fit = (below (place + v), fit.1)
shifted_fits v (instr.Seed place words) fit = (below (place + v), fit.1)
shifted_fits v (instr.Protected action object) fit = below (object + v)
shifted_fits v (instr.Plain p) fit = fit
shifted_fits v (instr.Sized s n) fit = fit
shifted_fits v (instr.Const z) fit = fit
shifted_fits v (instr.Frame depth word) fit = fit
shifted_fits v (instr.Check low high) fit = fit
shifted_fits v (instr.Index low high words) fit = fit
shifted_fits v (instr.Jump distance) fit = fit
shifted_fits v (instr.JumpZero distance) fit = fit
shifted_fits v (instr.PutText text) fit = fit
shifted_fits v (instr.PutName names_below names) fit = fit

part_fits : (places : Places) (p : Part) → IsPart p → IsInstr (instr_of (linked_part places p))
part_fits places (Whole i) fit = fit
part_fits places (Using i symbol) fit = shifted_fits (place_in places symbol) i fit.0

-- the linked instructions of an object
abbrev instrs : Places → List Part → List Instr
instrs places ps = map (λ p. instr_of (linked_part places p)) ps

all_fit : (places : Places) (ps : List Part) → All IsPart ps → All IsInstr (instrs places ps)
all_fit places [] all = All-nil IsInstr
all_fit places (p ∷ ps) all = All-cons IsInstr _ _ (part_fits places p (All-head IsPart p ps all)) (all_fit places ps (All-tail IsPart p ps all))

bytes_same : (places : Places) (ps : List Part) → parts.code_of (map (linked_part places) ps) ≡ code_bytes (instrs places ps)
bytes_same places [] = refl
bytes_same places (p ∷ ps) = ap (λ (xs : List ℕ). encoded (instr_of (linked_part places p)) ++ xs) (bytes_same places ps)

-- what linking appends to code is code
pub linked_is_code : (places : Places) (code : List ℕ) (o : CompiledCode) (new : List ℕ) → IsCode code → Keeps o → new ≡ patched places o.code (length code) (code ++ o.code) o.uses → IsCode new
linked_is_code places code o new is keeps e =
    let ps : List Part = keeps.code.parts in
    let more : List Instr = instrs places ps in
    let whole : new ≡ code ++ code_bytes more =
    e ∙ ap (λ (xs : List ℕ). patched places xs (length code) (code ++ xs) o.uses) keeps.code.code_is
    ∙ ap (λ (us : List Relocation). patched places (parts.code_of ps) (length code) (code ++ parts.code_of ps) us) keeps.code.uses_are
    ∙ ap (λ (xs : List ℕ). patched places (parts.code_of ps) (length code) (code ++ xs) (uses_from 0 ps)) (sym (append-nil (parts.code_of ps)))
    ∙ links_parts places code [] ps keeps.code.are_parts
    ∙ ap (λ (xs : List ℕ). code ++ xs) (append-nil (parts.code_of (map (linked_part places) ps)) ∙ bytes_same places ps) in
    is_code new (code_of code ++ more) (All-append IsInstr (code_of code) more is.are (all_fit places ps keeps.code.are_parts))
    (whole ∙ ap (λ (xs : List ℕ). xs ++ code_bytes more) (sym is.bytes_are) ∙ sym (code_bytes-append (code_of code) more))
