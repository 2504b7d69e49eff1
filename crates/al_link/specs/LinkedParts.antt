-- The instructions of an object after linking.
use Rattle.std.specs.Prelude.{ℕ, ◌≡◌, ◌+◌, ◌%◌, ◌^◌, List, ◌++◌, length, map, All}
use Rattle.al_instr.specs.declared.instruction.Instr.{Instr}
use Rattle.al_instr.specs.declared.instruction.Instr.TheVariants as instr
use Rattle.al_code_object.specs.Parts.{Part, Whole, Using, code_of, uses_from, IsPart}
use Rattle.al_link.specs.Symbols.{Places, place_in}
use Rattle.al_link.specs.Linking.{patched}

-- the instruction with its first operand counted from so many bytes, words or objects
abbrev pub shifted : ℕ → Instr → Instr
shifted v (instr.Global place) = instr.Global ((place + v) % 2 ^ 32)
shifted v (instr.Call place words) = instr.Call ((place + v) % 2 ^ 32) words
shifted v (instr.Task place priority) = instr.Task ((place + v) % 2 ^ 32) priority
shifted v (instr.Seed place words) = instr.Seed ((place + v) % 2 ^ 32) words
shifted v (instr.Protected action object) = instr.Protected action ((object + v) % 2 ^ 32)
shifted v i = i

abbrev pub linked_part : Places → Part → Part
linked_part places (Whole i) = Whole i
linked_part places (Using i symbol) = Whole (shifted (place_in places symbol) i)

-- filling in the operands of instructions, anywhere in an image, gives the bytes of the linked ones; nothing else changes
abbrev pub LinksParts : Type 0
LinksParts =
    (places : Places) (before after : List ℕ) (ps : List Part) → All IsPart ps
    → patched places (code_of ps) (length before) (before ++ (code_of ps ++ after)) (uses_from 0 ps)
    ≡ before ++ (code_of (map (linked_part places) ps) ++ after)
