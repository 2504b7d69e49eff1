-- Instructions that pass the limit by themselves.
use Rattle.std.proofs.Common.{◌≡◌, ℕ, ◌<◌, ◌≤◌, List, [], ◌∷◌, length, map, Option, Some, None, sym, ◌∙◌, arith, length-append}
use Rattle.std.proofs.lemmas.List.{length-map}
use Rattle.std.specs.List.{flat_map}
use Rattle.al_instr.specs.declared.instruction.Instr.{Instr}
use Rattle.al_instr.specs.declared.instruction.Instr.TheVariants.{PutName, PutText}
use Rattle.al_instr.specs.Codes.{encoded, word_bytes, name_bytes, names_bytes}
use Rattle.al_code.specs.Pieces.{printed}
use Rattle.al_code.specs.Pieces.Piece.{Whole}
use Rattle.al_code.specs.Written.{Buffer, written}
use Rattle.al_code.proofs.Writing.{piece_beyond, written_none, written_one}

beyond : (w : Option Buffer) (i : Instr) → 16777216 < length (encoded i) → None ≡ written w (Whole i ∷ [])
beyond None i less = sym (written_none (Whole i ∷ []))
beyond (Some b) i less = sym (written_one (Some b) (Whole i) ∙ piece_beyond b (Whole i) (omega arith))

text_size : (text : List ℕ) → length text ≤ length (encoded (PutText text))
unfolding encoded
text_size text = omega (arith, length-append (word_bytes (length text)) text)

pub text_beyond : (w : Option Buffer) (text : List ℕ) → 16777216 < length text → None ≡ written w (Whole (PutText text) ∷ [])
text_beyond w text less = beyond w (PutText text) (omega (arith, text_size text))

names_size : (names : List (List ℕ)) → length names ≤ length (flat_map name_bytes names)
names_size [] = omega arith
names_size (name ∷ names) = omega (arith, names_size names, length-append (name_bytes name) (flat_map name_bytes names))

name_size : (below : ℕ) (names : List (List ℕ)) → length names ≤ length (encoded (PutName below names))
unfolding encoded
name_size below names =
    omega (arith, names_size names, length-append (word_bytes below) (names_bytes names), length-append (word_bytes (length names)) (flat_map name_bytes names))

pub names_beyond : (w : Option Buffer) (below : ℕ) (names : List (List ℕ)) → 16777216 < length names → None ≡ written w (Whole (PutName below (map printed names)) ∷ [])
names_beyond w below names less = beyond w (PutName below (map printed names)) (omega (arith, name_size below (map printed names), length-map names printed))
