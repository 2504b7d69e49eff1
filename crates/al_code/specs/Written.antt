-- Code as it is written.
use Rattle.std.specs.Prelude.{ℕ, pos, ◌+◌, ◌-◌, nat_le, is_none, ◌≡◌, if◌then◌else◌, List, [], ◌∷◌, ◌++◌, length, take, drop, Option, Some, None, IfSome}
use Rattle.std.specs.List.{flat_map}
use Rattle.al_instr.specs.declared.lines.LineEntry.{LineEntry}
use Rattle.al_instr.specs.Codes.{jump_bytes}
use Rattle.al_code_object.specs.declared.object.Address.{Address}
use Rattle.al_code_object.specs.declared.object.Relocation.{Relocation}
use Rattle.al_code.specs.declared.piece.ForwardJump.{ForwardJump}
use Rattle.al_code.specs.declared.piece.Target.{Target}
use Rattle.al_code.specs.declared.piece.Construct.{Construct}
use Rattle.al_code.specs.Targets.{outside}
use Rattle.al_code.specs.Pieces.{Piece, piece_size, bytes_of, uses_from, defines_from, leaves_from, lines_from}

-- the bytes, the places at which symbols are used and defined, the jumps that wait for their ends, and the places at which lines begin
pub record Buffer : Type 0 where
  pub code : List ℕ
  pub uses : List Relocation
  pub defines : List Address
  pub leaving : List ForwardJump
  pub lines : List LineEntry

abbrev pub empty : Buffer
empty = record { code = []; uses = []; defines = []; leaving = []; lines = [] }

-- a buffer with the pieces at its end
abbrev pub grown : Buffer → List Piece → Buffer
grown b ps = record {
  code = b.code ++ bytes_of ps;
  uses = b.uses ++ uses_from (length b.code) ps;
  defines = b.defines ++ defines_from (length b.code) ps;
  leaving = b.leaving ++ leaves_from (length b.code) ps;
  lines = b.lines ++ lines_from (length b.code) ps;
}

-- a buffer with one piece at its end, if the code passes no limit; none if it did
unfoldable pub with_piece : Option Buffer → Piece → Option Buffer
with_piece None x = None
with_piece (Some b) x = if nat_le (length b.code + piece_size x) 16777216 then Some (grown b (x ∷ [])) else None

unfoldable pub written : Option Buffer → List Piece → Option Buffer
written w [] = w
written w (x ∷ xs) = written (with_piece w x) xs

-- the jump at a place leads to another
unfoldable pub with_jump : List ℕ → ℕ → ℕ → List ℕ
with_jump code place to =
    if nat_le (place + 5) (length code) then take (place + 1) code ++ (jump_bytes (pos (to - (place + 5))) ++ drop (place + 5) code) else code

-- the jumps to the end of the construct are filled in
abbrev pub all_filled : Construct → ℕ → List ℕ → List ForwardJump → List ℕ
all_filled c end code [] = code
all_filled c end code (l ∷ ls) = all_filled c end (if is_none (outside c l.target) then with_jump code l.place end else code) ls

-- the jumps that leave the construct
abbrev pub leave_or : Option Target → ℕ → List ForwardJump
leave_or None place = []
leave_or (Some t) place = record { place = place; target = t } ∷ []

abbrev pub leaves_outside : Construct → List ForwardJump → List ForwardJump
leaves_outside c ls = flat_map (λ l. leave_or (outside c l.target) l.place) ls

-- a construct ends, with the jumps from this one on
unfoldable pub ended : Option Buffer → ℕ → Construct → Option Buffer
ended None first c = None
ended (Some b) first c = Some (record b {
  code = all_filled c (length b.code) b.code (drop first b.leaving);
  leaving = take first b.leaving ++ leaves_outside c (drop first b.leaving);
})

-- the length of the code, if it doesn't pass the limit
abbrev pub EndsAt : Option Buffer → ℕ → Type 0
EndsAt w place = IfSome w (λ b. place ≡ length b.code)

-- the number of jumps that wait, if the code doesn't pass the limit
abbrev pub WaitsAt : Option Buffer → ℕ → Type 0
WaitsAt w first = IfSome w (λ b. first ≡ length b.leaving)
