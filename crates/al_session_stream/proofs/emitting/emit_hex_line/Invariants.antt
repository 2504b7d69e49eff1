use Rattle.std.proofs.Common.{◌≡◌, ◌*◌, length, take}
use Rattle.std.specs.List.{flat_map}
use Rattle.al_session_stream.specs.Hexadecimal.{hex_of}
use Rattle.al_session_stream.proofs.emitting.emit_hex_line.Given as goal

-- the digits of so many bytes come first
abbrev pub invariant-loop-i : goal.invariant-loop-i
invariant-loop-i g l = record {
  size : length l.text ≡ 65;
  front : take (2 * l.i) l.text ≡ flat_map hex_of (take l.i l.bytes);
}
