use Rattle.std.proofs.Common.{◌≡◌, ◌≤◌, ◌+◌, ◌-◌, true, length, drop}
use Rattle.std.specs.List.{prefix_len}
use Rattle.al_base.specs.Identifiers.{is_word_byte}
use Rattle.al_lex.proofs.Underscores.{front, is_bad}
use Rattle.al_lex.proofs.words.word_len.Given as goal

abbrev pub invariant-loop-len : goal.invariant-loop-len
invariant-loop-len l = record {
  in_range : l.len ≤ length l.bytes;
  run : l.len + prefix_len is_word_byte (drop l.len l.bytes) ≡ prefix_len is_word_byte l.bytes;
  bad : is_bad l.begins (front (drop l.len l.bytes)) ≡ is_bad true (front l.bytes);
}

abbrev pub decreases-loop-len : goal.decreases-loop-len
decreases-loop-len l = length l.bytes - l.len
