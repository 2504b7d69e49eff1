use Rattle.std.proofs.Common.{◌≡◌, ◌≤◌, None, IfSome, drop}
use Rattle.al_lsp.specs.Heads.{number_in}
use Rattle.al_lsp.proofs.head.number_in.Given as goal

abbrev pub invariant-loop-byte : goal.invariant-loop-byte
invariant-loop-byte l = record {
  value : number_in 67108864 None l.bytes ≡ number_in 67108864 l.so_far (drop l.byte-index l.bytes);
  small : IfSome l.so_far (λ n. n ≤ 67108864);
}
