use Rattle.std.proofs.Common.{◌≡◌, ◌≤◌, take}
use Rattle.al_lsp.specs.Positions.{spot_after, position_at, is_within, last_where}
use Rattle.al_lsp.proofs.offset.offset_of.Given as goal

-- the spot after the bytes until here, and the best offset until here
abbrev pub invariant-loop-i : goal.invariant-loop-i
invariant-loop-i l = record {
  spot : l.spot ≡ spot_after l.counting (take l.i l.text);
  best : l.best ≡ last_where (λ offset. is_within (position_at l.counting l.text offset) l.position) l.i;
  within : l.best ≤ l.i;
}
