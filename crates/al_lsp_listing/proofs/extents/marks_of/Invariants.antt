use Rattle.std.proofs.Common.{◌≡◌, take}
use Rattle.al_lsp.specs.Positions.{spot_after}
use Rattle.al_lsp_listing.specs.Extents.{AreMarks}
use Rattle.al_lsp_listing.proofs.extents.marks_of.Given as goal

abbrev pub invariant-loop-i : goal.invariant-loop-i
invariant-loop-i l = record {
  spot : l.spot ≡ spot_after l.counting (take l.i l.text);
  marks : AreMarks l.counting l.text l.marks.items;
}
