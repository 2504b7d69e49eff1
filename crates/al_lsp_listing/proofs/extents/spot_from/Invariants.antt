use Rattle.std.proofs.Common.{◌≡◌, take, fold}
use Rattle.al_lsp.specs.Positions.{after_byte}
use Rattle.al_lsp_listing.proofs.extents.spot_from.Given as goal

abbrev pub invariant-loop-byte : goal.invariant-loop-byte
invariant-loop-byte l = l.spot ≡ fold (after_byte l.counting) l.fn.spot (take l.byte-index l.bytes)
