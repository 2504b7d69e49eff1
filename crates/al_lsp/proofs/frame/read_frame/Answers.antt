use Rattle.std.proofs.Common.{sym}
use Rattle.al_lsp.proofs.Frames.{frame_after}
use Rattle.al_lsp.proofs.frame.read_frame.Goals as goal

pub returns-in-Some : goal.returns-in-Some
returns-in-Some g c =
    let whole = rw c.in-Whole.is at c.in_ok-read_head.ensures in
    frame_after _ _ _ _ _ _ whole.0 (sym (rw c.as_slice.ensures.value at c.in-Some.ensures.value)) whole.1 c.read_body.ensures
