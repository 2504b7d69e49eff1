use Rattle.std.proofs.Common.{◌≡◌, map}
use Rattle.std.specs.Prelude.{sum_by}
use Rattle.al_overload_values.specs.Puts.{text_read}
use Rattle.al_overload_values.specs.Seen.{pieces_model}
use Rattle.al_overload_values.specs.Worklists.{all_read, room}
use Rattle.al_overload.specs.TermViews.{term_model}
use Rattle.al_overload_values.proofs.put_text.read_text.Given as goal

abbrev pub invariant-loop-next : goal.invariant-loop-next
invariant-loop-next l =
    all_read l.labeller.predefined l.labeller.own (map (λ t. term_model t.now) l.waiting.items) (pieces_model l.pieces)
    ≡ text_read l.labeller.predefined l.labeller.own (term_model l.fn.term) (pieces_model l.initial.pieces)

abbrev pub decreases-loop-next : goal.decreases-loop-next
decreases-loop-next l = sum_by (λ t. room t.now) l.waiting.items
