use Rattle.std.proofs.Common.{◌≡◌, ◌≤◌, ◌&&◌, filter, length, take}
use Rattle.std.specs.List.{list_any}
use Rattle.al_query_store.specs.Reads.{same_place}
use Rattle.al_query_store.specs.Marking.{IsMarked, IsSized, answer_at, is_of}
use Rattle.al_query_store.specs.Stored.{AreUntouched, SameBase}
use Rattle.al_query_store.proofs.marking.mark_places.Given as goal

abbrev pub invariant-loop-place : goal.invariant-loop-place
invariant-loop-place g l =
    IsSized g.E.Logged.log l.entries × AreUntouched l.entries l.touched.items × SameBase l.initial.entries l.entries
    × (l.compared ≤ l.place-index)
    × (l.compared ≡ length (filter (λ p. is_of l.unit (answer_at g.E.Logged.log l.initial.entries p)) (take l.place-index l.places)))
    × IsMarked g.E.Logged.log (g.A.Answers.table l.asked) (λ p. is_of l.unit (answer_at g.E.Logged.log l.initial.entries p) && list_any (same_place p) (take l.place-index l.places)) l.initial.entries l.entries
