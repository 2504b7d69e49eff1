-- Tests over sets that the code makes.
use Rattle.std.specs.Prelude.{Bool, ◌||◌, not}
use Rattle.al_view.specs.declared.link.LinkSymbol.{LinkSymbol}
use Rattle.al_query_outcome.specs.Left.{is_of_body}
use Rattle.al_check_promises.specs.Links.{has_link}
use Rattle.al_check_promises.specs.declared.completed.Completing.{Completing}
use Rattle.al_check_promises.specs.declared.tested.Declared.{Declared}

-- a link that is of a body is completed
unfoldable pub completes : Completing → LinkSymbol → Bool
completes c x = not (is_of_body x.kind) || has_link c.links x

-- a link that isn't of a body is in the set
unfoldable pub declares : Declared → LinkSymbol → Bool
declares d x = is_of_body x.kind || has_link d.links x
