-- What is left to a unit for completion, asked within bounds.
use Rattle.std.specs.Prelude.{ℕ, Bool, true, ◌&&◌, List}
use Rattle.std.specs.Option.{option_map_or}
use Rattle.al_base.specs.declared.unit_key.UnitKind.{UnitKind}
use Rattle.al_base.specs.declared.unit_key.UnitKind.TheVariants.{Decl, Body, Sub}
use Rattle.al_unit_graph.specs.Headers.{Header}
use Rattle.al_unit_graph.specs.Names.{parent_of}
use Rattle.al_view.specs.declared.part.Part.TheVariants.{Stub}
use Rattle.al_query.specs.Answers.{declaration}
use Rattle.al_query.specs.Known.{body}
use Rattle.al_query.specs.Reads.{Table}
use Rattle.al_query.specs.declared.query.Property.TheVariants.{Completions, Kind}
use Rattle.al_query.specs.declared.query.Query.TheVariants.{Named, Of}
use Rattle.al_view_typed.specs.UnitTrees.{UnitTree}
use Rattle.al_query_outcome.specs.Left.{body_named, last_of, separate, views_left}
use Rattle.al_query_outcome.specs.declared.interface.UnitInterface.{UnitInterface}
use Rattle.al_check_bounded.specs.Bounding.{may_ask}
use Rattle.al_check_bounded.specs.declared.bounds.Bounds.{Bounds}
use Rattle.al_check_promises.specs.SelfChecks.{declares_itself, is_complete}

-- whether a subunit with this name may ask for the subprogram whose body its stub replaces, in a body with this name
abbrev pub learns_in : Bounds → List ℕ → List ℕ → Table → Bool
learns_in b parent name t = may_ask b (Of (body parent) Kind) && may_ask b (Named (body_named t parent) (Stub (last_of name)) separate)

-- whether a body may ask for what its declaration leaves to it, and a subunit for the subprogram whose body its stub replaces
abbrev pub learns_as : Bounds → UnitKind → List ℕ → Table → Bool
learns_as b Decl name t = true
learns_as b Body name t = may_ask b (Of (declaration name) Completions) && may_ask b (Of (declaration name) Kind)
learns_as b Sub name t = option_map_or (λ p. learns_in b p name t) (parent_of name) true

abbrev pub learns : Bounds → Table → Bool
learns b t = learns_as b b.unit.kind b.unit.name t

-- a unit without errors and with this header completes what it must by the answers of the table
unfoldable pub completed_by : Bounds → Header → UnitInterface → UnitTree → Table → Bool
completed_by b h i tree t = learns b t && is_complete b.unit h (views_left b.unit.kind b.unit.name t) (declares_itself b.unit t) i tree
