-- What the predefined units answer.
use Rattle.std.proofs.Common.{◌≡◌, true, refl}
use Rattle.std.specs.List.{Contains, list_all}
use Rattle.al_base_graph.proofs.Members.{nowhere}
use Rattle.al_view.specs.ViewUses.{view_uses}
use Rattle.al_view.specs.declared.link.LinkSymbol.{LinkSymbol}
use Rattle.al_view.specs.declared.view.ViewKind.TheVariants.{OfPackage}
use Rattle.al_query.specs.Answers.{units_named}
use Rattle.al_query.specs.Known.{has_unit, predefined_units}
use Rattle.al_query.specs.Queries.{unit_of}
use Rattle.al_query.specs.declared.query.Property.TheVariants as property
use Rattle.al_query.specs.declared.query.Query.{Query}
use Rattle.al_query.specs.declared.query.Query.TheVariants.{Named, Of}
use Rattle.al_query_outcome.specs.ReadsLaw.{answer_uses}
use Rattle.al_engine_refresh.specs.Settings.{ArePredefined}
use Rattle.al_engine_toy.specs.Outcomes.{own_symbol, predefined_answer}

closed : (q : Query) → has_unit predefined_units (unit_of q) ≡ true → list_all (has_unit predefined_units) (units_named (predefined_answer q)) ≡ true
unfolding units_named
closed (Of unit property.Kind) h = refl
closed (Of unit property.Parent) h = refl
closed (Of unit property.IsPrivate) h = refl
closed (Of unit property.Context) h = refl
closed (Of unit property.NeedsBody) h = refl
closed (Of unit property.Completions) h = refl
closed (Named unit part name) h = refl

uncoded : (q : Query) (x : LinkSymbol) → has_unit predefined_units (unit_of q) ≡ true → Contains (answer_uses (predefined_answer q)) x → ⊥
unfolding answer_uses view_uses
uncoded (Of unit property.Kind) x h c = nowhere x c
uncoded (Of unit property.Parent) x h c = nowhere x c
uncoded (Of unit property.IsPrivate) x h c = nowhere x c
uncoded (Of unit property.Context) x h c = nowhere x c
uncoded (Of unit property.NeedsBody) x h c = nowhere x c
uncoded (Of unit property.Completions) x h c = nowhere x c
uncoded (Named unit part name) x h c = nowhere x c

pub are_predefined : ArePredefined predefined_answer
are_predefined = record { packages = λ u h. (OfPackage (own_symbol u), refl); closed = closed; uncoded = uncoded }
