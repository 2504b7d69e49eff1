-- What a unit is left to define, by answers: a body what its declaration leaves to it, a subunit what its stub stands for (ARM
-- 3.11.1, 10.1.3).
use Rattle.std.specs.Prelude.{ℕ, ◌+◌, Bool, true, false, List, [], ◌∷◌, length, drop, map, codes, Option, Some, None, is_some, if◌then◌else◌}
use Rattle.std.specs.List.{filter, flat_map}
use Rattle.std.specs.Option.{option_map_or}
use Rattle.al_base.specs.declared.unit_key.UnitKey.{UnitKey}
use Rattle.al_base.specs.declared.unit_key.UnitKind.{UnitKind}
use Rattle.al_base.specs.declared.unit_key.UnitKind.TheVariants.{Decl, Body, Sub}
use Rattle.al_unit_graph.specs.Names.{parent_of}
use Rattle.al_view.specs.ViewUses.{link, view_uses}
use Rattle.al_view.specs.declared.link.LinkKind.{LinkKind}
use Rattle.al_view.specs.declared.link.LinkKind.TheVariants as kind
use Rattle.al_view.specs.declared.link.LinkSymbol.{LinkSymbol}
use Rattle.al_view.specs.declared.part.Part.TheVariants.{Stub}
use Rattle.al_view.specs.declared.view.ViewKind.{ViewKind}
use Rattle.al_query.specs.Answers.{completions_of, declaration, own_view_of, views_of}
use Rattle.al_query.specs.Known.{body}
use Rattle.al_query.specs.Reads.{Table}
use Rattle.al_query.specs.declared.answer.AnswerKind.{AnswerKind}
use Rattle.al_query.specs.declared.query.Property.TheVariants.{Completions, Kind}
use Rattle.al_query.specs.declared.query.Query.TheVariants.{Named, Of}
use Rattle.al_query_outcome.specs.ReadsLaw.{subunit}

-- what a body defines for the linker; flags, words and protected objects are its declaration's
abbrev pub is_of_body : LinkKind → Bool
is_of_body kind.Code = true
is_of_body kind.Gate = true
is_of_body kind.EntryBody = true
is_of_body kind.Flag = false
is_of_body kind.Data = false
is_of_body kind.Protected = false

abbrev pub body_links : List LinkSymbol → List LinkSymbol
body_links xs = filter (λ x. is_of_body x.kind) xs

-- what the bodies of what is seen so define
abbrev pub views_links : List ViewKind → List LinkSymbol
views_links vs = body_links (flat_map view_uses vs)

-- the views in an answer to what must be completed, and what it leaves to the body
abbrev pub completed_views : AnswerKind → List ViewKind
completed_views a = map (λ c. c.view) (completions_of a)

abbrev pub left_by : AnswerKind → List LinkSymbol
left_by a = views_links (completed_views a)

-- what comes after the last dot of a unit's full name
abbrev pub last_of : List ℕ → List ℕ
last_of name = option_map_or (λ p. drop (length p + 1) name) (parent_of name) name

-- the code of the subprogram that a library unit is, if its own source declares it
abbrev pub own_code : UnitKey → LinkSymbol
own_code u = link kind.Code (record { unit = u; name = last_of u.name; number = 0 })

-- the body of that name, or else the subunit
abbrev pub body_named : Table → List ℕ → UnitKey
body_named t name = if is_some (own_view_of (t (Of (body name) Kind))) then body name else subunit name

abbrev pub first_view : List ViewKind → Option ViewKind
first_view [] = None
first_view (v ∷ vs) = Some v

-- the name under which what comes before a stub has the subprogram that the stub stands for: a reserved word, which no source can
-- name
abbrev pub separate : List ℕ
separate = codes "separate"

-- the subprogram that the stub of a subunit of that name stands for, in a body of this name
abbrev pub stub_view : Table → List ℕ → List ℕ → Option ViewKind
stub_view t name parent = first_view (views_of (t (Named (body_named t parent) (Stub (last_of name)) separate)))

-- the view, if there is one
abbrev pub one_view : Option ViewKind → List ViewKind
one_view None = []
one_view (Some v) = v ∷ []

-- what a unit of this kind and name must complete: a declaration nothing
abbrev pub views_left : UnitKind → List ℕ → Table → List ViewKind
views_left Decl name t = []
views_left Body name t = completed_views (t (Of (declaration name) Completions))
views_left Sub name t = option_map_or (λ p. one_view (stub_view t name p)) (parent_of name) []

abbrev pub left_to : UnitKey → Table → List LinkSymbol
left_to u t = views_links (views_left u.kind u.name t)
