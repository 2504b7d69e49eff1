-- What use clauses open at a place, if these packages are mentioned: the names are looked up there, by a table of answers (ARM 8.4).
use Rattle.std.specs.Prelude.{ℕ, Bool, ◌||◌, List, [], ◌∷◌, ◌++◌, Option, Some, None, Result, Ok, Err, if◌then◌else◌}
use Rattle.al_base.specs.declared.place.Place.{Place as TextPlace}
use Rattle.al_base.specs.declared.unit_key.UnitKey.{UnitKey}
use Rattle.al_tree_grammar.specs.Grammar.{Label}
use Rattle.al_base_fault.specs.Judging.{next, map_ok}
use Rattle.al_base_fault.specs.declared.fault.Fault.{Fault}
use Rattle.al_overload_lookup.specs.Keys.{Denotations, denoted, dotted, is_none, not_visible}
use Rattle.al_overload_lookup.specs.Places.{place_of}
use Rattle.al_overload_lookup.specs.Lookups.{looked_up_all}
use Rattle.al_overload_lookup.specs.TextNames.{identifier_names}
use Rattle.al_query.specs.Known.{has_unit}
use Rattle.al_query.specs.Reads.{Table}
use Rattle.al_query.specs.declared.answer.UseClause.{UseClause}
use Rattle.al_query.specs.declared.answer.UseClause.TheVariants.{Package, «Type», Operators}
use Rattle.al_overload_readings.specs.Readings.{wrong_kind}
use Rattle.al_scope.specs.Places.{Place, is_declared_round}
use Rattle.al_scope.specs.declared.region.Region.{Region}
use Rattle.al_tree_syntax.specs.DeclarationTrees.{CompoundNameTree, CompoundNamesTree, UseTree}
use Rattle.al_overload_values.specs.CompoundNames.{name_text}
use Rattle.al_overload_values.specs.TermsAt.{mark_at}
use Rattle.al_scope.specs.UnitPlaces.{with_clauses}
use Rattle.al_unit_graph.specs.Names.{is_without_file}
use Rattle.al_view.specs.declared.symbol.Symbol.{Symbol}
use Rattle.al_view.specs.declared.view.SubtypeView.{SubtypeView}
use Rattle.al_view.specs.declared.view.ViewKind.{ViewKind}
use Rattle.al_view.specs.declared.view.ViewKind.TheVariants as views

-- what the names in a name of several identifiers denote
abbrev pub names_denoted : Table → Place → List UnitKey → CompoundNameTree → Denotations
names_denoted t place packages n = denoted (looked_up_all t place packages (identifier_names n.first n.selectors))

-- what is wrong with a selector, if the key is the name up to it: E404 at the name's first token if nothing is looked for after the name
-- before it, E401 if nothing is visible
abbrev pub selector_fault : Denotations → TextPlace → List ℕ → Label → Option Fault
selector_fault d p key l = if is_none (d.prefixes key) then Some (wrong_kind p) else if is_none (d.visible key) then Some (not_visible l) else None

abbrev pub unless_faulty : {X : Type 0} → Option Fault → Result X Fault → Result X Fault
unless_faulty None r = r
unless_faulty (Some f) r = Err f

-- the key of a name with these selectors after this key, if all of it is visible
abbrev pub visible_key : Denotations → TextPlace → List ℕ → List Label → Result (List ℕ) Fault
visible_key d p key [] = Ok key
visible_key d p key (l ∷ ls) = unless_faulty (selector_fault d p (dotted key l.text) l) (visible_key d p (dotted key l.text) ls)

-- the package under a name, if it is mentioned: nothing else is visible under it, as packages aren't overloaded
abbrev pub package_under : List UnitKey → TextPlace → List ViewKind → Result UnitKey Fault
package_under packages p [] = Err (wrong_kind p)
package_under packages p (views.OfPackage s ∷ vs) = if has_unit packages s.unit then Ok s.unit else Err (wrong_kind p)
package_under packages p (v ∷ vs) = Err (wrong_kind p)

-- the package that a name denotes, if these are mentioned
abbrev pub denoted_package : List UnitKey → Denotations → CompoundNameTree → Result UnitKey Fault
denoted_package packages d n =
    if is_none (d.visible n.first.text) then Err (not_visible n.first)
    else next (visible_key d (place_of n.first) n.first.text n.selectors) (λ key. package_under packages (place_of n.first) (d.visible key))

unfoldable pub package_at : Table → Place → List UnitKey → CompoundNameTree → Result UnitKey Fault
package_at t place packages n = denoted_package packages (names_denoted t place packages n) n

-- whether the operators of a type are looked for where it is declared: its package is mentioned, or predefined, or it is declared round the place
abbrev pub is_looked_for : Place → List UnitKey → Symbol → Bool
is_looked_for place packages s = (has_unit packages s.unit || is_without_file s.unit.name) || is_declared_round s place.regions

-- the operators of the type of a mark (ARM 8.4(4)): if they aren't looked for, those that its view has
abbrev pub type_opened : Place → List UnitKey → SubtypeView → UseClause
type_opened place packages s = if is_looked_for place packages s.subtype.base then «Type» s.subtype.base else Operators s.subtype.base s.types

abbrev pub package_opened : UnitKey → UseClause
package_opened u = Package u

-- what one name of a use clause opens: a package, or the operators of a type
abbrev pub opened_at : Table → Place → List UnitKey → Bool → CompoundNameTree → Result UseClause Fault
opened_at t place packages of_type n =
    if of_type then map_ok (type_opened place packages) (mark_at t place packages (name_text n)) else map_ok package_opened (package_at t place packages n)

-- with one more, if it is right
abbrev pub added : List UseClause → Result UseClause Fault → List UseClause
added done (Ok c) = done ++ c ∷ []
added done (Err f) = done

-- with what these names open; the first fault
abbrev pub opened_from : Table → Place → List UnitKey → Bool → List UseClause → List CompoundNameTree → Result (List UseClause) Fault
opened_from t place packages of_type done [] = Ok done
opened_from t place packages of_type done (n ∷ ns) = next (opened_at t place packages of_type n) (λ c. opened_from t place packages of_type (done ++ c ∷ []) ns)

abbrev pub all_names : CompoundNamesTree → List CompoundNameTree
all_names n = n.first ∷ n.others

-- what a use clause opens, each name looked up before the clause (ARM 8.4(6))
unfoldable pub uses_at : Table → Place → List UnitKey → UseTree → Result (List UseClause) Fault
uses_at t place packages u = opened_from t place packages u.of_type [] (all_names u.names)

-- the regions after it
abbrev pub used_in : Result (List UseClause) Fault → List Region → List Region
used_in (Ok cs) rs = with_clauses cs rs
used_in (Err f) rs = rs
