-- What a name may mean where it stands, under the answers of a library (ARM 4.1.3, 8.2 to 8.4): all declarations of this list, and no other.
use Rattle.std.specs.Prelude.{◌≡◌, ◌↔◌, ℕ, List, Option, Some, None}
use Rattle.al_base.specs.declared.unit_key.UnitKey.{UnitKey}
use Rattle.al_overload_lookup.specs.Lookups.{selected_in}
use Rattle.al_query.specs.Reads.{Table}
use Rattle.al_scope.specs.Places.{Place}
use Rattle.al_scope.specs.Seen.{seen_at}
use Rattle.al_scope.specs.VisibleSet.{Has, IsVisible}
use Rattle.al_tree_syntax.specs.ExpressionTrees.{ExpressionTree, ExpressionTree as e, PartTree, PartTree as part}
use Rattle.al_view.specs.declared.view.ViewKind.{ViewKind}

-- an identifier: each declaration that is visible under it there, as the place sees it
abbrev pub MeansAlone : Table → Place → List ℕ → ViewKind → Type 0
MeansAlone t place name v = (d : ViewKind) × IsVisible t name place d × (seen_at t place d ≡ v)

-- what is selected in a declaration; nothing, if it is neither a package that is mentioned nor a construct round the place
abbrev pub IsAmong : Option (List ViewKind) → ViewKind → Type 0
IsAmong (Some views) v = Has views v
IsAmong None v = ⊥

-- a selector: each declaration that it selects in one that the name before it may mean
abbrev pub MeansAfter : Table → Place → List UnitKey → (ViewKind → Type 0) → PartTree → ViewKind → Type 0
MeansAfter t place packages before (part.Selector l) v = (d : ViewKind) × before d × IsAmong (selected_in t place packages l.text d) v
MeansAfter t place packages before (part.Arguments l first others) v = ⊥
MeansAfter t place packages before (part.Attribute l) v = ⊥
MeansAfter t place packages before part.RangeAttribute v = ⊥
MeansAfter t place packages before (part.Operand g) v = ⊥

-- a name of identifiers, if these packages are mentioned
abbrev pub Means : Table → Place → List UnitKey → ExpressionTree → ViewKind → Type 0
Means t place packages (e.Name l) = MeansAlone t place l.text
Means t place packages (e.Longer before p) = MeansAfter t place packages (Means t place packages before) p
Means t place packages (e.Number l) = λ v. ⊥
Means t place packages (e.Text l) = λ v. ⊥
Means t place packages (e.Prefixed operator operand) = λ v. ⊥
Means t place packages (e.Infix left operator right) = λ v. ⊥
Means t place packages (e.InMark left n mark) = λ v. ⊥
Means t place packages (e.InRange left n low high) = λ v. ⊥
Means t place packages (e.Group group) = λ v. ⊥

-- the list has all that the name may mean, and nothing else
abbrev pub AreMeant : Table → Place → List UnitKey → ExpressionTree → List ViewKind → Type 0
AreMeant t place packages x views = (v : ViewKind) → Has views v ↔ Means t place packages x v
