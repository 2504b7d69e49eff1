use Rattle.std.proofs.Common.{◌≡◌, ◌∙◌, ◌++◌, [], ◌∷◌, ℕ, List, length, cond, Some, sym, ap, subst, arith}
use Rattle.std.specs.Map.{lookup}
use Rattle.std.specs.Str.{bytes_eq}
use Rattle.al_view.specs.declared.view.ViewKind.{ViewKind}
use Rattle.al_view.specs.Named.{Declarations, named_of}
use Rattle.al_view.specs.Interfaces.{with_view}
use Rattle.al_view.specs.Places.{ArePlaces, place_of}
use Rattle.al_view.proofs.PlaceLemmas.{as-many, last-view, named-last, places-last}
use Rattle.al_view.proofs.interface.Interface.declare_new.Goals as goal

pub invariant_of-self-in_default : goal.invariant_of-self-in_default
invariant_of-self-in_default c =
    let items = c.self.inside.names.items in
    let made = c.in_ok-made.made in
    let none = ap (λ (d : Declarations). place_of c.args.name.now d) c.self.view_is ∙ c.requires in
    let last = ap named_of c.in_ok-push.ensures.items ∙ named-last items made ∙ ap (λ (n : List ℕ). named_of items ++ (n, made.1) ∷ []) c.in_ok-made.ensures.name in
    let one = as-many items in
    let many : c.len-place.result ≡ length (named_of items) = omega (arith, one) in
    let found = λ (n : List ℕ). c.in_default.ensures.ok n ∙ ap (λ (k : ℕ). cond (bytes_eq n c.args.name.now) (Some k) (lookup (λ k. bytes_eq n k.items) c.self.inside.places.entries)) many in
    subst (λ (d : Declarations). ArePlaces c.put_place.new.places.entries d) (sym last)
    (places-last c.self.inside.places.entries c.put_place.new.places.entries (named_of items) c.args.name.now made.1 c.self.invariant none found)

pub returns-clause-ok : goal.returns-clause-ok
returns-clause-ok c =
    let items = c.self.inside.names.items in
    let made = c.in_ok-made.made in
    let none = ap (λ (d : Declarations). place_of c.args.name.now d) c.self.view_is ∙ c.requires in
    ap named_of c.in_ok-push.ensures.items ∙ named-last items made
    ∙ ap (λ (n : List ℕ). named_of items ++ (n, made.1) ∷ []) c.in_ok-made.ensures.name
    ∙ ap (λ (vs : List ViewKind). named_of items ++ (c.args.name.now, vs) ∷ []) c.in_ok-made.ensures.views
    ∙ sym (last-view (named_of items) c.args.name.now c.args.view none)
    ∙ ap (λ (d : Declarations). with_view d c.args.name.now c.args.view) c.self.view_is
