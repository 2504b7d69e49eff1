use Rattle.std.proofs.Common.{◌≡◌, ◌&&◌, not, ◌∙◌, sym, ap, refl, Some, [], List, Option}
use Rattle.std.specs.BTreeSet.{BTreeSet}
use Rattle.std.specs.List.{list_any}
use Rattle.std.specs.Map.{lookup}
use Rattle.std.specs.Option.{option_map_or}
use Rattle.al_query.specs.Queries.{same_query}
use Rattle.al_query.specs.declared.query.Query.{Query}
use Rattle.al_query_store.specs.contracts.place.PlaceOrd.TheImpl.{cmp-value}
use Rattle.al_query_store.specs.declared.place.Place.{Place}
use Rattle.al_query_store.specs.Reads.{has, same_place}
use Rattle.al_query_store.proofs.PlaceLemmas.{removed}
use Rattle.al_query_store.proofs.ReadLemmas.{has-removed, has_no_more}
use Rattle.al_query_store.proofs.questions.Questions.remove.Goals as goal

pub returns-in_default : goal.returns-in_default
returns-in_default c q p =
    let k = c.args.query.now in
    let r = c.args.place in
    let entries = ap (λ m. m.entries) c.get_mut.follows.holds-at-none ∙ c.self.view_is in
    ap (λ (l : List (Query × BTreeSet Place)). has l q p) entries
    ∙ has_no_more c.args.self.now k q p r (ap (λ (l : List (Query × BTreeSet Place)). lookup (same_query k) l) (sym c.self.view_is) ∙ sym c.in_default.ensures.value)

pub returns : goal.returns
returns c q p =
    let es = c.self.inside.by_query.entries in
    let k = c.args.query.now in
    let r = c.args.place in
    let w = c.get_mut.follows.holds c.remove-was.new.self in
    let there : lookup (same_query k) es ≡ Some c.in-Some.places.now = sym c.in-Some.ensures.value in
    let less = removed cmp-value.it (λ a b. refl) c.in-Some.places.now.keys c.remove-was.new.self.keys r p (c.remove-was.ensures.updates.0 p) in
    let old : list_any (same_place p) c.in-Some.places.now.keys ≡ has es k p = ap (λ (o : Option (BTreeSet Place)). list_any (same_place p) (option_map_or (λ x. x.keys) o [])) (sym there) in
    has-removed es _ k q c.remove-was.new.self p ((w.3 (rw there refl)).0 q) r (less ∙ ap (λ b. b && not (same_place r p)) old)
    ∙ ap (λ (l : List (Query × BTreeSet Place)). has l q p && not (same_query k q && same_place r p)) c.self.view_is
