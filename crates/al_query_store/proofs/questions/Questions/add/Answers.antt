use Rattle.std.proofs.Common.{◌≡◌, ◌||◌, ◌&&◌, ◌∙◌, sym, ap, refl, Some, None, [], List, Option, cond}
use Rattle.std.specs.BTreeSet.{BTreeSet}
use Rattle.std.specs.List.{list_any}
use Rattle.std.specs.Map.{lookup}
use Rattle.std.specs.Option.{option_map_or}
use Rattle.al_query.specs.Queries.{same_query}
use Rattle.al_query.specs.declared.query.Query.{Query}
use Rattle.al_query_store.specs.contracts.place.PlaceOrd.TheImpl.{cmp-value}
use Rattle.al_query_store.specs.declared.place.Place.{Place}
use Rattle.al_query_store.specs.Reads.{has, places_of, same_place}
use Rattle.al_query_store.proofs.PlaceLemmas.{inserted}
use Rattle.al_query_store.proofs.ReadLemmas.{has_none, has-added, has-kept, on_err}
use Rattle.al_query_store.proofs.questions.Questions.add.Goals as goal

pub returns-in_err-insert-clause-err : goal.returns-in_err-insert-clause-err
returns-in_err-insert-clause-err c =
    let es = c.self.inside.by_query.entries in
    let k = c.args.query.now in
    let w = c.get_mut.follows.holds c.insert.new.self in
    let there : lookup (same_query k) es ≡ Some c.in-Some.places.now = sym c.in-Some.ensures.value in
    let same : places_of es k ≡ c.insert.new.self.keys = ap (λ (o : Option (BTreeSet Place)). option_map_or (λ x. x.keys) o []) there ∙ sym c.in_err-insert.ensures.err in
    on_err c.from_residual.result (λ q p.
    has-kept es _ k q c.insert.new.self p ((w.3 (rw there refl)).0 q) same ∙ ap (λ (l : List (Query × BTreeSet Place)). has l q p) c.self.view_is)

pub returns-in-Some-clause-ok : goal.returns-in-Some-clause-ok
returns-in-Some-clause-ok c q p =
    let es = c.self.inside.by_query.entries in
    let k = c.args.query.now in
    let r = c.args.place in
    let w = c.get_mut.follows.holds c.insert.new.self in
    let there : lookup (same_query k) es ≡ Some c.in-Some.places.now = sym c.in-Some.ensures.value in
    let more = inserted cmp-value.it (λ a b. refl) c.in-Some.places.now.keys c.insert.new.self.keys r p (c.in_ok-insert.ensures.updates.0 p) in
    let old : list_any (same_place p) c.in-Some.places.now.keys ≡ has es k p = ap (λ (o : Option (BTreeSet Place)). list_any (same_place p) (option_map_or (λ x. x.keys) o [])) (sym there) in
    has-added es _ k q c.insert.new.self p ((w.3 (rw there refl)).0 q) r (more ∙ ap (λ b. b || same_place r p) old)
    ∙ ap (λ (l : List (Query × BTreeSet Place)). has l q p || (same_query k q && same_place r p)) c.self.view_is

pub returns-clause-ok : goal.returns-clause-ok
returns-clause-ok c q p =
    let es = c.self.inside.by_query.entries in
    let k = c.args.query.now in
    let r = c.args.place in
    let s = c.insert-2.new.self in
    let none : lookup (same_query k) es ≡ None = sym c.in_default.ensures.value in
    let entries = ap (λ m. m.entries) c.get_mut.follows.holds-at-none in
    let set : lookup (same_query q) c.insert-3.new.self.entries ≡ cond (same_query k q) (Some s) (lookup (same_query q) es) =
    c.in_ok-insert-3.ensures.updates.0 q
    ∙ ap (λ (x : Query). cond (same_query x q) (Some s) (lookup (same_query q) c.get_mut.follows.lender-at-none.entries)) c.in_ok-copy.ensures
    ∙ ap (λ (l : List (Query × BTreeSet Place)). cond (same_query k q) (Some s) (lookup (same_query q) l)) entries in
    let more : list_any (same_place p) s.keys ≡ (list_any (same_place p) c.new-places.result.keys || same_place r p) = inserted cmp-value.it (λ a b. refl) c.new-places.result.keys s.keys r p (c.in_ok-insert-2.ensures.updates.0 p) in
    let empty : list_any (same_place p) c.new-places.result.keys ≡ has es k p = ap (λ (l : List Place). list_any (same_place p) l) c.new-places.ensures.empty ∙ sym (has_none es k p none) in
    has-added es c.insert-3.new.self.entries k q s p set r (more ∙ ap (λ b. b || same_place r p) empty)
    ∙ ap (λ (l : List (Query × BTreeSet Place)). has l q p || (same_query k q && same_place r p)) c.self.view_is
