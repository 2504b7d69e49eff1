-- The list of all that a unit depends on.
use Rattle.std.proofs.Common.{◌≡◌, [], Option, Some, None, refl, subst, sym}
use Rattle.std.specs.Option.{option_map, option_map_or}
use Rattle.std.specs.Bool.{Decides}
use Rattle.std.specs.List.{Contains}
use Rattle.al_base.specs.Batch.{Key}
use Rattle.al_base_graph.specs.Closing.{IsEquality, BeginsAt}
use Rattle.al_base_graph.proofs.Members.{nowhere, one, into_flat_map, any_from, any_into}
use Rattle.al_base_graph.proofs.ClosingLemmas.{closing_reached}
use Rattle.al_unit_graph.specs.Headers.{Header, Library, key_of_unit}
use Rattle.al_unit_graph.specs.Library.{unit_in, unit_at}
use Rattle.al_unit_graph.specs.Dependence.{listed, direct, dependences, DependsOn}
use Rattle.al_unit_graph.specs.Closures.{is_same_key}
use Rattle.al_unit_graph.proofs.ClosureLemmas.{same_key, depends_reached}
use Rattle.al_unit_faults.specs.Cycles.{unit_keys, all_dependences, depends_on_itself, DependencesAreAll}
use Rattle.al_unit_faults.proofs.UnitLemmas.{itself, told_same, in_file, at_key, among_files}

pub keys_are_equal : IsEquality is_same_key
keys_are_equal a b = (same_key a b, told_same a b)

-- what depends on something is a unit
has_unit : (lib : Library) (x y : Key) (o : Option Header) → unit_at lib x ≡ o → Contains (option_map_or (dependences lib) o []) y → (h : Header) × (unit_at lib x ≡ Some h)
has_unit lib x y None is c = absurd (nowhere y c)
has_unit lib x y (Some h) is c = (h, is)

pub depending_is_unit : (lib : Library) (x y : Key) → Contains (direct lib x) y → (h : Header) × (unit_at lib x ≡ Some h)
depending_is_unit lib x y c = has_unit lib x y (unit_at lib x) refl c

-- each unit stands in the list
unit_is_listed : (lib : Library) (x : Key) (h : Header) → unit_at lib x ≡ Some h → Contains (unit_keys lib) x
unit_is_listed lib x h is =
    let at = at_key lib x h is in
    let held = in_file lib _ h at.0 in
    let e = among_files lib _ held.source held.there in
    let here : unit_in lib e.0.0 ≡ Some h = subst (λ f. unit_in lib f ≡ Some h) e.2 at.0 in
    let c : Contains (listed (option_map key_of_unit (unit_in lib e.0.0))) x = subst (λ o. Contains (listed (option_map key_of_unit o)) x) (sym here) (subst (λ k. Contains (listed (Some (key_of_unit h))) k) at.1 (one (key_of_unit h))) in
    into_flat_map (λ e. listed (option_map key_of_unit (unit_in lib e.0))) lib e.0 x e.1 c

begins_at_units : (lib : Library) → BeginsAt (direct lib) (unit_keys lib)
begins_at_units lib x y c = let u = depending_is_unit lib x y c in unit_is_listed lib x u.0 u.1

pub dependences_are_all : DependencesAreAll
unfolding all_dependences
dependences_are_all lib key other =
    let r = closing_reached is_same_key (direct lib) (unit_keys lib) (direct lib key) keys_are_equal (begins_at_units lib) other in
    let d = depends_reached lib key other in
    ((λ c. d.0 (r.0 c)), (λ e. r.1 (d.1 e)))

pub itself_decided : (lib : Library) (key : Key) → Decides (depends_on_itself lib key) (DependsOn lib key key)
itself_decided lib key = (
  (λ is.
      let r = any_from (is_same_key key) (all_dependences lib key) is in
      (dependences_are_all lib key key).0 (subst (λ k. Contains (all_dependences lib key) k) (sym (same_key key r.0 r.2)) r.1)),
  (λ d. any_into (is_same_key key) (all_dependences lib key) key ((dependences_are_all lib key key).1 d) (itself key)),
)
