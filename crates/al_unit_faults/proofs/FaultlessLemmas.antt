-- Which units the lists of faultless and of reachable units have.
use Rattle.std.proofs.Common.{◌≡◌, ℕ, ◌⊎◌, inl, inr, Bool, true, false, not, ◌&&◌, List, [], ◌∷◌, map, Option, Some, None, if◌then◌else◌, refl, ap, subst, sym, ◌∙◌}
use Rattle.std.specs.Option.{is_some, is_none, option_map, option_map_or}
use Rattle.std.specs.List.{Contains, flat_map, list_any}
use Rattle.std.specs.Map.{keys_of}
use Rattle.al_base.specs.Batch.{Finding, Key}
use Rattle.al_base.specs.FileNames.{file_name_of}
use Rattle.al_base_graph.proofs.Members.{nowhere, first, one, the_one, from_flat_map, into_flat_map, any_from, any_into}
use Rattle.al_unit_graph.specs.Headers.{Header, Headed, Source, Library, key_of_unit}
use Rattle.al_unit_graph.specs.Library.{source_at, unit_in, unit_at, is_unit}
use Rattle.al_unit_graph.specs.Dependence.{listed, DependsOn}
use Rattle.al_unit_graph.specs.Faults.{Breaks, Misnames}
use Rattle.al_unit_graph.specs.Needed.{ListsUnits}
use Rattle.al_unit_graph.specs.Orders.{key_cmp, in_order}
use Rattle.al_unit_graph.proofs.BoolLemmas.{not_both, both, and}
use Rattle.al_unit_graph.proofs.Lists.{from_map, into_map, map_twice}
use Rattle.al_unit_graph.proofs.OrderLemmas.{from_in_order, into_in_order, in_order_ascends}
use Rattle.al_unit_faults.specs.GraphFaults.{file_faults}
use Rattle.al_unit_faults.specs.Laws.{IsFaultOf}
use Rattle.al_unit_faults.specs.Laws.IsFaultOf.{misnamed, broken}
use Rattle.al_unit_faults.specs.Cycles.{all_dependences}
use Rattle.al_unit_faults.specs.Dependents.{is_unfit, depends_on_unfit, depends, is_dependent, TellsDependents}
use Rattle.al_unit_faults.specs.declared.dependents.Dependents.{Dependents}
use Rattle.al_unit_faults.proofs.UnitLemmas.{in_file, at_key, at_own_key, among_files}
use Rattle.al_unit_faults.proofs.LawLemmas.{file_faults_are_broken}
use Rattle.al_unit_faults.proofs.CycleLemmas.{dependences_are_all}
use Rattle.al_unit_faults.specs.Reached.{is_none_found, has_fault, is_faultless, IsReachable, AreFaultsOf}
use Rattle.al_unit_faults.specs.Steps.{faultless_in, reachable_in}

some_there : {X : Type 0} (o : Option X) → is_some o ≡ true → (x : X) × (o ≡ Some x)
some_there None is = absurd (cc)
some_there (Some x) is = (x, refl)

none_there : (fs : List Finding) → is_none_found fs ≡ true → fs ≡ []
none_there [] is = refl
none_there (f ∷ fs) is = absurd (cc)

-- what a faultless unit is
pub record IsSoundUnit (lib : Library) (key : Key) : Type 0 where
  pub unit : Header
  pub at : unit_at lib key ≡ Some unit
  pub no_fault : file_faults lib (file_name_of key) ≡ []

pub from_faultless : (lib : Library) (key : Key) → is_faultless lib key ≡ true → IsSoundUnit lib key
unfolding is_faultless
from_faultless lib key is =
    let parts = both (is_unit lib key) (is_none_found (file_faults lib (file_name_of key))) is in
    let h = some_there (unit_at lib key) parts.0 in
    record { unit = h.0; at = h.1; no_fault = none_there (file_faults lib (file_name_of key)) parts.1 }

pub into_faultless : (lib : Library) (key : Key) (h : Header) → unit_at lib key ≡ Some h → is_none_found (file_faults lib (file_name_of key)) ≡ true → is_faultless lib key ≡ true
unfolding is_faultless
into_faultless lib key h at none = and (is_unit lib key) (is_none_found (file_faults lib (file_name_of key))) (ap is_some at) none

pub faultless_is_unit : (lib : Library) (key : Key) → is_faultless lib key ≡ true → is_unit lib key ≡ true
unfolding is_faultless
faultless_is_unit lib key is = (both (is_unit lib key) (is_none_found (file_faults lib (file_name_of key))) is).0

-- it breaks no rule
pub breaks_nothing : (lib : Library) (key : Key) (h : Header) (f : Finding) → is_faultless lib key ≡ true → unit_at lib key ≡ Some h → Breaks lib (file_name_of key) h f → ⊥
breaks_nothing lib key h f is at b =
    let s = from_faultless lib key is in
    let file = file_name_of key in
    let held = in_file lib file h (at_key lib key h at).0 in
    let none : (g : Finding) → IsFaultOf lib file g → ⊥ = λ g fault. nowhere g (subst (λ fs. Contains fs g) s.no_fault ((file_faults_are_broken lib file g).1 fault)) in
    none f (broken held.there held.headed (λ g m. none g (misnamed held.there held.headed m)) b)

-- the unit of a file
from_listed : (o : Option Header) (y : Key) → Contains (listed (option_map key_of_unit o)) y → (h : Header) × (o ≡ Some h) × (key_of_unit h ≡ y)
from_listed None y c = absurd (nowhere y c)
from_listed (Some h) y c = (h, refl, the_one (key_of_unit h) y c)

from_choice : (b : Bool) (ks : List Key) (y : Key) → Contains (if b then ks else []) y → (b ≡ true) × Contains ks y
from_choice true ks y c = (refl, c)
from_choice false ks y c = absurd (nowhere y c)

from_other : (b : Bool) (ks : List Key) (y : Key) → Contains (if b then [] else ks) y → (b ≡ false) × Contains ks y
from_other true ks y c = absurd (nowhere y c)
from_other false ks y c = (refl, c)

abbrev with_faults : Library → List ℕ → List ℕ × List Finding
with_faults lib file = (file, file_faults lib file)

from_in : (lib : Library) (file : List ℕ) (y : Key) → Contains (faultless_in lib (with_faults lib file)) y → (is_faultless lib y ≡ true) × (file ≡ file_name_of y)
from_in lib file y c =
    let r = from_choice (is_none_found (file_faults lib file)) (listed (option_map key_of_unit (unit_in lib file))) y c in
    let u = from_listed (unit_in lib file) y r.1 in
    let named : file ≡ file_name_of y = (in_file lib file u.0 u.1).named ∙ ap file_name_of u.2 in
    let at : unit_at lib y ≡ Some u.0 = subst (λ k. unit_at lib k ≡ Some u.0) u.2 (at_own_key lib file u.0 u.1) in
    (into_faultless lib y u.0 at (subst (λ f. is_none_found (file_faults lib f) ≡ true) named r.0), named)

into_in : (lib : Library) (y : Key) → is_faultless lib y ≡ true → Contains (faultless_in lib (with_faults lib (file_name_of y))) y
into_in lib y is =
    let s = from_faultless lib y is in
    let r = at_key lib y s.unit s.at in
    let c : Contains (listed (option_map key_of_unit (unit_in lib (file_name_of y)))) y = subst (λ o. Contains (listed (option_map key_of_unit o)) y) (sym r.0) (subst (λ k. Contains (key_of_unit s.unit ∷ []) k) r.1 (one (key_of_unit s.unit))) in
    let none : is_none_found (file_faults lib (file_name_of y)) ≡ true = ap is_none_found s.no_fault in
    rw none c

into_file : (lib : Library) (y : Key) → is_faultless lib y ≡ true → Contains (keys_of lib) (file_name_of y)
into_file lib y is =
    let s = from_faultless lib y is in
    let held = in_file lib (file_name_of y) s.unit (at_key lib y s.unit s.at).0 in
    let e = among_files lib (file_name_of y) held.source held.there in
    subst (λ f. Contains (keys_of lib) f) (sym e.2) (into_map (λ (p : List ℕ × Source). p.0) lib e.0 e.1)

abbrev all_files : Library → List (List ℕ × List Finding)
all_files lib = map (λ file. (file, file_faults lib file)) (keys_of lib)

-- the faultless units
pub lists_faultless : (lib : Library) (faults : List (List ℕ × List Finding)) (keys : List Key) → AreFaultsOf lib faults → keys ≡ in_order (flat_map (faultless_in lib) faults) → ListsUnits lib keys (λ y. is_faultless lib y ≡ true)
lists_faultless lib faults keys are is =
    let found = flat_map (faultless_in lib) faults in
    let R : List Key → Type 0 = λ ks. ListsUnits lib ks (λ y. is_faultless lib y ≡ true) in
    let same : found ≡ flat_map (faultless_in lib) (all_files lib) = ap (flat_map (faultless_in lib)) are in
    subst R (sym is) (record {
      ascend = in_order_ascends found;
      all = λ y. (
        (λ c.
            let d = subst (λ ks. Contains ks y) same (from_in_order found y c) in
            let e = from_flat_map (faultless_in lib) (all_files lib) y d in
            let m = from_map (with_faults lib) (keys_of lib) e.0 e.1 in
            let f = from_in lib m.0 y (subst (λ p. Contains (faultless_in lib p) y) (sym m.2) e.2) in
            (f.0, faultless_is_unit lib y f.0)),
        (λ p.
            let c = into_flat_map (faultless_in lib) (all_files lib) (with_faults lib (file_name_of y)) y (into_map (with_faults lib) (keys_of lib) (file_name_of y) (into_file lib y p.0)) (into_in lib y p.0) in
            into_in_order found y (subst (λ ks. Contains ks y) (sym same) c)),
      );
    })

-- the reachable units
abbrev pub marked : Library → List ℕ → Bool
marked lib file = has_fault (file, file_faults lib file)

not_marked : (fs : List Finding) (file : List ℕ) → has_fault (file, fs) ≡ false → is_none_found fs ≡ true
not_marked [] file is = refl
not_marked (f ∷ fs) file is = absurd (cc)

unmarked : (fs : List Finding) (file : List ℕ) → fs ≡ [] → has_fault (file, fs) ≡ false
unmarked fs file is = ap (λ gs. has_fault (file, gs)) is

fit_by : (lib : Library) (d : Key) (o : Option Header) (b : Bool) → unit_at lib d ≡ o → marked lib (file_name_of d) ≡ b → is_unfit lib (marked lib) d ≡ false → is_faultless lib d ≡ true
fit_by lib d None b at m is = let no : is_unfit lib (marked lib) d ≡ true = rw at refl in absurd (not_both (is_unfit lib (marked lib) d) no is)
fit_by lib d (Some h) true at m is = let no : is_unfit lib (marked lib) d ≡ true = rw at (rw m refl) in absurd (not_both (is_unfit lib (marked lib) d) no is)
fit_by lib d (Some h) false at m is = into_faultless lib d h at (not_marked (file_faults lib (file_name_of d)) (file_name_of d) m)

fit_is_faultless : (lib : Library) (d : Key) → is_unfit lib (marked lib) d ≡ false → is_faultless lib d ≡ true
fit_is_faultless lib d is = fit_by lib d (unit_at lib d) (marked lib (file_name_of d)) refl refl is

faultless_is_fit : (lib : Library) (d : Key) → is_faultless lib d ≡ true → is_unfit lib (marked lib) d ≡ false
faultless_is_fit lib d is =
    let s = from_faultless lib d is in
    let at = s.at in
    let m = unmarked (file_faults lib (file_name_of d)) (file_name_of d) s.no_fault in
    rw at m

true_or_false : (b : Bool) → (b ≡ true) ⊎ (b ≡ false)
true_or_false true = inl refl
true_or_false false = inr refl

rests_on_faultless : (lib : Library) (y : Key) → depends_on_unfit lib (marked lib) y ≡ false → (d : Key) → DependsOn lib y d → is_faultless lib d ≡ true
rests_on_faultless lib y is d on =
    elim (true_or_false (is_unfit lib (marked lib) d)) [
      | inl unfit ↦ absurd (not_both (depends_on_unfit lib (marked lib) y) (any_into (is_unfit lib (marked lib)) (all_dependences lib y) d ((dependences_are_all lib y d).1 on) unfit) is)
      | inr fit ↦ fit_is_faultless lib d fit
    ]

rests_not_unfit : (lib : Library) (y : Key) → ((d : Key) → DependsOn lib y d → is_faultless lib d ≡ true) → depends_on_unfit lib (marked lib) y ≡ false
rests_not_unfit lib y rests =
    elim (true_or_false (depends_on_unfit lib (marked lib) y)) [
      | inl unfit ↦
          let a = any_from (is_unfit lib (marked lib)) (all_dependences lib y) unfit in
          absurd (not_both (is_unfit lib (marked lib) a.0) a.2 (faultless_is_fit lib a.0 (rests a.0 ((dependences_are_all lib y a.0).0 a.1))))
      | inr fit ↦ fit
    ]

dependent_at : (lib : Library) (y : Key) (h : Header) → unit_at lib y ≡ Some h → is_dependent lib (marked lib) (file_name_of y) ≡ depends_on_unfit lib (marked lib) y
dependent_at lib y h at =
    let r = at_key lib y h at in
    ap (λ o. option_map_or (λ u. depends_on_unfit lib (marked lib) (key_of_unit u)) o false) r.0 ∙ ap (depends_on_unfit lib (marked lib)) r.1

module _ (lib : Library) (dependents : Dependents) (tells : TellsDependents lib (marked lib) dependents) where
  depends_at : (y : Key) (h : Header) → unit_at lib y ≡ Some h → depends dependents (file_name_of y) ≡ depends_on_unfit lib (marked lib) y
  depends_at y h at = tells (file_name_of y) ∙ dependent_at lib y h at

  from_reached : (file : List ℕ) (y : Key) → Contains (reachable_in lib dependents (with_faults lib file)) y → IsReachable lib y
  from_reached file y c =
      let r = from_other (depends dependents file) (faultless_in lib (with_faults lib file)) y c in
      let f = from_in lib file y r.1 in
      let s = from_faultless lib y f.0 in
      let none : depends_on_unfit lib (marked lib) y ≡ false = sym (depends_at y s.unit s.at) ∙ ap (depends dependents) (sym f.1) ∙ r.0 in
      record { faultless = f.0; rests = rests_on_faultless lib y none }

  into_reached : (y : Key) → IsReachable lib y → Contains (reachable_in lib dependents (with_faults lib (file_name_of y))) y
  into_reached y is =
      let s = from_faultless lib y is.faultless in
      let none : depends dependents (file_name_of y) ≡ false = depends_at y s.unit s.at ∙ rests_not_unfit lib y is.rests in
      rw none (into_in lib y is.faultless)

  pub lists_reachable : (faults : List (List ℕ × List Finding)) (keys : List Key) → AreFaultsOf lib faults → keys ≡ in_order (flat_map (reachable_in lib dependents) faults) → ListsUnits lib keys (IsReachable lib)
  lists_reachable faults keys are is =
      let found = flat_map (reachable_in lib dependents) faults in
      let R : List Key → Type 0 = λ ks. ListsUnits lib ks (IsReachable lib) in
      let same : found ≡ flat_map (reachable_in lib dependents) (all_files lib) = ap (flat_map (reachable_in lib dependents)) are in
      subst R (sym is) (record {
        ascend = in_order_ascends found;
        all = λ y. (
          (λ c.
              let d = subst (λ ks. Contains ks y) same (from_in_order found y c) in
              let e = from_flat_map (reachable_in lib dependents) (all_files lib) y d in
              let m = from_map (with_faults lib) (keys_of lib) e.0 e.1 in
              let f = from_reached m.0 y (subst (λ p. Contains (reachable_in lib dependents p) y) (sym m.2) e.2) in
              (f, faultless_is_unit lib y f.faultless)),
          (λ p.
              let c = into_flat_map (reachable_in lib dependents) (all_files lib) (with_faults lib (file_name_of y)) y (into_map (with_faults lib) (keys_of lib) (file_name_of y) (into_file lib y p.0.faultless)) (into_reached y p.0) in
              into_in_order found y (subst (λ ks. Contains ks y) (sym same) c)),
        );
      })

pub flags_marked : (lib : Library) (faults : List (List ℕ × List Finding)) → AreFaultsOf lib faults → map has_fault faults ≡ map (λ file. has_fault (file, file_faults lib file)) (keys_of lib)
flags_marked lib faults are = ap (map has_fault) are ∙ sym (map_twice has_fault (with_faults lib) (keys_of lib))
