-- The computed traces are the traces.
use Rattle.std.proofs.Common.{◌≡◌, ℕ, Bool, true, false, not, ◌||◌, List, [], ◌∷◌, ◌⊎◌, inl, inr, ◌↔◌, Option, Some, None, refl, ap, subst, sym, ◌∙◌}
use Rattle.std.specs.Bool.{Decides}
use Rattle.std.specs.Option.{is_none, option_map_or}
use Rattle.std.specs.List.{Contains}
use Rattle.std.specs.Map.{keys_of}
use Rattle.std.specs.Str.{bytes_eq}
use Rattle.std.proofs.lemmas.Slice.Eq.{bytes_eq-Decides}
use Rattle.al_base.specs.Batch.{Key}
use Rattle.al_base.specs.FileNames.{file_name_of}
use Rattle.al_base_graph.specs.Closing.{Reached, BeginsAt, is_among}
use Rattle.al_base_graph.proofs.ClosingLemmas.{closing_reached}
use Rattle.al_base_graph.proofs.Members.{nowhere, or, any_from, any_into}
use Rattle.al_unit_graph.specs.Headers.{Header, Library}
use Rattle.al_unit_graph.specs.Library.{unit_in, unit_at}
use Rattle.al_unit_graph.specs.Traces.{text_at, is_same_text, wanted_files, wants, Meets, InTrace, HasSameTrace}
use Rattle.al_unit_graph.proofs.BoolLemmas.{both, and}
use Rattle.al_unit_graph.proofs.MeetLemmas.{meets_reached}
use Rattle.al_unit_graph.proofs.ObsoleteLemmas.{same_text, told_text}
use Rattle.al_unit_faults.specs.Obsolete.{met, trace, is_same_pair, is_within, is_same_trace, is_obsolete}
use Rattle.al_unit_graph.proofs.Lists.{from_map, into_map, from_all, into_all}
use Rattle.al_unit_faults.proofs.ObsoleteUnitLemmas.{file_there, source_of_unit}

module _ (lib : Library) where
  wants_by : (x y : List ℕ) (o : Option Header) → unit_in lib x ≡ o → Contains (option_map_or (wanted_files lib) o []) y → Contains (keys_of lib) x
  wants_by x y None is c = absurd (nowhere y c)
  wants_by x y (Some h) is c = let s = source_of_unit lib x h is in file_there lib x s.0 s.1

  -- a file that isn't there wants nothing
  pub wants_begin : BeginsAt (wants lib) (keys_of lib)
  wants_begin x y c = wants_by x y (unit_in lib x) refl c

  pub met_reached : (file y : List ℕ) → Contains (met lib file) y ↔ Reached (wants lib) (file ∷ []) y
  unfolding met
  met_reached file y = closing_reached bytes_eq (wants lib) (keys_of lib) (file ∷ []) bytes_eq-Decides wants_begin y

  pub met_meets : (file y : List ℕ) → Contains (met lib file) y ↔ Meets lib file y
  met_meets file y =
      let r = met_reached file y in
      let m = meets_reached lib file y in
      ((λ c. m.0 (r.0 c)), (λ c. r.1 (m.1 c)))

  from_trace : (file : List ℕ) (pair : List ℕ × Option (List ℕ)) → Contains (trace lib file) pair → InTrace lib file pair
  from_trace file pair c =
      let r = from_map (λ f. (f, text_at lib f)) (met lib file) pair c in
      subst (λ p. InTrace lib file p) r.2 ((met_meets file r.0).0 r.1, refl)

  into_trace : (file : List ℕ) (pair : List ℕ × Option (List ℕ)) → InTrace lib file pair → Contains (trace lib file) pair
  into_trace file pair t =
      let P : Option (List ℕ) → List ℕ × Option (List ℕ) = λ text. (pair.0, text) in
      subst (λ p. Contains (trace lib file) p) (ap P t.1) (into_map (λ f. (f, text_at lib f)) (met lib file) pair.0 ((met_meets file pair.0).1 t.0))

same_pair : (a b : List ℕ × Option (List ℕ)) → is_same_pair a b ≡ true → a ≡ b
same_pair a b is =
    let parts = both (bytes_eq a.0 b.0) (is_same_text a.1 b.1) is in
    let P : List ℕ → List ℕ × Option (List ℕ) = λ f. (f, a.1) in
    let Q : Option (List ℕ) → List ℕ × Option (List ℕ) = λ t. (b.0, t) in
    ap P ((bytes_eq-Decides a.0 b.0).0 parts.0) ∙ ap Q (same_text a.1 b.1 parts.1)

told_pair : (a : List ℕ × Option (List ℕ)) → is_same_pair a a ≡ true
told_pair a = and (bytes_eq a.0 a.0) (is_same_text a.1 a.1) ((bytes_eq-Decides a.0 a.0).1 refl) (told_text a.1 a.1 refl)

from_within : (xs ys : List (List ℕ × Option (List ℕ))) → is_within xs ys ≡ true → (p : List ℕ × Option (List ℕ)) → Contains xs p → Contains ys p
from_within xs ys is p c =
    let r = any_from (is_same_pair p) ys (from_all (λ x. is_among is_same_pair x ys) xs p c is) in
    subst (λ q. Contains ys q) (sym (same_pair p r.0 r.2)) r.1

into_within : (xs ys : List (List ℕ × Option (List ℕ))) → ((p : List ℕ × Option (List ℕ)) → Contains xs p → Contains ys p) → is_within xs ys ≡ true
into_within xs ys each = into_all (λ x. is_among is_same_pair x ys) xs (λ p c. any_into (is_same_pair p) ys p (each p c) (told_pair p))

-- the test of traces tells whether they are the same
pub same_trace_decided : (old new : Library) (file : List ℕ) → Decides (is_same_trace old new file) (HasSameTrace old new file)
unfolding is_same_trace
same_trace_decided old new file = (
  (λ is.
      let parts = both (is_within (trace old file) (trace new file)) (is_within (trace new file) (trace old file)) is in
      λ pair. (
        (λ t. from_trace new file pair (from_within (trace old file) (trace new file) parts.0 pair (into_trace old file pair t))),
        (λ t. from_trace old file pair (from_within (trace new file) (trace old file) parts.1 pair (into_trace new file pair t))),
      )),
  (λ same.
      and (is_within (trace old file) (trace new file)) (is_within (trace new file) (trace old file))
      (into_within (trace old file) (trace new file) (λ p c. into_trace new file p ((same p).0 (from_trace old file p c))))
      (into_within (trace new file) (trace old file) (λ p c. into_trace old file p ((same p).1 (from_trace new file p c))))),
)

-- one of the names
pub among_decided : (name : List ℕ) (names : List (List ℕ)) → Decides (is_among bytes_eq name names) (Contains names name)
among_decided name names = (
  (λ is. let r = any_from (bytes_eq name) names is in subst (λ v. Contains names v) (sym ((bytes_eq-Decides name r.0).0 r.2)) r.1),
  (λ c. any_into (bytes_eq name) names name c ((bytes_eq-Decides name name).1 refl)),
)

none_by : (o : Option Header) → is_none o ≡ true → o ≡ None
none_by None is = refl
none_by (Some h) is = absurd (cc)

module _ (old : Library) (faulty : List (List ℕ)) (new : Library) (key : Key) where
  abbrev file : List ℕ
  file = file_name_of key

  abbrev Differs : Type 0
  Differs = (unit_at old key ≡ None) ⊎ (Contains faulty file ⊎ (HasSameTrace old new file → ⊥))

  from_tests : (a b t : Bool) → is_none (unit_at old key) ≡ a → is_among bytes_eq file faulty ≡ b → is_same_trace old new file ≡ t → (a || (b || not t)) ≡ true → Differs
  from_tests true b t none among same is = inl (none_by (unit_at old key) none)
  from_tests false true t none among same is = inr (inl ((among_decided file faulty).0 among))
  from_tests false false true none among same is = absurd (cc)
  from_tests false false false none among same is = inr (inr (λ h. absurd (let e = sym same ∙ (same_trace_decided old new file).1 h in cc)))

  pub from_obsolete : is_obsolete old faulty new key ≡ true → Differs
  from_obsolete is = from_tests (is_none (unit_at old key)) (is_among bytes_eq file faulty) (is_same_trace old new file) refl refl refl is

  other_by : (t : Bool) → is_same_trace old new file ≡ t → (HasSameTrace old new file → ⊥) → not t ≡ true
  other_by true same other = absurd (other ((same_trace_decided old new file).0 same))
  other_by false same other = refl

  pub into_obsolete : Differs → is_obsolete old faulty new key ≡ true
  into_obsolete (inl none) = or (is_none (unit_at old key)) (is_among bytes_eq file faulty || not (is_same_trace old new file)) (inl (ap is_none none))
  into_obsolete (inr (inl among)) =
      or (is_none (unit_at old key)) (is_among bytes_eq file faulty || not (is_same_trace old new file))
      (inr (or (is_among bytes_eq file faulty) (not (is_same_trace old new file)) (inl ((among_decided file faulty).1 among))))
  into_obsolete (inr (inr other)) =
      or (is_none (unit_at old key)) (is_among bytes_eq file faulty || not (is_same_trace old new file))
      (inr (or (is_among bytes_eq file faulty) (not (is_same_trace old new file)) (inr (other_by (is_same_trace old new file) refl other))))
