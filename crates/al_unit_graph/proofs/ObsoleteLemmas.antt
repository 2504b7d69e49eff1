-- Whether a unit is obsolete, by tests.
use Rattle.std.proofs.Common.{◌≡◌, ℕ, Bool, true, false, not, ◌&&◌, ◌||◌, ◌⊎◌, inl, inr, ◌↔◌, List, Option, Some, None, refl, ap, subst, sym, ◌∙◌}
use Rattle.std.specs.Bool.{Decides}
use Rattle.std.specs.Option.{is_some}
use Rattle.std.specs.Str.{bytes_eq}
use Rattle.std.specs.List.{Contains, list_any}
use Rattle.std.proofs.lemmas.Slice.Eq.{bytes_eq-Decides}
use Rattle.al_base.specs.Batch.{Key}
use Rattle.al_base.specs.FileNames.{file_name_of}
use Rattle.al_unit_graph.specs.Headers.{Header, Library}
use Rattle.al_unit_graph.specs.Library.{unit_at}
use Rattle.al_unit_graph.specs.Traces.{text_at, is_same_text, is_changed, Meets, IsTouched, HasSameTrace, AreReadAlike, IsObsolete}
use Rattle.al_unit_graph.proofs.BoolLemmas.{not_both, not_true, not_so}
use Rattle.al_base_graph.proofs.Members.{or, any_from, any_into}
use Rattle.al_unit_graph.proofs.TraceLemmas.{traces_are_touched}
use Rattle.al_unit_graph.proofs.FaultLemmas.{any, told_any}

pub same_text : (x y : Option (List ℕ)) → is_same_text x y ≡ true → x ≡ y
same_text None None is = refl
same_text None (Some b) is = absurd (cc)
same_text (Some a) None is = absurd (cc)
same_text (Some a) (Some b) is = ap (λ t. Some t) ((bytes_eq-Decides a b).0 is)

itself : (x : Option (List ℕ)) → is_same_text x x ≡ true
itself None = refl
itself (Some a) = (bytes_eq-Decides a a).1 refl

pub told_text : (x y : Option (List ℕ)) → x ≡ y → is_same_text x y ≡ true
told_text x y same = subst (λ v. is_same_text x v ≡ true) same (itself x)

module _ (old new : Library) where
  pub touched_decided : (from : List ℕ) (files : List (List ℕ)) → ((y : List ℕ) → Contains files y ↔ Meets new from y) → Decides (list_any (is_changed old new) files) (IsTouched old new from)
  touched_decided from files met = (
    (λ any.
        let r = any_from (is_changed old new) files any in
        let fails = not_true (is_same_text (text_at old r.0) (text_at new r.0)) r.2 in
        (r.0, (met r.0).0 r.1, (λ same. not_both (is_same_text (text_at old r.0) (text_at new r.0)) (told_text (text_at old r.0) (text_at new r.0) same) fails))),
    (λ t. any_into (is_changed old new) files t.0 ((met t.0).1 t.1) (not_so (is_same_text (text_at old t.0) (text_at new t.0)) (λ holds. t.2 (same_text (text_at old t.0) (text_at new t.0) holds)))),
  )

  module _ (faulty : List (List ℕ)) (key : Key) (alike : AreReadAlike old new) where
    abbrev file : List ℕ
    file = file_name_of key

    abbrev Differs : Type 0
    Differs = (unit_at old key ≡ None) ⊎ (Contains faulty file ⊎ (HasSameTrace old new file → ⊥))

    was_by : (o : Option Header) (b : Bool) → unit_at old key ≡ o → b ≡ is_some o → (not b ≡ true → unit_at old key ≡ None) × (unit_at old key ≡ None → not b ≡ true)
    was_by None true is same = absurd (cc)
    was_by None false is same = ((λ fails. is), (λ e. refl))
    was_by (Some h) true is same = ((λ fails. absurd (cc)), (λ e. absurd (let f = sym is ∙ e in cc)))
    was_by (Some h) false is same = absurd (cc)

    from_tests : (b c t : Bool) → (not b ≡ true → unit_at old key ≡ None) → c ≡ list_any (λ n. bytes_eq n file) faulty → Decides t (IsTouched old new file) → (not b || (c || t)) ≡ true → Differs
    from_tests false c t was is touched any = inl (was refl)
    from_tests true true t was is touched holds = inr (inl (any faulty file (sym is)))
    from_tests true false true was is touched any = inr (inr (λ same. (traces_are_touched old new file alike).0 same (touched.0 refl)))
    from_tests true false false was is touched any = absurd (cc)

    into_tests : (b c t : Bool) → (unit_at old key ≡ None → not b ≡ true) → c ≡ list_any (λ n. bytes_eq n file) faulty → Decides t (IsTouched old new file) → Differs → (not b || (c || t)) ≡ true
    into_tests false c t was is touched d = refl
    into_tests true c t was is touched (inl gone) = absurd (let f = was gone in cc)
    into_tests true c t was is touched (inr (inl at)) = or c t (inl (is ∙ told_any faulty file at))
    into_tests true c true was is touched (inr (inr other)) = or c true (inr refl)
    into_tests true c false was is touched (inr (inr other)) =
        absurd (other ((traces_are_touched old new file alike).1 (λ t. let f = touched.1 t in cc)))

    decided_by : (n o : Option Header) (a b c t : Bool) → unit_at new key ≡ n → unit_at old key ≡ o → a ≡ is_some n → b ≡ is_some o → c ≡ list_any (λ n. bytes_eq n file) faulty → Decides t (IsTouched old new file) → Decides (a && (not b || (c || t))) (IsObsolete old faulty new key)
    decided_by None o true b c t is was e f g touched = absurd (cc)
    decided_by None o false b c t is was e f g touched = ((λ holds. absurd (cc)), (λ r. absurd (let f = sym is ∙ r.is_unit in cc)))
    decided_by (Some h) o false b c t is was e f g touched = absurd (cc)
    decided_by (Some h) o true b c t is was e f g touched = (
      (λ holds. record { unit = h; is_unit = is; differs = from_tests b c t (was_by o b was f).0 g touched holds }),
      (λ r. into_tests b c t (was_by o b was f).1 g touched r.differs),
    )

  pub obsolete_decided : (faulty : List (List ℕ)) (key : Key) (a b c t : Bool) → a ≡ is_some (unit_at new key) → b ≡ is_some (unit_at old key) → c ≡ list_any (λ n. bytes_eq n (file_name_of key)) faulty → Decides t (IsTouched old new (file_name_of key)) → AreReadAlike old new → Decides (a && (not b || (c || t))) (IsObsolete old faulty new key)
  obsolete_decided faulty key a b c t e f g touched alike = decided_by faulty key alike (unit_at new key) (unit_at old key) a b c t refl refl e f g touched
