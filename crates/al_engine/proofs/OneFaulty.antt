-- The errors in the files, if one unit alone has another outcome than when there were none.
use Rattle.std.proofs.Common.{Bor, IsTrue, ◌≡◌, ◌∙◌, ◌||◌, ◌++◌, inl, inr, ℕ, Bool, true, false, not, List, [], ◌∷◌, Option, Some, None, IfSome, refl, sym, ap, subst}
use Rattle.std.specs.Prelude.{MatchOption, if◌then◌else◌}
use Rattle.std.specs.List.{Contains, flat_map}
use Rattle.std.specs.Map.{keys_of}
use Rattle.std.specs.Option.{option_map, option_map_or}
use Rattle.std.specs.Str.{bytes_eq}
use Rattle.std.proofs.lemmas.Bool.{true≢false}
use Rattle.std.proofs.lemmas.Slice.Eq.{bytes_eq-Decides}
use Rattle.al_base.specs.Batch.{Finding, key_of}
use Rattle.al_base.specs.FileNames.{file_name_of}
use Rattle.al_base.specs.declared.unit_key.UnitKey.{UnitKey}
use Rattle.al_base_graph.proofs.Members.{first, first_or_later, nowhere}
use Rattle.al_unit_graph.specs.Headers.{Contents, Header, Headed, Library, Source, Unread, key_of_unit}
use Rattle.al_unit_graph.specs.Library.{source_at}
use Rattle.al_unit_graph.specs.Names.{is_reserved}
use Rattle.al_unit_graph.specs.FaultLists.{name_faults}
use Rattle.al_unit_faults.specs.GraphFaults.{contents_faults, file_faults, or_else, rule_faults}
use Rattle.al_unit_faults.specs.Orders.{ascending}
use Rattle.al_unit_faults.proofs.LawLemmas.{rightly_named}
use Rattle.al_unit_faults.proofs.OrderLemmas.{into_ascending}
use Rattle.al_view.specs.Symbols.{same_unit}
use Rattle.al_view.proofs.SymbolLemmas.{both, same_unit-one, same_unit-self}
use Rattle.al_view.specs.declared.view.ViewKind.TheVariants.{OfComponent}
use Rattle.al_query.specs.Known.{has_unit}
use Rattle.al_query.specs.declared.answer.AnswerKind.TheVariants.{Nothing}
use Rattle.al_query_outcome.specs.Equations.{is_sound, unit_named}
use Rattle.al_query_outcome.specs.Results.{Outcome, Sound}
use Rattle.al_query_outcome.specs.declared.interface.Parts.{Parts}
use Rattle.al_query_outcome.specs.declared.interface.PropertyAnswers.{PropertyAnswers}
use Rattle.al_query_outcome.proofs.Names.{tested}
use Rattle.al_engine_refresh.specs.Stored.{Stored, outcome_of}
use Rattle.al_engine_refresh.specs.Builds.{results_of}
use Rattle.al_engine_refresh.specs.Found.{AreToldAlone, contents_findings, file_findings, findings_of, outcome_findings}
use Rattle.al_engine.specs.RecheckEdits.{units_of}
use Rattle.al_engine.specs.Renewed.{IsCleanBut}
use Rattle.al_engine.specs.declared.edited.EditedUnit.{EditedUnit}
use Rattle.al_engine_refresh.proofs.Following.{turned-unit}

no_two : (a b : List Finding) → a ++ b ≡ [] → (a ≡ []) × (b ≡ [])
no_two [] b is = (refl, is)
no_two (x ∷ xs) b is = absurd (cc)

neither_told : (faults others : List Finding) → or_else faults others ≡ [] → (faults ≡ []) × (others ≡ [])
neither_told [] others is = (refl, is)
neither_told (f ∷ fs) others is = absurd (cc)

each_empty : (h : List ℕ → List Finding) (files : List (List ℕ)) → flat_map h files ≡ [] → (file : List ℕ) → Contains files file → h file ≡ []
each_empty h [] is file c = absurd (nowhere file c)
each_empty h (x ∷ xs) is file c =
    let two = no_two (h x) (flat_map h xs) is in
    elim (first_or_later x xs file c) as (λ _. h file ≡ []) [
      | inl same ↦ subst (λ (y : List ℕ). h y ≡ []) same two.0
      | inr more ↦ each_empty h xs two.1 file more
    ]

none_ascends : (fs : List Finding) → ascending fs ≡ [] → fs ≡ []
none_ascends [] is = refl
none_ascends (f ∷ fs) is = absurd (nowhere f (subst (λ (xs : List Finding). Contains xs f) is (into_ascending (f ∷ fs) f (first f fs))))

-- a file that breaks no rule has the name that its unit asks for
named : (lib : Library) (file : List ℕ) (s : Source) (h : Header) → source_at lib file ≡ Some s → s.contents ≡ Headed h → file_faults lib file ≡ [] → file ≡ file_name_of (key_of_unit h)
unfolding file_faults
named lib file s h at is none =
    let read : option_map_or (λ source. contents_faults lib file source.contents) (source_at lib file) [] ≡ or_else (name_faults file h) (rule_faults lib file h) =
    ap (λ (o : Option Source). option_map_or (λ source. contents_faults lib file source.contents) o []) at ∙ ap (contents_faults lib file) is in
    let empty : or_else (name_faults file h) (rule_faults lib file h) ≡ [] = sym read ∙ none_ascends _ none in
    let right = rightly_named file h (neither_told (name_faults file h) (rule_faults lib file h) empty).0 in
    (bytes_eq-Decides file (file_name_of (key_of_unit h))).0 (both (bytes_eq file (file_name_of (key_of_unit h))) (not (is_reserved h.name)) right).0

module _ (lib : Library) (f g : UnitKey → Option Outcome) (u : UnitKey) (others : (w : UnitKey) → same_unit u w ≡ false → f w ≡ g w) (none : findings_of lib g ≡ []) where
  had_none : (file : List ℕ) → Contains (keys_of lib) file → (file_faults lib file ≡ []) × (option_map_or (λ source. contents_findings g file source.contents) (source_at lib file) [] ≡ [])
  unfolding findings_of
  had_none file c =
      neither_told (file_faults lib file) (option_map_or (λ source. contents_findings g file source.contents) (source_at lib file) [])
      (each_empty (file_findings lib g) (keys_of lib) none file c)

  told : (file : List ℕ) → file_faults lib file ≡ [] → (o : Option Source) → source_at lib file ≡ o → file_findings lib f file ≡ option_map_or (λ source. contents_findings f file source.contents) o []
  told file broken o at =
      ap (λ (fs : List Finding). or_else fs (option_map_or (λ source. contents_findings f file source.contents) (source_at lib file) [])) broken
      ∙ ap (λ (x : Option Source). option_map_or (λ source. contents_findings f file source.contents) x []) at

  -- so the other files have none now
  pub told_alone : AreToldAlone lib f (file_name_of (key_of u))
  told_alone file c apart = by (source_at lib file) refl
    where
      had : (file_faults lib file ≡ []) × (option_map_or (λ source. contents_findings g file source.contents) (source_at lib file) [] ≡ [])
      had = had_none file c

      in_source : (s : Source) (k : Contents) → source_at lib file ≡ Some s → s.contents ≡ k → contents_findings g file k ≡ [] → contents_findings f file k ≡ []
      in_source s (Unread place code) at is was = was
      in_source s (Headed h) at is was = elim (tested (same_unit u (unit_named (key_of_unit h)))) as (λ _. outcome_findings file (f (unit_named (key_of_unit h))) ≡ []) [
        | inl k ↦ absurd (apart (named lib file s h at is had.0 ∙ ap (λ (w : UnitKey). file_name_of (key_of w)) (sym (same_unit-one u (unit_named (key_of_unit h)) k))))
        | inr k ↦ ap (outcome_findings file) (others (unit_named (key_of_unit h)) k) ∙ was
      ]

      by : (o : Option Source) → source_at lib file ≡ o → file_findings lib f file ≡ []
      by None at = told file had.0 None at
      by (Some s) at = told file had.0 (Some s) at ∙ in_source s s.contents at refl (sym (ap (λ (x : Option Source). option_map_or (λ source. contents_findings g file source.contents) x []) at) ∙ had.1)

-- a unit without faults: it declares nothing
no_declarations : Parts
no_declarations = record { visible = []; private_part = []; body = []; stubs = [] }

no_properties : PropertyAnswers
no_properties = record { is_private = false; needs_body = false; kind = OfComponent; parent = Nothing; context = Nothing; completions = Nothing }

sound_unit : UnitKey → Outcome
sound_unit u = Sound (record { properties = no_properties; parts = no_declarations }) (record { unit = u; elaboration = None; bodies = []; words = 0; objects = []; flags = []; protected_objects = [] })

-- the outcomes, but this unit has no faults
abbrev sound_at : (UnitKey → Option Outcome) → UnitKey → UnitKey → Option Outcome
sound_at f u w = if same_unit u w then Some (sound_unit u) else f w

sound_others : (f : UnitKey → Option Outcome) (u w : UnitKey) → same_unit u w ≡ false → f w ≡ sound_at f u w
sound_others f u w k = sym (ap (λ (b : Bool). if b then Some (sound_unit u) else f w) k)

is_sound_at : (f : UnitKey → Option Outcome) (u : UnitKey) → is_sound (sound_at f u u) ≡ true
unfolding sound_unit
is_sound_at f u = ap (λ (b : Bool). is_sound (if b then Some (sound_unit u) else f u)) (same_unit-self u)

one_apart : (u w : UnitKey) → (same_unit w u || false) ≡ false → same_unit u w ≡ false
one_apart u w k = by (same_unit u w) refl
  where
    by : (b : Bool) → same_unit u w ≡ b → same_unit u w ≡ false
    by false e = e
    by true e = absurd (true≢false (sym (ap (λ (x : UnitKey). same_unit w x || false) (same_unit-one u w e) ∙ ap (λ (b : Bool). b || false) (same_unit-self w)) ∙ k))

one_same : (u w : UnitKey) → (same_unit w u || false) ≡ true → w ≡ u
one_same u w k = by (same_unit w u) refl k
  where
    by : (b : Bool) → same_unit w u ≡ b → (b || false) ≡ true → w ≡ u
    by true e m = same_unit-one w u e
    by false e m = absurd (cc)

-- if there were errors in this unit alone, there would be none if it had no faults
none_if_sound : (lib : Library) (f : UnitKey → Option Outcome) (entries : UnitKey → Option Stored) (u : UnitKey) (units : List UnitKey) → units ≡ u ∷ [] → IsCleanBut lib entries units → ((w : UnitKey) → same_unit u w ≡ false → f w ≡ results_of entries w) → findings_of lib (sound_at f u) ≡ []
none_if_sound lib f entries u units are clean others =
    clean (sound_at f u)
    (λ w k. let apart = one_apart u w (sym (ap (λ (us : List UnitKey). has_unit us w) are) ∙ k) in sym (sound_others f u w apart) ∙ others w apart)
    (λ w k. subst (λ (x : UnitKey). is_sound (sound_at f u x) ≡ true) (sym (one_same u w (sym (ap (λ (us : List UnitKey). has_unit us w) are) ∙ k))) (is_sound_at f u))

-- then no other file has any
pub alone_now : (lib : Library) (now settled : UnitKey → Option Stored) (was_clean : Bool) (edits : Option (Bor (List EditedUnit))) (unit faulty : Option (Bor UnitKey)) → IfSome unit (λ u. MatchOption edits ⊥ (λ e. units_of e.now ≡ u.now ∷ []))
    → IfSome faulty (λ u. IsTrue was_clean × MatchOption unit ⊥ (λ v. u.now ≡ v.now)) → IfSome edits (λ e. (w : UnitKey) → has_unit (units_of e.now) w ≡ false → now w ≡ settled w) → (IsTrue was_clean → IfSome edits (λ e. IsCleanBut lib settled (units_of e.now)))
    → IfSome faulty (λ u. AreToldAlone lib (results_of now) (file_name_of (key_of u.now)))
alone_now lib now settled was_clean edits unit None are is others clean = tt
alone_now lib now settled was_clean edits None (Some u) are is others clean = absurd is.1
alone_now lib now settled was_clean None (Some v) (Some u) are is others clean = absurd are
alone_now lib now settled was_clean (Some e) (Some v) (Some u) are is others clean =
    let one : units_of e.now ≡ u.now ∷ [] = are ∙ ap (λ (x : UnitKey). x ∷ []) (sym is.1) in
    let rest : (w : UnitKey) → same_unit u.now w ≡ false → results_of now w ≡ results_of settled w = λ w k.
    ap (option_map outcome_of) (others w (ap (λ (us : List UnitKey). has_unit us w) one ∙ ap (λ (x : Bool). x || false) (turned-unit u.now w false k))) in
    told_alone lib (results_of now) (sound_at (results_of now) u.now) u.now (sound_others (results_of now) u.now) (none_if_sound lib (results_of now) settled u.now (units_of e.now) one (clean is.0) rest)
