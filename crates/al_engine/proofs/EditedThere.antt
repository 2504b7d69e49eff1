-- The units that were edited since a build that found no errors, if nothing else was.
use Rattle.std.proofs.Common.{IfSome, IfOk, map, ◌≡◌, ◌||◌, ◌++◌, inl, inr, ℕ, Bool, true, false, List, [], ◌∷◌, Result, Ok, Err, Option, Some, None, refl, sym, ap, subst, ◌∙◌, if◌then◌else◌}
use Rattle.std.specs.List.{Contains, flat_map}
use Rattle.std.specs.Map.{keys_of}
use Rattle.std.specs.Option.{is_some, option_and_then, option_map, option_map_or}
use Rattle.al_base.specs.Batch.{Finding, Key, finding_of, key_of}
use Rattle.al_base.specs.declared.diagnostic.Diagnostic.{Diagnostic}
use Rattle.al_base.specs.FileNames.{file_name_of}
use Rattle.al_base.specs.declared.unit_key.UnitKey.{UnitKey}
use Rattle.std.proofs.lemmas.List.Elements.{Contains-append_cases}
use Rattle.std.proofs.lemmas.List.Folds.{list_any-append}
use Rattle.al_base_graph.proofs.Members.{first, first_or_later, into_flat_map, later, nowhere, the_one}
use Rattle.al_unit_graph.specs.Headers.{Contents, Header, Headed, Library, Source, Unread, key_of_unit}
use Rattle.al_unit_graph.specs.Library.{is_unit, source_at, unit_at, unit_in}
use Rattle.al_unit_faults.specs.FilesSeen.{file_faults_model}
use Rattle.al_unit_faults.specs.GraphFaults.{file_faults, or_else}
use Rattle.al_unit_faults.specs.Spots.{finding_at, spot_of}
use Rattle.al_unit_faults.proofs.OrderLemmas.{from_ascending}
use Rattle.al_unit_faults.proofs.UnitLemmas.{at_key, in_file}
use Rattle.al_query_store.specs.Units.{at_unit}
use Rattle.al_unit_faults.specs.Reached.{is_faultless}
use Rattle.al_view.specs.Symbols.{same_unit}
use Rattle.al_view.proofs.SymbolLemmas.{both, same_unit-one}
use Rattle.al_query.specs.Known.{has_unit}
use Rattle.al_query.proofs.KnownLemmas.{has_unit-first, has_unit-left}
use Rattle.al_query.specs.declared.answer.AnswerKind.{AnswerKind}
use Rattle.al_query.specs.declared.query.Query.{Query}
use Rattle.al_query_outcome.specs.Equations.{is_sound, unit_named}
use Rattle.al_query_outcome.specs.Results as results
use Rattle.al_query_outcome.specs.Results.{Outcome}
use Rattle.al_query_outcome.proofs.Names.{tested}
use Rattle.al_engine_refresh.specs.EntryLaw.{TextMeaning}
use Rattle.al_engine_refresh.specs.Stored.{Stored, outcome_of}
use Rattle.al_engine_refresh.specs.Builds.{results_of, text_of}
use Rattle.al_engine_refresh.specs.Found.{contents_findings, file_findings, findings_of, outcome_findings}
use Rattle.al_engine_refresh.specs.Staying.{is_there}
use Rattle.al_engine_refresh.specs.Staying as keeping
use Rattle.al_engine.specs.GraphGraphs.{HaveOneGraph, HaveSameGraph, unplaced, unplaced_contents}
use Rattle.al_engine.specs.Kept.{IsGraphOf}
use Rattle.al_engine.specs.Texts.{HaveTextsBut, may_differ}
use Rattle.al_engine.specs.declared.alike.Edited.{Edited}
use Rattle.al_engine.specs.declared.graph.UnitGraph.{UnitGraph}
use Rattle.al_engine.proofs.Files.{file_there}
use Rattle.al_engine.specs.Rechecks.{IsRechecked, setting_of}
use Rattle.al_engine.specs.RecheckEdits.{AreEditedAlone, IsBaseOfNone, IsForAnother, units_of}
use Rattle.al_engine.specs.declared.edited.EditedUnit.{EditedUnit}
use Rattle.al_engine.specs.Batches.{IsBatch}
use Rattle.al_engine.specs.declared.compiled.Compiled.{Compiled}
use Rattle.al_engine.specs.declared.compiled.Compiled.TheVariants.{Faulty, Unbound, TooLarge, Made}
use Rattle.al_engine.specs.Rebuilds.{IsRebuilt}
use Rattle.al_engine.specs.declared.rebuilding.Rebuilt.{Rebuilt}
use Rattle.al_engine.specs.Gave.{diagnostics_of}
use Rattle.al_engine.specs.Edits.{AreEditedIn, AreIn, HasReachedAll, IsEdited, IsEntered}
use Rattle.al_engine.proofs.Kept.{listed-fault, no-source}

-- the unit of a key
the-unit : (o : Option Header) → is_some o ≡ true → (h : Header) × (o ≡ Some h)
the-unit None is = absurd (cc)
the-unit (Some h) is = (h, refl)

module _ (lib : Library) (graph : UnitGraph) (of_graph : IsGraphOf lib graph) (broken : (f : List ℕ × List Finding) → Contains (map file_faults_model graph.faults.items) f → f.1 ≡ []) where
  -- no file breaks a rule
  pub none-broken : (file : List ℕ) → file_faults lib file ≡ []
  none-broken file = by (source_at lib file) refl
    where
      by : (o : Option Source) → source_at lib file ≡ o → file_faults lib file ≡ []
      by None at = no-source lib file at
      by (Some s) at = broken (file, file_faults lib file) (listed-fault lib graph of_graph file s at)

headed-same : (h k : Header) → Headed h ≡ Headed k → h ≡ k
headed-same h k e = cc

-- a unit isn't reached
abbrev unreached : List ℕ → Finding
unreached file = finding_at file (1, 1, 208)

-- the errors of an outcome are in its file
of-file : (file : List ℕ) (o : Option Outcome) (x : Finding) → Contains (outcome_findings file o) x → x.file ≡ file
of-file file None x c = ap (λ (f : Finding). f.file) (sym (the_one (unreached file) x c))
of-file file (Some (results.Sound interface tree)) x c = absurd (nowhere x c)
of-file file (Some (results.Faulty faults)) x c = listed faults (from_ascending (map (λ d. finding_at file (spot_of d)) faults) x c)
  where
    listed : (ds : List Diagnostic) → Contains (map (λ d. finding_at file (spot_of d)) ds) x → x.file ≡ file
    listed [] c = absurd (nowhere x c)
    listed (d ∷ ds) c = elim (first_or_later (finding_at file (spot_of d)) (map (λ d. finding_at file (spot_of d)) ds) x c) as (λ _. x.file ≡ file) [
      | inl same ↦ ap (λ (f : Finding). f.file) (sym same)
      | inr more ↦ listed ds more
    ]

module _ (lib : Library) (f : UnitKey → Option Outcome) (none : (file : List ℕ) → file_faults lib file ≡ []) where
  -- an error in the source of a file is among the errors of the library
  told-in : (file : List ℕ) (s : Source) (x : Finding) → source_at lib file ≡ Some s → Contains (contents_findings f file s.contents) x → Contains (findings_of lib f) x
  unfolding findings_of
  told-in file s x at c =
      let told : file_findings lib f file ≡ contents_findings f file s.contents =
      ap (λ (xs : List Finding). or_else xs (option_map_or (λ source. contents_findings f file source.contents) (source_at lib file) [])) (none file) ∙ ap (λ (o : Option Source). option_map_or (λ source. contents_findings f file source.contents) o []) at in
      into_flat_map (file_findings lib f) (keys_of lib) file x (file_there lib file s at) (subst (λ (xs : List Finding). Contains xs x) (sym told) c)

  module _ (reached : (x : Finding) → Contains (findings_of lib f) x → x.code ≡ 208 → ⊥) (w : UnitKey) where
    -- a unit of a library has an outcome, if no error says that it wasn't reached
    pub has-outcome : is_unit lib (key_of w) ≡ true → is_some (f w) ≡ true
    has-outcome there = by (f w) refl
      where
        by : (o : Option Outcome) → f w ≡ o → is_some o ≡ true
        by (Some outcome) is = refl
        by None is =
            let has = the-unit (unit_at lib (key_of w)) there in
            let at = at_key lib (key_of w) has.0 has.1 in
            let file = file_name_of (key_of w) in
            let held = in_file lib file has.0 at.0 in
            let told : contents_findings f file held.source.contents ≡ outcome_findings file None =
            ap (contents_findings f file) held.headed ∙ ap (λ (k : Key). outcome_findings file (f (unit_named k))) at.1 ∙ ap (outcome_findings file) is in
            absurd (reached (unreached file) (told-in file held.source (unreached file) held.there (subst (λ (xs : List Finding). Contains xs (unreached file)) (sym told) (first (unreached file) []))) refl)

-- a build reports the errors that it found
pub told-are : (lib : Library) (f : UnitKey → Option Outcome) (main : List ℕ) (compiled : Compiled) → IsBatch lib f main compiled → map finding_of (diagnostics_of compiled) ≡ findings_of lib f
told-are lib f main (Faulty diagnostics) is = is.0
told-are lib f main (Unbound fault) is = sym is.0
told-are lib f main (TooLarge order) is = sym is.0
told-are lib f main (Made program) is = sym is.0

module _ (meaning : TextMeaning) (header : List ℕ → Header) (pre : Query → AnswerKind) (lib : Library) (main : List ℕ) (before entries : UnitKey → Option Stored) (gave : Rebuilt) (is : IsRebuilt meaning header pre lib main before entries gave) (graph : UnitGraph) (of_graph : IsGraphOf lib graph) (whole : HasReachedAll graph (map finding_of (diagnostics_of gave.compiled))) where
  none : (file : List ℕ) → file_faults lib file ≡ []
  none = none-broken lib graph of_graph whole.none

  told : map finding_of (diagnostics_of gave.compiled) ≡ findings_of lib (results_of is.made)
  told = told-are lib (results_of is.made) main gave.compiled is.is_batch

  reached : (x : Finding) → Contains (findings_of lib (results_of is.made)) x → x.code ≡ 208 → ⊥
  reached x c = whole.reached x (subst (λ (xs : List Finding). Contains xs x) (sym told) c)

  has-made : (w : UnitKey) → is_there lib w ≡ true → is_some (is.made w) ≡ true
  has-made w there = by (is.made w) (has-outcome lib (results_of is.made) none reached w there)
    where
      by : (o : Option Stored) → is_some (option_map outcome_of o) ≡ true → is_some o ≡ true
      by None never = absurd (cc)
      by (Some e) never = refl

  -- so that build made all entries
  pub all-made : (w : UnitKey) → entries w ≡ is.made w
  all-made w = is.entries w ∙ by (is.made w) (is_there lib w) (has-made w)
    where
      by : (o : Option Stored) (b : Bool) → (b ≡ true → is_some o ≡ true) → keeping.or_else o (if b then before w else None) ≡ o
      by (Some e) b has = refl
      by None true has = let never = has refl in absurd (cc)
      by None false has = refl

  pub made-entries : IsRechecked meaning header (setting_of header pre lib) before entries gave.checked
  made-entries = subst (λ (at : UnitKey → Option Stored). IsRechecked meaning header (setting_of header pre lib) before at gave.checked) (λ i w. sym (all-made w) i) is.rechecked

  -- if the errors were only in the files of some units, which are sound now, there are none now
  module _ (new : Library) (same : HaveSameGraph lib new) (edited : Edited) (units : List UnitKey) (found : AreIn edited (map finding_of (diagnostics_of gave.compiled)))
      (holds : (file : List ℕ) → may_differ edited file → (h : Header) × (unit_in new file ≡ Some h) × (has_unit units (unit_named (key_of_unit h)) ≡ true))
      (f : UnitKey → Option Outcome) (others : (w : UnitKey) → has_unit units w ≡ false → f w ≡ results_of entries w) (sound : (u : UnitKey) → has_unit units u ≡ true → is_sound (f u) ≡ true) where
    sound-none : (file : List ℕ) (o : Option Outcome) → is_sound o ≡ true → outcome_findings file o ≡ []
    sound-none file None is_so = absurd (cc)
    sound-none file (Some (results.Faulty faults)) is_so = absurd (cc)
    sound-none file (Some (results.Sound interface tree)) is_so = refl

    -- there is no error in an edited file
    edited-none : (file : List ℕ) (s : Source) → source_at new file ≡ Some s → may_differ edited file → contents_findings f file s.contents ≡ []
    edited-none file s at may =
        let h = holds file may in
        let held = in_file new file h.0 h.1 in
        let one : s ≡ held.source = let two : Some s ≡ Some held.source = sym at ∙ held.there in cc in
        ap (λ (x : Source). contents_findings f file x.contents) one ∙ ap (contents_findings f file) held.headed ∙ sound-none file (f (unit_named (key_of_unit h.0))) (sound (unit_named (key_of_unit h.0)) h.2)

    -- a file with an error was edited
    was-edited : (file : List ℕ) (s : Source) (x : Finding) → source_at lib file ≡ Some s → Contains (contents_findings (results_of is.made) file s.contents) x → x.file ≡ file → may_differ edited file
    was-edited file s x at c named =
        subst (may_differ edited) named (found x (subst (λ (xs : List Finding). Contains xs x) (sym told) (told-in lib (results_of is.made) none file s x at c)))

    unedited-none : (file : List ℕ) (s t : Source) (w : UnitKey) → source_at lib file ≡ Some s → source_at new file ≡ Some t → ((x : Finding) → Contains (outcome_findings file (results_of is.made w)) x → Contains (contents_findings (results_of is.made) file s.contents) x)
        → contents_findings f file t.contents ≡ outcome_findings file (results_of is.made w) → (xs : List Finding) → outcome_findings file (results_of is.made w) ≡ xs → contents_findings f file t.contents ≡ []
    unedited-none file s t w was at in_text as_before [] none_found = as_before ∙ none_found
    unedited-none file s t w was at in_text as_before (x ∷ xs) some_found =
        let c : Contains (outcome_findings file (results_of is.made w)) x = subst (λ (ys : List Finding). Contains ys x) (sym some_found) (first x xs) in
        edited-none file t at (was-edited file s x was (in_text x c) (of-file file (results_of is.made w) x c))

    -- there is no error in a file that wasn't edited, and had none
    file-none : (file : List ℕ) (s t : Source) → source_at lib file ≡ Some s → source_at new file ≡ Some t → unplaced_contents s.contents ≡ unplaced_contents t.contents → contents_findings f file t.contents ≡ []
    file-none file s t was at alike = by s.contents t.contents refl refl alike
      where
        by : (c d : Contents) → s.contents ≡ c → t.contents ≡ d → unplaced_contents c ≡ unplaced_contents d → contents_findings f file t.contents ≡ []
        by (Unread place code) d is_c is_d e =
            let x = finding_at file (place.line, place.col, code) in
            edited-none file t at (was-edited file s x was (subst (λ (k : Contents). Contains (contents_findings (results_of is.made) file k) x) (sym is_c) (first x [])) refl)
        by (Headed h) (Unread place code) is_c is_d e = absurd (cc)
        by (Headed h) (Headed k) is_c is_d e =
            let w = unit_named (key_of_unit h) in
            let one : unplaced h ≡ unplaced k = headed-same (unplaced h) (unplaced k) e in
            let two : contents_findings f file t.contents ≡ outcome_findings file (f w) = ap (contents_findings f file) is_d ∙ ap (λ (u : Header). outcome_findings file (f (unit_named (key_of_unit u)))) (sym one) in
            elim (tested (has_unit units w)) as (λ _. contents_findings f file t.contents ≡ []) [
              | inl m ↦ two ∙ sound-none file (f w) (sound w m)
              | inr m ↦ unedited-none file s t w was at (λ x c. subst (λ (k : Contents). Contains (contents_findings (results_of is.made) file k) x) (sym is_c) c) (two ∙ ap (outcome_findings file) (others w m ∙ ap (option_map outcome_of) (all-made w))) (outcome_findings file (results_of is.made w)) refl
            ]

    each-none : (file : List ℕ) (o n : Option Source) → source_at lib file ≡ o → source_at new file ≡ n → file_findings new f file ≡ []
    each-none file o None was at = ap (λ (xs : List Finding). or_else xs (option_map_or (λ source. contents_findings f file source.contents) (source_at new file) [])) (sym (same.faults file) ∙ none file) ∙ ap (λ (p : Option Source). option_map_or (λ source. contents_findings f file source.contents) p []) at
    each-none file None (Some t) was at =
        let never : option_map (λ (x : Source). unplaced_contents x.contents) None ≡ option_map (λ (x : Source). unplaced_contents x.contents) (Some t) = sym (ap (option_map (λ (x : Source). unplaced_contents x.contents)) was) ∙ same.headers.contents file ∙ ap (option_map (λ (x : Source). unplaced_contents x.contents)) at in
        absurd (cc)
    each-none file (Some s) (Some t) was at =
        let alike : Some (unplaced_contents s.contents) ≡ Some (unplaced_contents t.contents) = sym (ap (option_map (λ (x : Source). unplaced_contents x.contents)) was) ∙ same.headers.contents file ∙ ap (option_map (λ (x : Source). unplaced_contents x.contents)) at in
        let one : unplaced_contents s.contents ≡ unplaced_contents t.contents = cc in
        ap (λ (xs : List Finding). or_else xs (option_map_or (λ source. contents_findings f file source.contents) (source_at new file) [])) (sym (same.faults file) ∙ none file)
        ∙ ap (λ (p : Option Source). option_map_or (λ source. contents_findings f file source.contents) p []) at ∙ file-none file s t was at one

    all-none : (files : List (List ℕ)) → flat_map (file_findings new f) files ≡ []
    all-none [] = refl
    all-none (x ∷ xs) = ap (λ (ys : List Finding). ys ++ flat_map (file_findings new f) xs) (each-none x (source_at lib x) (source_at new x) refl refl) ∙ all-none xs

    pub clean-but : findings_of new f ≡ []
    unfolding findings_of
    clean-but = all-none (keys_of new)

-- a unit that breaks no rule is there
there-of : (lib : Library) (key : Key) → is_faultless lib key ≡ true → is_unit lib key ≡ true
unfolding is_faultless
there-of lib key is = (both (is_unit lib key) _ is).0

module _ (old new : Library) (entries : UnitKey → Option Stored) (edited : Edited) (units : List UnitKey) (one : HaveOneGraph old new) (texts : HaveTextsBut old new edited)
    (holds : (file : List ℕ) → may_differ edited file → (h : Header) × (unit_in new file ≡ Some h) × (has_unit units (unit_named (key_of_unit h)) ≡ true)) (others : (u : UnitKey) → has_unit units u ≡ true → IsForAnother (entries u) (text_of new u)) where
  -- the unit of an edited file is one of them
  is-among : (w : UnitKey) → is_unit new (key_of w) ≡ true → may_differ edited (file_name_of (key_of w)) → has_unit units w ≡ true
  is-among w there may =
      let has = the-unit (unit_at new (key_of w)) there in
      let at = at_key new (key_of w) has.0 has.1 in
      let held = holds (file_name_of (key_of w)) may in
      let one : Some held.0 ≡ Some has.0 = sym held.1 ∙ at.0 in
      let is_it : held.0 ≡ has.0 = cc in
      subst (λ (k : Key). has_unit units (unit_named k) ≡ true) (ap key_of_unit is_it ∙ at.1) held.2

  pub edited-alone : AreEditedAlone old new entries units
  edited-alone = record {
    dependences = one.dependences;
    faultless = one.faultless;
    texts = λ w t apart. texts (file_name_of (key_of w)) (λ may. let has = is-among w (there-of new (key_of w) t) may in absurd (cc));
    edited = others;
  }

-- no unit depends directly on one that isn't among the bases
pub base-of-none : (old new : Library) (graph : UnitGraph) (u : UnitKey) → HaveOneGraph old new → IsGraphOf old graph → at_unit graph.bases u ≡ None → IsBaseOfNone new u
base-of-none old new graph u one of_old base w t c =
    let has : is_some (at_unit graph.bases u) ≡ true = of_old.bases (key_of w) (key_of u) (one.faultless (key_of w) ∙ t) (subst (λ (ks : List Key). Contains ks (key_of u)) (sym (one.dependences (key_of w))) c) in
    let none : is_some (at_unit graph.bases u) ≡ false = ap is_some base in
    absurd (cc)

-- what follows for each element holds of the one that there is
pub for-any : {X : Type 0} (o : Option X) (Q : X → Type 0) → ((x : X) → Q x) → IfSome o Q
for-any None Q f = tt
for-any (Some x) Q f = f x

-- what follows for each element holds of the one that was found
pub each-found : {X : Type 0} (o : Option X) (A B : X → Type 0) → IfSome o A → ((x : X) → A x → B x) → IfSome o B
each-found None A B is f = tt
each-found (Some x) A B is f = f x is

-- no unit was edited yet
pub none-edited : (lib : Library) (entries : UnitKey → Option Stored) (graph : UnitGraph) → AreEditedIn lib entries graph [] []
none-edited lib entries graph = record { holds = λ file c. absurd (nowhere file c); each = λ e c. absurd (nowhere e c) }

units-more : (edits : List EditedUnit) (e : EditedUnit) → units_of (edits ++ e ∷ []) ≡ units_of edits ++ e.unit ∷ []
units-more [] e = refl
units-more (d ∷ ds) e = ap (λ (us : List UnitKey). d.unit ∷ us) (units-more ds e)

-- one of these units is in this file
abbrev HeldAmong : Library → List UnitKey → List ℕ → Type 0
HeldAmong lib units file = (h : Header) × (unit_in lib file ≡ Some h) × (has_unit units (unit_named (key_of_unit h)) ≡ true)

-- one file more
pub one-edited : (lib : Library) (entries : UnitKey → Option Stored) (graph : UnitGraph) (files : List (List ℕ)) (edits : List EditedUnit) (file : List ℕ) (e : EditedUnit) → AreEditedIn lib entries graph files edits → IsEdited lib entries graph file e → AreEditedIn lib entries graph (files ++ file ∷ []) (edits ++ e ∷ [])
one-edited lib entries graph files edits file e are is = record {
  holds = λ f c. elim (Contains-append_cases files (file ∷ []) f c) as (λ _. HeldAmong lib (units_of (edits ++ e ∷ [])) f) [
    | inl h ↦ let held = are.holds f h in (held.0, held.1, widened (unit_named (key_of_unit held.0)) held.2)
    | inr h ↦ elim (first_or_later file [] f h) as (λ _. HeldAmong lib (units_of (edits ++ e ∷ [])) f) [
      | inl k ↦ subst (HeldAmong lib (units_of (edits ++ e ∷ []))) k (is.0.0, is.0.1, subst (λ (x : UnitKey). has_unit (units_of (edits ++ e ∷ [])) x ≡ true) is.0.2 last)
      | inr k ↦ absurd (nowhere f k)
    ]
  ];
  each = λ d c. elim (Contains-append_cases edits (e ∷ []) d c) as (λ _. IsEntered lib entries graph d) [
    | inl h ↦ are.each d h
    | inr h ↦ elim (first_or_later e [] d h) as (λ _. IsEntered lib entries graph d) [ inl k ↦ subst (λ (x : EditedUnit). IsEntered lib entries graph x) k is.1 | inr k ↦ absurd (nowhere d k) ]
  ];
}
  where
    or_true : (b : Bool) → (b || true) ≡ true
    or_true true = refl
    or_true false = refl

    widened : (w : UnitKey) → has_unit (units_of edits) w ≡ true → has_unit (units_of (edits ++ e ∷ [])) w ≡ true
    widened w h = ap (λ (us : List UnitKey). has_unit us w) (units-more edits e) ∙ has_unit-left (units_of edits) (e.unit ∷ []) w h

    last : has_unit (units_of (edits ++ e ∷ [])) e.unit ≡ true
    last =
        ap (λ (us : List UnitKey). has_unit us e.unit) (units-more edits e) ∙ list_any-append (same_unit e.unit) (units_of edits) (e.unit ∷ [])
        ∙ ap (λ (b : Bool). has_unit (units_of edits) e.unit || b) (has_unit-first e.unit []) ∙ or_true (has_unit (units_of edits) e.unit)

-- an edited unit has an entry for another source
pub entered-of : (lib : Library) (entries : UnitKey → Option Stored) (edits : List EditedUnit) → ((e : EditedUnit) → Contains edits e → IsForAnother (entries e.unit) (text_of lib e.unit)) → (u : UnitKey) → has_unit (units_of edits) u ≡ true → IsForAnother (entries u) (text_of lib u)
entered-of lib entries [] each u h = absurd (cc)
entered-of lib entries (e ∷ es) each u h = by (same_unit u e.unit) refl h (entered-of lib entries es (λ d c. each d (later e es d c)) u)
  where
    by : (b : Bool) → same_unit u e.unit ≡ b → (b || has_unit (units_of es) u) ≡ true → (has_unit (units_of es) u ≡ true → IsForAnother (entries u) (text_of lib u)) → IsForAnother (entries u) (text_of lib u)
    by true k m then_so = subst (λ (x : UnitKey). IsForAnother (entries x) (text_of lib x)) (sym (same_unit-one u e.unit k)) (each e (first e es))
    by false k m then_so = then_so m
