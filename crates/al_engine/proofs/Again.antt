-- A build of the same files over the entries that the last one settled.
use Rattle.std.proofs.Common.{◌≡◌, ◌&&◌, ◌||◌, ◌<◌, ◌^◌, ℕ, Bool, true, false, not, List, [], map, length, Option, Some, None, is_some, option_map, refl, sym, ap, subst, ◌∙◌, if◌then◌else◌}
use Rattle.std.specs.List.{Contains}
use Rattle.std.specs.List.Sorted.{IsStrictlySortedBy}
use Rattle.al_base.specs.Batch.{key_of}
use Rattle.al_base.specs.declared.unit_key.UnitKey.{UnitKey}
use Rattle.al_base_graph.proofs.Members.{nowhere}
use Rattle.al_query.specs.declared.answer.AnswerKind.{AnswerKind}
use Rattle.al_query.specs.declared.query.Query.{Query}
use Rattle.al_base.specs.Files.{Texts}
use Rattle.al_unit_graph.specs.Headers.{Header, Library}
use Rattle.al_unit_graph.specs.Orders.{key_cmp}
use Rattle.al_query_outcome.specs.Equations.{is_reached, table}
use Rattle.al_engine_refresh.specs.EntryLaw.{HasCurrent, TextMeaning}
use Rattle.al_engine_refresh.specs.Stored.{Stored}
use Rattle.al_engine_refresh.specs.Builds.{present, raised, results_of, text_of}
use Rattle.al_engine_refresh.specs.Staying.{is_there, or_else, staying}
use Rattle.al_engine.specs.Rechecks.{AreReady, setting_of}
use Rattle.al_engine.proofs.RecheckLemmas.{settled}
use Rattle.al_engine.specs.UnitCache.{Kept}
use Rattle.al_engine.specs.declared.graph.UnitGraph.{UnitGraph}
use Rattle.al_engine.specs.Patches.{linked_in}
use Rattle.al_engine.proofs.PatchLemmas.{stays-patched}
use Rattle.al_engine.specs.Reasons.{AreReasons}
use Rattle.al_engine.specs.declared.reasons.Reason.{Reason}
use Rattle.al_engine.specs.Rebuilds.{IsRebuilt, IsWithin, is_moved}
use Rattle.al_engine.proofs.WithinLemmas.{still-within}
use Rattle.al_engine.specs.declared.rebuilding.Rebuilt.{Rebuilt}
use Rattle.al_query.specs.Known.{has_unit}
use Rattle.al_query_store.specs.Keyed.{differ, settled_at, state}
use Rattle.al_engine_refresh.specs.Moves.{Entries}
use Rattle.al_unit_faults.specs.Reached.{is_faultless}
use Rattle.al_view.proofs.SymbolLemmas.{both}
use Rattle.al_engine_refresh.proofs.LoopLemmas.{raised-none}
use Rattle.al_engine.specs.Builds.{IsBuild}
use Rattle.al_engine.specs.Graphs.{Remembered}
use Rattle.al_engine.specs.States.{Built, Held, IsOfNow, IsRight, IsSettledBy}

-- an entry that stayed after one build stays after the next
stays : (is : Bool) (made before : Option Stored) → or_else made (if is then before else None) ≡ or_else made (if is then or_else made (if is then before else None) else None)
stays is (Some e) before = refl
stays true None before = refl
stays false None before = refl

-- no reasons are those of no units
bare-reasons : (predefined : Query → AnswerKind) (lib : Library) (at made : UnitKey → Option Stored) (checked : List UnitKey) (reasons : List Reason) → checked ≡ [] → reasons ≡ [] → AreReasons (present predefined (results_of made)) lib at checked reasons
bare-reasons predefined lib at made checked reasons none bare =
    subst (λ (us : List UnitKey). AreReasons (present predefined (results_of made)) lib at us reasons) (sym none)
    (subst (λ (rs : List Reason). AreReasons (present predefined (results_of made)) lib at [] rs) (sym bare) tt)

-- no units are in order
none-ascend : IsStrictlySortedBy key_cmp (map key_of [])
unfolding IsStrictlySortedBy
none-ascend = tt

module _ (meaning : TextMeaning) (header : List ℕ → Header) (predefined : Query → AnswerKind) (lib : Library) (main : List ℕ) (before entries : UnitKey → Option Stored) (rebuilt : Rebuilt) (is : IsRebuilt meaning header predefined lib main before entries rebuilt) (checked : List UnitKey) (none : checked ≡ []) (reasons : List Reason) where
  current : (u : UnitKey) → is_reached (setting_of header predefined lib) (results_of is.made) u ≡ true → HasCurrent (entries u) (text_of lib u) (table (setting_of header predefined lib) (results_of is.made))
  current u r =
      subst (λ (o : Option Stored). HasCurrent o (text_of lib u) (table (setting_of header predefined lib) (results_of is.made))) (sym (is.entries u))
      ((settled meaning header (setting_of header predefined lib) before is.made rebuilt.checked is.rechecked).current u r)

  staying-again : (u : UnitKey) → entries u ≡ staying lib entries is.made u
  staying-again u =
      is.entries u ∙ stays (is_there lib u) (is.made u) (before u)
      ∙ ap (λ (o : Option Stored). or_else (is.made u) (if is_there lib u then o else None)) (sym (is.entries u))

  -- it checks nothing, gives the same, and leaves the entries as they are
  rebuilt-again : IsRebuilt meaning header predefined lib main entries entries (record { compiled = rebuilt.compiled; checked = checked; reasons = reasons; compared = 0; patched = 0; earlier = rebuilt.earlier })
  rebuilt-again = record {
    made = is.made;
    rechecked = record {
      law = is.rechecked.law;
      solves = is.rechecked.solves;
      only = is.rechecked.only;
      current = is.rechecked.current;
      unreached = is.rechecked.unreached;
      rechecked = λ u. (
        (λ c. absurd (nowhere u (subst (λ (us : List UnitKey). Contains us u) none c))),
        (λ n. absurd (n.1 (current u n.0))),
      );
      ascend = subst (λ (us : List UnitKey). IsStrictlySortedBy key_cmp (map key_of us)) (sym none) none-ascend;
    };
    is_batch = is.is_batch;
    entries = staying-again;
    earlier = is.earlier;
  }

-- the same result with another list of checked units, and no unit written
abbrev pub gave_again : Rebuilt → List UnitKey → List Reason → Rebuilt
gave_again gave checked reasons = record { compiled = gave.compiled; checked = checked; reasons = reasons; compared = 0; patched = 0; earlier = gave.earlier }

abbrev again : Built → List UnitKey → List Reason → Built
again b checked reasons = record { files = b.files; main = b.main; gave = gave_again b.gave checked reasons }

module _ (meaning : TextMeaning) (header : List ℕ → Header) (predefined : Query → AnswerKind) (library : Texts → Library) where
  settled-again : (store : Entries) (b : Built) (checked : List UnitKey) (reasons : List Reason) → checked ≡ [] → IsSettledBy meaning header predefined library store b
      → IsRebuilt meaning header predefined (library b.files) b.main (settled_at store) (settled_at store) (gave_again b.gave checked reasons)
  settled-again store b checked reasons none is = rebuilt-again meaning header predefined (library b.files) b.main is.before (settled_at store) b.gave is.rebuilt checked none reasons

  -- a unit that has an entry is in the library
  settled-there : (store : Entries) (b : Built) → IsSettledBy meaning header predefined library store b → (u : UnitKey) → is_some (settled_at store u) ≡ true → is_there (library b.files) u ≡ true
  unfolding is_faultless
  settled-there store b is u some = by (is_there (library b.files) u) refl (is.rebuilt.made u) refl (sym (ap is_some (is.rebuilt.entries u)) ∙ some)
    where
      reached : (e : Stored) → is.rebuilt.made u ≡ Some e → (r : Bool) → is_reached (setting_of header predefined (library b.files)) (results_of is.rebuilt.made) u ≡ r → is_there (library b.files) u ≡ true
      reached e m true r = (both (is_there (library b.files) u) _ (both _ _ r).0).0
      reached e m false r =
          let none : is.rebuilt.made u ≡ None = is.rebuilt.rechecked.unreached u r in
          absurd (cc)

      by : (t : Bool) → is_there (library b.files) u ≡ t → (m : Option Stored) → is.rebuilt.made u ≡ m → is_some (or_else (is.rebuilt.made u) (if is_there (library b.files) u then is.before u else None)) ≡ true → is_there (library b.files) u ≡ true
      by true e m k h = e
      by false e (Some x) k h = reached x k (is_reached (setting_of header predefined (library b.files)) (results_of is.rebuilt.made) u) refl
      by false e None k h =
          let no : true ≡ false = sym h ∙ ap (λ (o : Option Stored). is_some (or_else o (if is_there (library b.files) u then is.before u else None))) k ∙ ap (λ (t : Bool). is_some (or_else None (if t then is.before u else None))) e in
          absurd (cc)

  -- no unit moves, so nothing is compared
  within-again : (store : Entries) (b : Built) (checked : List UnitKey) → checked ≡ [] → IsSettledBy meaning header predefined library store b → IsWithin (library b.files) checked store store 0
  within-again store b checked none is = still-within (library b.files) checked store (λ u. moved u)
    where
      differ_same : (x : Bool) → differ x x ≡ false
      differ_same true = refl
      differ_same false = refl

      gone : (u : UnitKey) (x : Bool) → is_some (settled_at store u) ≡ x → (x && not (is_there (library b.files) u)) ≡ false
      gone u true e = ap not (settled-there store b is u e)
      gone u false e = refl

      moved : (u : UnitKey) → is_moved (library b.files) checked store store u ≡ false
      moved u =
          ap (λ (us : List UnitKey). has_unit us u || (is_some (settled_at store u) && not (is_there (library b.files) u)) || differ (state store u).was_reached (state store u).was_reached) none
          ∙ ap (λ (x : Bool). x || differ (state store u).was_reached (state store u).was_reached) (gone u (is_some (settled_at store u)) refl)
          ∙ differ_same (state store u).was_reached

  right-some : (files : Texts) (store : Entries) (is_edited : Bool) (graph : Option Remembered) (b : Built) (checked : List UnitKey) (reasons : List Reason) → checked ≡ [] → IsRight meaning header predefined library files store is_edited graph (Some b) b.gave.compiled
      → IsRight meaning header predefined library files store is_edited graph (Some (again b checked reasons)) b.gave.compiled
  unfolding settled-again rebuilt-again
  right-some files store is_edited graph b checked reasons none right = record {
    read = right.read;
    predefined_units = right.predefined_units;
    built_right = right.built_right;
    settled = record { before = settled_at store; rebuilt = settled-again store b checked reasons none right.settled; reached = right.settled.reached };
    unedited = right.unedited;
    ready = right.ready;
    keeps_graph = right.keeps_graph;
    first = λ e. absurd (cc);
  }

  build-at : {C P : Type 0} (count : C → ℕ) (cache : Kept C) (pre : P) (b : Built) (checked : List UnitKey) (reasons : List Reason) → checked ≡ [] → reasons ≡ [] → IsSettledBy meaning header predefined library cache.store b → AreReady predefined cache.store → count cache.checker < 2 ^ 64
      → IsBuild meaning header count predefined library b.main (record { cache = cache; predefined = pre; files = b.files; built = Some b }) (record { cache = cache; predefined = pre; files = b.files; built = Some (again b checked reasons) })
  unfolding settled-again rebuilt-again
  build-at count cache pre b checked reasons none bare is ready bound = record {
    last = again b checked reasons;
    is_last = refl;
    files_are = refl;
    main_is = refl;
    rebuilt = settled-again cache.store b checked reasons none is;
    remembered = record { reached = is.reached; ready = ready; compared = within-again cache.store b checked none is; reasons = bare-reasons predefined (library b.files) (settled_at cache.store) is.rebuilt.made checked reasons none bare };
    patched = stays-patched (linked_in b.gave.compiled);
    counted = raised-none (count cache.checker) bound ∙ ap (λ (us : List UnitKey). raised (count cache.checker) (length us)) (sym none);
  }

  build-some : {C P : Type 0} (count : C → ℕ) (cache : Kept C) (pre : P) (files : Texts) (main : List ℕ) (b : Built) (checked : List UnitKey) (reasons : List Reason) → checked ≡ [] → reasons ≡ [] → IsSettledBy meaning header predefined library cache.store b → AreReady predefined cache.store
      → count cache.checker < 2 ^ 64 → (b.files ≡ files) × (b.main ≡ main)
      → IsBuild meaning header count predefined library main (record { cache = cache; predefined = pre; files = files; built = Some b }) (record { cache = cache; predefined = pre; files = files; built = Some (again b checked reasons) })
  build-some count cache pre files main b checked reasons none bare is ready bound of-now =
      subst (λ (f : Texts). IsBuild meaning header count predefined library main (record { cache = cache; predefined = pre; files = f; built = Some b }) (record { cache = cache; predefined = pre; files = f; built = Some (again b checked reasons) })) of-now.0
      (subst (λ (m : List ℕ). IsBuild meaning header count predefined library m (record { cache = cache; predefined = pre; files = b.files; built = Some b }) (record { cache = cache; predefined = pre; files = b.files; built = Some (again b checked reasons) })) of-now.1
      (build-at count cache pre b checked reasons none bare is ready bound))

-- the last build is repeated, and no unit is checked
module _ (meaning : TextMeaning) (header : List ℕ → Header) (library : Texts → Library) {X : Type 0} (remembered : X → Remembered) (files_of : X → Texts) (main_of : X → List ℕ) (gave : Rebuilt) (checked : List UnitKey) (none : checked ≡ []) (reasons : List Reason) (bare : reasons ≡ []) (files : Texts) (is_edited : Bool) where
  abbrev pub built_of : Rebuilt → Option X → Option Built
  built_of g last = option_map (λ x. record { files = files_of x; main = main_of x; gave = g }) last

  pub right-again : (last : Option X) (predefined : Query → AnswerKind) (store : Entries) → IsRight meaning header predefined library files store is_edited (option_map remembered last) (built_of gave last) gave.compiled
      → IsRight meaning header predefined library files store is_edited (option_map remembered last) (built_of (gave_again gave checked reasons) last) gave.compiled
  right-again None predefined store right = right
  right-again (Some x) predefined store right =
      right-some meaning header predefined library files store is_edited (Some (remembered x)) (record { files = files_of x; main = main_of x; gave = gave }) checked reasons none right

  module _ {C P : Type 0} (count : C → ℕ) (table : P → Query → AnswerKind) (cache : Kept C) (pre : P) (bound : count cache.checker < 2 ^ 64) (main : List ℕ) where
    abbrev pub held : Rebuilt → Option X → Held C P
    held g last = record { cache = cache; predefined = pre; files = files; built = built_of g last }

    of-held : (last : Option X) → IsRight meaning header (table pre) library files cache.store is_edited (option_map remembered last) (built_of gave last) gave.compiled → IsOfNow files main (built_of gave last)
        → IsBuild meaning header count (table pre) library main (held gave last) (held (gave_again gave checked reasons) last)
    of-held None right of-now = absurd of-now
    of-held (Some x) right of-now =
        build-some meaning header (table pre) library count cache pre files main (record { files = files_of x; main = main_of x; gave = gave }) checked reasons none bare right.settled right.ready bound of-now

    pub build-again : (last : Option X) (old : Held C P) → held gave last ≡ old
        → IsRight meaning header (table pre) library files cache.store is_edited (option_map remembered last) (built_of gave last) gave.compiled → IsOfNow old.files main old.built
        → IsBuild meaning header count (table old.predefined) library main old (held (gave_again gave checked reasons) last)
    build-again last old view right of-now =
        subst (λ (h : Held C P). IsBuild meaning header count (table h.predefined) library main h (held (gave_again gave checked reasons) last)) view
        (of-held last right (subst (λ (h : Held C P). IsOfNow h.files main h.built) (sym view) of-now))
