-- Names with their numbers, and what is wanted so far.
use Rattle.std.proofs.Common.{◌≡◌, ℕ, ◌+◌, ◌<◌, ◌≤◌, Bool, true, false, cond, List, [], ◌∷◌, ◌++◌, ◌⊎◌, inl, inr, Some, Vec, length, get_or, refl, ap, subst, sym, ◌∙◌, append_assoc, arith}
use Rattle.std.specs.List.{Contains}
use Rattle.std.specs.Map.{lookup}
use Rattle.std.specs.BTreeMap.{insert_entry, is_at}
use Rattle.std.specs.Ordering.{nat_cmp, match_ordering, is_eq}
use Rattle.std.specs.declared.cmp.Ordering.{Ordering}
use Rattle.std.specs.declared.cmp.Ordering.TheVariants.{Less, Equal, Greater}
use Rattle.std.specs.Cmp.Lexicographic.{slice_cmp}
use Rattle.std.proofs.lemmas.Bool.{cases_lt}
use Rattle.std.proofs.lemmas.List.{get_or_append_left, get_or_push, length-append, append-nil}
use Rattle.std.proofs.lemmas.List.Elements.{Contains-append_left, Contains-push, Contains-push_cases}
use Rattle.std.proofs.lemmas.Map.Lookups.{exact_bytes}
use Rattle.std.proofs.lemmas.Map.Text.{is_eq-slice_cmp}
use Rattle.std.proofs.lemmas.Slice.Eq.{bytes_eq-Decides}
use Rattle.al_base_graph.proofs.Members.{nowhere, first, later, first_or_later}
use Rattle.al_unit_graph.specs.Headers.{Library}
use Rattle.al_unit_graph.specs.Traces.{wants}
use Rattle.al_unit_faults.specs.Wanted.{IsAt, AreNumbered, GoesOn, IsWanted, IsWantedTo}

pub goes_on_itself : (names : List (List ℕ)) → GoesOn names names
goes_on_itself names = ([], sym (append-nil names))

pub goes_on_trans : (a b c : List (List ℕ)) → GoesOn a b → GoesOn b c → GoesOn a c
goes_on_trans a b c (r, p) (s, q) = (r ++ s, q ∙ ap (λ xs. xs ++ s) p ∙ append_assoc a r s)

pub longer : (names more : List (List ℕ)) → GoesOn names more → length names ≤ length more
longer names more on = let is : length more ≡ length names + length on.0 = ap length on.1 ∙ length-append names on.0 in omega arith

pub same_name : (names more : List (List ℕ)) (i : ℕ) → GoesOn names more → i < length names → get_or more i [] ≡ get_or names i []
same_name names more i on within = ap (λ ns. get_or ns i []) on.1 ∙ get_or_append_left names on.0 [] i within

pub still_at : (names more : List (List ℕ)) (i : ℕ) (name : List ℕ) → GoesOn names more → IsAt names i name → IsAt more i name
still_at names more i name on at =
    let l = longer names more on in
    let within : i < length names = at.0 in
    (omega arith, same_name names more i on at.0 ∙ at.1)

pub at_end : (names : List (List ℕ)) (name : List ℕ) → IsAt (names ++ name ∷ []) (length names) name
at_end names name = (let l = length-append names (name ∷ []) in omega arith, get_or_push names name [] (length names) refl)

module _ {Y : Type 0} where
  found_by : (names : List (List ℕ)) (e : Vec ℕ Y × ℕ) (es : List (Vec ℕ Y × ℕ)) (q : List ℕ) (n : ℕ) (b : Bool) → is_eq (slice_cmp nat_cmp q e.0.items) ≡ b → AreNumbered names (e ∷ es) → (lookup (is_at (λ (k : Vec ℕ Y). slice_cmp nat_cmp q k.items)) es ≡ Some n → IsAt names n q) → cond b (Some e.1) (lookup (is_at (λ (k : Vec ℕ Y). slice_cmp nat_cmp q k.items)) es) ≡ Some n → IsAt names n q
  found_by names e es q n true is numbered rest at =
      let number : e.1 ≡ n = cc in
      let same = (bytes_eq-Decides q e.0.items).0 (sym (is_eq-slice_cmp q e.0.items) ∙ is) in
      subst (λ v. IsAt names v q) number (subst (λ v. IsAt names e.1 v) (sym same) (numbered e (first e es)))
  found_by names e es q n false is numbered rest at = rest at

  -- a number that is looked up is the place of the name
  pub found_number : (names : List (List ℕ)) (es : List (Vec ℕ Y × ℕ)) (q : List ℕ) (n : ℕ) → AreNumbered names es → lookup (is_at (λ (k : Vec ℕ Y). slice_cmp nat_cmp q k.items)) es ≡ Some n → IsAt names n q
  found_number names [] q n numbered at = absurd (cc)
  found_number names (e ∷ es) q n numbered at =
      found_by names e es q n (is_eq (slice_cmp nat_cmp q e.0.items)) refl numbered (found_number names es q n (λ d c. numbered d (later e es d c))) at

  abbrev IsNew : Vec ℕ Y → ℕ → Vec ℕ Y × ℕ → Type 0
  IsNew k v e = (k.items ≡ e.0.items) × (v ≡ e.1)

  abbrev insert : List (Vec ℕ Y × ℕ) → Vec ℕ Y → ℕ → List (Vec ℕ Y × ℕ)
  insert es k v = insert_entry (λ x y. slice_cmp nat_cmp x.items y.items) es k v

  entry_by : (x : Vec ℕ Y × ℕ) (es : List (Vec ℕ Y × ℕ)) (k : Vec ℕ Y) (v : ℕ) (e : Vec ℕ Y × ℕ) (o : Ordering) → slice_cmp nat_cmp k.items x.0.items ≡ o → (Contains (insert es k v) e → Contains es e ⊎ IsNew k v e) → Contains (match_ordering o ((k, v) ∷ x ∷ es) ((x.0, v) ∷ es) (x ∷ insert es k v)) e → Contains (x ∷ es) e ⊎ IsNew k v e
  entry_by x es k v e Less is rest c = elim (first_or_later (k, v) (x ∷ es) e c) [ inl same ↦ inr (ap (λ d. d.0.items) same, ap (λ d. d.1) same) | inr h ↦ inl h ]
  entry_by x es k v e Equal is rest c =
      elim (first_or_later (x.0, v) es e c) [
        | inl same ↦ inr (exact_bytes k.items x.0.items is ∙ ap (λ d. d.0.items) same, ap (λ d. d.1) same)
        | inr h ↦ inl (later x es e h)
      ]
  entry_by x es k v e Greater is rest c =
      elim (first_or_later x (insert es k v) e c) [
        | inl same ↦ inl (subst (λ d. Contains (x ∷ es) d) same (first x es))
        | inr h ↦ elim (rest h) [ inl old ↦ inl (later x es e old) | inr new ↦ inr new ]
      ]

  from_insert : (es : List (Vec ℕ Y × ℕ)) (k : Vec ℕ Y) (v : ℕ) (e : Vec ℕ Y × ℕ) → Contains (insert es k v) e → Contains es e ⊎ IsNew k v e
  from_insert [] k v e c = elim (first_or_later (k, v) [] e c) [ inl same ↦ inr (ap (λ d. d.0.items) same, ap (λ d. d.1) same) | inr h ↦ inl h ]
  from_insert (x ∷ es) k v e c = entry_by x es k v e (slice_cmp nat_cmp k.items x.0.items) refl (from_insert es k v e) c

  -- one name more, with its place
  pub numbered_added : (names : List (List ℕ)) (es : List (Vec ℕ Y × ℕ)) (k : Vec ℕ Y) → AreNumbered names es → AreNumbered (names ++ k.items ∷ []) (insert es k (length names))
  numbered_added names es k numbered e c =
      elim (from_insert es k (length names) e c) [
        | inl old ↦ still_at names (names ++ k.items ∷ []) e.1 e.0.items (k.items ∷ [], refl) (numbered e old)
        | inr new ↦
            subst (λ v. IsAt (names ++ k.items ∷ []) v e.0.items) new.1
            (subst (λ q. IsAt (names ++ k.items ∷ []) (length names) q) new.0 (at_end names k.items))
      ]

  pub numbered_none : AreNumbered {Y = Y} [] []
  numbered_none e c = absurd (nowhere e c)

module _ (lib : Library) where
  pub wanted_none : (names : List (List ℕ)) → IsWanted lib names [] 0
  wanted_none names = record {
    within = λ s c. absurd (nowhere s c);
    leads = λ s c. absurd (nowhere s c);
    led = λ a name less within c. absurd (omega arith);
  }

  -- more files after
  wanted_on : (names more : List (List ℕ)) (steps : List (ℕ × ℕ)) (count : ℕ) → count ≤ length names → GoesOn names more → IsWanted lib names steps count → IsWanted lib more steps count
  wanted_on names more steps count few on wanted =
      let l = longer names more on in
      record {
        within = λ s c. let w = wanted.within s c in let w0 : s.0 < length names = w.0 in let w1 : s.1 < length names = w.1 in (omega arith, omega arith);
        leads = λ s c.
            let w = wanted.within s c in
            let same0 = same_name names more s.0 on w.0 in
            let same1 = same_name names more s.1 on w.1 in
            subst (λ f. Contains (wants lib f) (get_or more s.1 [])) (sym same0) (subst (λ f. Contains (wants lib (get_or names s.0 [])) f) (sym same1) (wanted.leads s c));
        led = λ a name less within c.
            let inside : a < length names = omega arith in
            let r = wanted.led a name less inside (subst (λ f. Contains (wants lib f) name) (same_name names more a on inside) c) in
            (r.0, still_at names more r.0 name on r.1, r.2);
      }

  -- one step more from the file after
  pub wanted_push : (names more : List (List ℕ)) (steps : List (ℕ × ℕ)) (count to : ℕ) (name : List ℕ) (ws : List (List ℕ)) → count < length names → GoesOn names more → IsAt more to name → Contains (wants lib (get_or names count [])) name → IsWantedTo lib names steps count ws → IsWantedTo lib more (steps ++ (count, to) ∷ []) count (ws ++ name ∷ [])
  wanted_push names more steps count to name ws inside on at wants_it so_far =
      let l = longer names more on in
      let before = wanted_on names more steps count (omega arith) on so_far.before in
      let new : Contains (steps ++ (count, to) ∷ []) (count, to) = Contains-push steps (count, to) in
      let at_to : to < length more = at.0 in
      record {
        before = record {
          within = λ s c.
              elim (Contains-push_cases steps (count, to) s c) [
                | inl h ↦ before.within s h
                | inr is ↦ subst (λ t. (t.0 < length more) × (t.1 < length more)) is (let inside_more : count < length more = omega arith in (inside_more, at_to))
              ];
          leads = λ s c.
              elim (Contains-push_cases steps (count, to) s c) [
                | inl h ↦ before.leads s h
                | inr is ↦
                    let P : ℕ × ℕ → Type 0 = λ t. Contains (wants lib (get_or more t.0 [])) (get_or more t.1 []) in
                    subst P is
                    (subst (λ f. Contains (wants lib f) (get_or more to [])) (sym (same_name names more count on inside))
                    (subst (λ f. Contains (wants lib (get_or names count [])) f) (sym at.1) wants_it))
              ];
          led = λ a n less within c. let r = before.led a n less within c in (r.0, r.1, Contains-append_left steps ((count, to) ∷ []) (a, r.0) r.2);
        };
        led = λ n c.
            elim (Contains-push_cases ws name n c) [
              | inl h ↦ let r = so_far.led n h in (r.0, still_at names more r.0 n on r.1, Contains-append_left steps ((count, to) ∷ []) (count, r.0) r.2)
              | inr is ↦ (to, subst (λ v. IsAt more to v) is at, new)
            ];
      }

  pub wanted_begin : (names : List (List ℕ)) (steps : List (ℕ × ℕ)) (count : ℕ) → IsWanted lib names steps count → IsWantedTo lib names steps count []
  wanted_begin names steps count wanted = record { before = wanted; led = λ n c. absurd (nowhere n c) }

  led_by : (names : List (List ℕ)) (steps : List (ℕ × ℕ)) (count : ℕ) → IsWantedTo lib names steps count (wants lib (get_or names count [])) → (a : ℕ) (name : List ℕ) → (a < count) ⊎ (count ≤ a) → a < count + 1 → a < length names → Contains (wants lib (get_or names a [])) name → (b : ℕ) × IsAt names b name × Contains steps (a, b)
  led_by names steps count all a name (inl less) near within c = all.before.led a name less within c
  led_by names steps count all a name (inr past) near within c =
      let is : a ≡ count = omega arith in
      let r = all.led name (subst (λ v. Contains (wants lib (get_or names v [])) name) is c) in
      (r.0, r.1, subst (λ v. Contains steps (v, r.0)) (sym is) r.2)

  pub wanted_end : (names : List (List ℕ)) (steps : List (ℕ × ℕ)) (count : ℕ) → IsWantedTo lib names steps count (wants lib (get_or names count [])) → IsWanted lib names steps (count + 1)
  wanted_end names steps count all = record {
    within = all.before.within;
    leads = all.before.leads;
    led = λ a name less within c. led_by names steps count all a name (cases_lt a count) less within c;
  }

  -- all files are looked at
  pub wanted_all : (names : List (List ℕ)) (steps : List (ℕ × ℕ)) (count : ℕ) → length names ≤ count → IsWanted lib names steps count → IsWanted lib names steps (length names)
  wanted_all names steps count ended wanted = record {
    within = wanted.within;
    leads = wanted.leads;
    led = λ a name less within c. wanted.led a name (omega arith) within c;
  }
