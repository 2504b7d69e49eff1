-- Lines of code.
use Rattle.std.proofs.Common.{◌≡◌, ℕ, zero, suc, ◌+◌, ◌<◌, ◌≤◌, Bool, true, false, cond, leb, ltb, ◌&&◌, List, [], ◌∷◌, ◌++◌, length, take, drop, get_or, Option, Some, None, refl, sym, ap, subst, ◌∙◌, add-one, arith, inl, inr}
use Rattle.std.specs.List.{All}
use Rattle.std.proofs.lemmas.Bool.{leb-true, le-leb, ltb-true, lt-ltb, cases_lt}
use Rattle.std.proofs.lemmas.Bool.Decides.{nat_tests}
use Rattle.std.proofs.lemmas.List.{take-append-drop, take_more, drop_all}
use Rattle.std.proofs.lemmas.List.Elements.{All-nil, All-cons, All-head, All-tail}
use Rattle.std.proofs.Math.Seq.{drop-cons}
use Rattle.al_instr.specs.declared.lines.LineEntry.{LineEntry}
use Rattle.al_instr.specs.Lines.{AreLines, IsLineEntry, first_place, line_at, line_table, rise, shifted, with_mark}

pub both_true : (a b : Bool) → (a && b) ≡ true → (a ≡ true) × (b ≡ true)
both_true true true e = (refl, refl)
both_true true false e = absurd cc
both_true false b e = absurd cc

-- ---- the line at a place

-- a place before all
before_all : (es : List LineEntry) (lowest end place : ℕ) (b : Option ℕ) → rise lowest end es ≡ true → place < lowest → line_at es place b ≡ b
before_all [] lowest end place b h lt = refl
before_all (e ∷ es) lowest end place b h lt =
    let r = both_true ((leb lowest e.place && ltb e.place end) && leb 1 e.line) (rise (e.place + 1) end es) h in
    let k = both_true (leb lowest e.place && ltb e.place end) (leb 1 e.line) r.0 in
    let m = both_true (leb lowest e.place) (ltb e.place end) k.0 in
    let low : lowest ≤ e.place = leb-true _ _ m.0 in
    let test : leb e.place place ≡ false = grind (arith, nat_tests) in
    rw test (before_all es (e.place + 1) end place b r.1 (omega arith))

line_append : (xs ys : List LineEntry) (place : ℕ) (b : Option ℕ) → line_at (xs ++ ys) place b ≡ line_at ys place (line_at xs place b)
line_append [] ys place b = refl
line_append (x ∷ xs) ys place b = line_append xs ys place (cond (leb x.place place) (Some x.line) b)

-- what is left after some rises from the first of it on
rise_drop : (es : List LineEntry) (lowest end n : ℕ) (d : LineEntry) → rise lowest end es ≡ true → n < length es → rise (get_or es n d).place end (drop n es) ≡ true
rise_drop [] lowest end n d h lt = absurd (omega arith)
rise_drop (e ∷ es) lowest end zero d h lt =
    let r = both_true ((leb lowest e.place && ltb e.place end) && leb 1 e.line) (rise (e.place + 1) end es) h in
    let k = both_true (leb lowest e.place && ltb e.place end) (leb 1 e.line) r.0 in
    let m = both_true (leb lowest e.place) (ltb e.place end) k.0 in
    let self : leb e.place e.place ≡ true = le-leb e.place e.place (omega arith) in
    rw (self, m.1, k.1, r.1) refl
rise_drop (e ∷ es) lowest end (suc n) d h lt =
    let r = both_true ((leb lowest e.place && ltb e.place end) && leb 1 e.line) (rise (e.place + 1) end es) h in
    rise_drop es (e.place + 1) end n d r.1 (omega arith)

-- after the last entry whose place isn't after it
pub none_before : (es : List LineEntry) (end place : ℕ) → rise 0 end es ≡ true → ((d : LineEntry) → 0 < length es → place < (get_or es 0 d).place) → line_at es place None ≡ None
none_before [] end place h first = refl
none_before (e ∷ es) end place h first =
    let r = rise_drop (e ∷ es) 0 end 0 e h (omega arith) in
    before_all (e ∷ es) e.place end place None r (first e (omega arith))

pub found_line : (es : List LineEntry) (end place n : ℕ) (d : LineEntry) → rise 0 end es ≡ true → n < length es → (get_or es n d).place ≤ place → ((c : LineEntry) → n + 1 < length es → place < (get_or es (n + 1) c).place) → line_at es place None ≡ Some (get_or es n d).line
found_line es end place n d h lt le next =
    let x : LineEntry = get_or es n d in
    let front : take (n + 1) es ≡ take n es ++ x ∷ [] = take_more es n d lt in
    let test : leb x.place place ≡ true = le-leb x.place place le in
    let first : line_at (take (n + 1) es) place None ≡ Some x.line =
    ap (λ (xs : List LineEntry). line_at xs place None) front ∙ line_append (take n es) (x ∷ []) place None ∙ rw test refl in
    let later : line_at (drop (n + 1) es) place (Some x.line) ≡ Some x.line =
    elim (cases_lt (n + 1) (length es)) [
      | inl more ↦ before_all (drop (n + 1) es) (get_or es (n + 1) x).place end place (Some x.line) (rise_drop es 0 end (n + 1) x h more) (next x more)
      | inr last ↦ ap (λ (xs : List LineEntry). line_at xs place (Some x.line)) (drop_all (n + 1) es last)
    ] in
    ap (λ (xs : List LineEntry). line_at xs place None) (sym (take-append-drop (n + 1) es)) ∙ line_append (take (n + 1) es) (drop (n + 1) es) place None
    ∙ ap (λ (b : Option ℕ). line_at (drop (n + 1) es) place b) first ∙ later

-- ---- the marks that stay

rise_from : (es : List LineEntry) (lowest end : ℕ) → rise 0 end es ≡ true → lowest ≤ first_place end es → rise lowest end es ≡ true
rise_from [] lowest end h le = refl
rise_from (e ∷ es) lowest end h le =
    let r = both_true ((leb 0 e.place && ltb e.place end) && leb 1 e.line) (rise (e.place + 1) end es) h in
    let k = both_true (leb 0 e.place && ltb e.place end) (leb 1 e.line) r.0 in
    let m = both_true (leb 0 e.place) (ltb e.place end) k.0 in
    let test : leb lowest e.place ≡ true = le-leb lowest e.place le in
    rw (test, m.1, k.1, r.1) refl

first_within : (es : List LineEntry) (end : ℕ) → rise 0 end es ≡ true → first_place end es ≤ end
first_within [] end h = omega arith
first_within (e ∷ es) end h =
    let r = both_true ((leb 0 e.place && ltb e.place end) && leb 1 e.line) (rise (e.place + 1) end es) h in
    let k = both_true (leb 0 e.place && ltb e.place end) (leb 1 e.line) r.0 in
    let m = both_true (leb 0 e.place) (ltb e.place end) k.0 in
    let high : e.place < end = ltb-true _ _ m.1 in
    omega arith

with_mark_rises : (end : ℕ) (m : LineEntry) (es : List LineEntry) → 1 ≤ m.line → rise 0 end es ≡ true → (b : Bool) → ltb m.place (first_place end es) ≡ b → rise 0 end (cond b (m ∷ es) es) ≡ true
with_mark_rises end m es some h false e = h
with_mark_rises end m es some h true e =
    let before : m.place < first_place end es = ltb-true _ _ e in
    let low : leb 0 m.place ≡ true = le-leb 0 m.place (omega arith) in
    let high : ltb m.place end ≡ true = lt-ltb m.place end (omega (arith, first_within es end h)) in
    let line : leb 1 m.line ≡ true = le-leb 1 m.line some in
    let rest : rise (m.place + 1) end es ≡ true = rise_from es (m.place + 1) end h (omega arith) in
    rw (low, high, line, rest) refl

-- they rise, are below the end, and lines are at least 1 where those of all marks are
pub line_table_rises : (end : ℕ) (ms : List LineEntry) → All (λ m. 1 ≤ m.line) ms → rise 0 end (line_table end ms) ≡ true
line_table_rises end [] all = refl
line_table_rises end (m ∷ ms) all =
    with_mark_rises end m (line_table end ms) (All-head (λ x. 1 ≤ x.line) m ms all) (line_table_rises end ms (All-tail (λ x. 1 ≤ x.line) m ms all)) (ltb m.place (first_place end (line_table end ms))) refl

-- so they are lines of a code of this length, where lines are words
pub line_table_keeps : (end : ℕ) (ms : List LineEntry) → end ≤ 0x1_0000_0000 → All (λ m. 1 ≤ m.line) ms → All (λ m. m.line < 0x1_0000_0000) ms → AreLines end (line_table end ms)
line_table_keeps end ms few some fit = record { rise_in = line_table_rises end ms some; fit = fits ms some fit } where
  one : (m : LineEntry) (es : List LineEntry) → rise 0 end es ≡ true → m.line < 0x1_0000_0000 → All IsLineEntry es → (b : Bool) → ltb m.place (first_place end es) ≡ b → All IsLineEntry (cond b (m ∷ es) es)
  one m es h word all false e = all
  one m es h word all true e =
      let before : m.place < first_place end es = ltb-true _ _ e in
      let low : m.place < 0x1_0000_0000 = omega (arith, first_within es end h) in
      All-cons IsLineEntry m es (low, word) all

  fits : (ms : List LineEntry) → All (λ m. 1 ≤ m.line) ms → All (λ m. m.line < 0x1_0000_0000) ms → All IsLineEntry (line_table end ms)
  fits [] some fit = All-nil IsLineEntry
  fits (m ∷ ms) some fit =
      one m (line_table end ms) (line_table_rises end ms (All-tail (λ x. 1 ≤ x.line) m ms some)) (All-head (λ x. x.line < 0x1_0000_0000) m ms fit)
      (fits ms (All-tail (λ x. 1 ≤ x.line) m ms some) (All-tail (λ x. x.line < 0x1_0000_0000) m ms fit)) (ltb m.place (first_place end (line_table end ms))) refl

pub line_table_drop : (end : ℕ) (ms : List LineEntry) (i : ℕ) (m : LineEntry) → i < length ms → m ≡ get_or ms i m → line_table end (drop i ms) ≡ with_mark end m (line_table end (drop (i + 1) ms))
line_table_drop end ms i m lt at =
    ap (λ (xs : List LineEntry). line_table end xs) (drop-cons ms i m lt ∙ ap (λ (n : ℕ). get_or ms i m ∷ drop n ms) (sym (add-one i)) ∙ ap (λ (x : LineEntry). x ∷ drop (i + 1) ms) (sym at))

-- ---- lines of code one after the other

pub rise_shifted : (es : List LineEntry) (lowest end start : ℕ) → rise lowest end es ≡ true → rise (start + lowest) (start + end) (shifted start es) ≡ true
rise_shifted [] lowest end start h = refl
rise_shifted (e ∷ es) lowest end start h =
    let r = both_true ((leb lowest e.place && ltb e.place end) && leb 1 e.line) (rise (e.place + 1) end es) h in
    let k = both_true (leb lowest e.place && ltb e.place end) (leb 1 e.line) r.0 in
    let m = both_true (leb lowest e.place) (ltb e.place end) k.0 in
    let low : leb (start + lowest) (start + e.place) ≡ true = le-leb _ _ (omega (arith, leb-true _ _ m.0)) in
    let high : ltb (start + e.place) (start + end) ≡ true = lt-ltb _ _ (omega (arith, ltb-true _ _ m.1)) in
    let at : start + (e.place + 1) ≡ (start + e.place) + 1 = omega arith in
    let rest : rise ((start + e.place) + 1) (start + end) (shifted start es) ≡ true = subst (λ (n : ℕ). rise n (start + end) (shifted start es) ≡ true) at (rise_shifted es (e.place + 1) end start r.1) in
    rw (low, high, k.1, rest) refl

lower : (es : List LineEntry) (lowest less end : ℕ) → less ≤ lowest → rise lowest end es ≡ true → rise less end es ≡ true
lower [] lowest less end le h = refl
lower (e ∷ es) lowest less end le h =
    let r = both_true ((leb lowest e.place && ltb e.place end) && leb 1 e.line) (rise (e.place + 1) end es) h in
    let k = both_true (leb lowest e.place && ltb e.place end) (leb 1 e.line) r.0 in
    let m = both_true (leb lowest e.place) (ltb e.place end) k.0 in
    let low : leb less e.place ≡ true = le-leb _ _ (omega (arith, leb-true _ _ m.0)) in
    rw (low, m.1, k.1, r.1) refl

-- a longer code has them too
pub rise_within : (es : List LineEntry) (lowest end more : ℕ) → end ≤ more → rise lowest end es ≡ true → rise lowest more es ≡ true
rise_within [] lowest end more le h = refl
rise_within (e ∷ es) lowest end more le h =
    let r = both_true ((leb lowest e.place && ltb e.place end) && leb 1 e.line) (rise (e.place + 1) end es) h in
    let k = both_true (leb lowest e.place && ltb e.place end) (leb 1 e.line) r.0 in
    let m = both_true (leb lowest e.place) (ltb e.place end) k.0 in
    let before : e.place < end = ltb-true _ _ m.1 in
    let high : ltb e.place more ≡ true = lt-ltb _ _ (omega arith) in
    rw (m.0, high, k.1, rise_within es (e.place + 1) end more le r.1) refl

pub rise_append : (xs ys : List LineEntry) (lowest middle end : ℕ) → lowest ≤ middle → middle ≤ end → rise lowest middle xs ≡ true → rise middle end ys ≡ true → rise lowest end (xs ++ ys) ≡ true
rise_append [] ys lowest middle end le more h k = lower ys middle lowest end le k
rise_append (x ∷ xs) ys lowest middle end le more h k =
    let r = both_true ((leb lowest x.place && ltb x.place middle) && leb 1 x.line) (rise (x.place + 1) middle xs) h in
    let q = both_true (leb lowest x.place && ltb x.place middle) (leb 1 x.line) r.0 in
    let m = both_true (leb lowest x.place) (ltb x.place middle) q.0 in
    let before : x.place < middle = ltb-true _ _ m.1 in
    let high : ltb x.place end ≡ true = lt-ltb _ _ (omega arith) in
    rw (m.0, high, q.1, rise_append xs ys (x.place + 1) middle end (omega arith) more r.1 k) refl
