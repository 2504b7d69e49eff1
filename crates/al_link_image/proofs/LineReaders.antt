-- Readers of code and of its lines.
use Rattle.std.proofs.Common.{◌≡◌, ℕ, suc, ◌+◌, ◌<◌, ◌≤◌, ◌==◌, Bool, true, false, cond, leb, ltb, ◌&&◌, List, [], ◌∷◌, ◌++◌, length, take, drop, Option, Some, None, refl, sym, ap, subst, ◌∙◌, append_assoc, append-nil, arith, inl, inr}
use Rattle.std.specs.Prelude.{IfSome, Vec, option_map}
use Rattle.std.specs.List.{flat_map}
use Rattle.std.specs.Str.{bytes_eq}
use Rattle.std.proofs.lemmas.Bool.{leb-true, ltb-true, ltb-false, le-ltb}
use Rattle.std.proofs.lemmas.Bool.Decides.{nat_tests}
use Rattle.std.proofs.lemmas.List.{take_at, drop_at, take-append-drop, length-append, length-take, length-take-le}
use Rattle.std.proofs.lemmas.Slice.Eq.{bytes_eq-Decides}
use Rattle.al_instr.specs.Codes.{word_bytes}
use Rattle.al_instr.specs.Reading.{◌>>=◌, word_at}
use Rattle.al_instr.proofs.Fields.{IsBytes, IsBytes-drop, Takes, Takes-then, bind_some, chosen, word_again, word_takes}
use Rattle.al_instr.specs.declared.lines.LineEntry.{LineEntry}
use Rattle.al_instr.specs.Lines.{AreLines, IsLineEntry, rise}
use Rattle.al_instr.proofs.LineLemmas.{both_true}
use Rattle.al_link_image.specs.Lines.{LinesFit, entry_bytes, lines_bytes, mark_of}
use Rattle.al_link_image.specs.Reading.{checked, code_at, counted_at, entries_at, entry_at, limited_at, lines_at, tail_at, version_at}
use Rattle.al_link_image.proofs.Readers.{Reads, checked_some, counted_read, limited_read}

no_item : (m : ℕ) → (m == 0) ≡ true → m ≡ 0
no_item m e = grind (arith, nat_tests)

empty_is : (bytes : List ℕ) → (length bytes == 0) ≡ true → bytes ≡ []
empty_is [] e = refl
empty_is (b ∷ bytes) e = absurd (let none : suc (length bytes) ≡ 0 = no_item (suc (length bytes)) e in omega arith)

-- ---- the version

abbrev pub has_lines : Option (List LineEntry) → Bool
has_lines None = false
has_lines (Some es) = true

abbrev pub mark_by : Bool → List ℕ
mark_by false = mark_of None
mark_by true = mark_of (Some [])

six_taken : (bytes mark : List ℕ) → IsBytes bytes → bytes_eq (take 6 bytes) mark ≡ true → Takes bytes mark (drop 6 bytes)
six_taken bytes mark fits e =
    let front : take 6 bytes ≡ mark = (bytes_eq-Decides (take 6 bytes) mark).0 e in
    record { parts = sym (take-append-drop 6 bytes) ∙ ap (λ (xs : List ℕ). xs ++ drop 6 bytes) front; rest_fits = IsBytes-drop 6 bytes fits }

pub version_takes : (bytes : List ℕ) (x : Bool × List ℕ) → IsBytes bytes → version_at bytes ≡ Some x → Takes bytes (mark_by x.0) x.1
unfolding version_at
version_takes bytes x fits e =
    elim (chosen (bytes_eq (take 6 bytes) (mark_of None)) (Some (false, drop 6 bytes)) _ (Some x) e) [
      | inl h ↦
          let same : (false, drop 6 bytes) ≡ x = cc in
          subst (λ (y : Bool × List ℕ). Takes bytes (mark_by y.0) y.1) same (six_taken bytes (mark_of None) fits h.0)
      | inr h ↦
          let g = checked_some (bytes_eq (take 6 bytes) (mark_of (Some []))) (true, drop 6 bytes) x h.1 in
          subst (λ (y : Bool × List ℕ). Takes bytes (mark_by y.0) y.1) g.1 (six_taken bytes (mark_of (Some [])) fits g.0)
    ]

pub version_again : (lines : Option (List LineEntry)) (rest : List ℕ) → version_at (mark_of lines ++ rest) ≡ Some (has_lines lines, rest)
unfolding version_at
version_again None rest = refl
version_again (Some es) rest = refl

-- ---- code

guard_none : {A : Type 0} (b : Bool) (x : Option A) (y : A) → cond b None x ≡ Some y → (b ≡ false) × (x ≡ Some y)
guard_none true x y e = absurd cc
guard_none false x y e = (refl, e)

code_takes : (bytes : List ℕ) (x : List ℕ × List ℕ) → IsBytes bytes → code_at bytes ≡ Some x → Takes bytes (word_bytes (length x.0) ++ x.0) x.1 × (length x.0 ≤ 16777216)
unfolding code_at
code_takes bytes x fits e =
    let r = limited_read 16777216 (omega arith) in
    let f : ℕ × List ℕ → Option (List ℕ × List ℕ) = λ n. cond (ltb (length n.1) n.0) None (Some (take n.0 n.1, drop n.0 n.1)) in
    let n = bind_some (limited_at 16777216 bytes) f x e in
    let g = guard_none (ltb (length n.0.1) n.0.0) (Some (take n.0.0 n.0.1, drop n.0.0 n.0.1)) x n.2 in
    let same : (take n.0.0 n.0.1, drop n.0.0 n.0.1) ≡ x = let h = g.1 in cc in
    let t = r.takes bytes n.0.0 n.0.1 fits n.1 in
    let long : n.0.0 ≤ length n.0.1 = ltb-false _ _ g.0 in
    let len : length (take n.0.0 n.0.1) ≡ n.0.0 = length-take-le n.0.0 n.0.1 long in
    let after : Takes n.0.1 (take n.0.0 n.0.1) (drop n.0.0 n.0.1) = record { parts = sym (take-append-drop n.0.0 n.0.1); rest_fits = IsBytes-drop n.0.0 n.0.1 t.0.rest_fits } in
    let two = Takes-then bytes (word_bytes n.0.0) n.0.1 (take n.0.0 n.0.1) (drop n.0.0 n.0.1) t.0 after in
    let named : Takes bytes (word_bytes (length (take n.0.0 n.0.1)) ++ take n.0.0 n.0.1) (drop n.0.0 n.0.1) =
    subst (λ (m : ℕ). Takes bytes (word_bytes m ++ take n.0.0 n.0.1) (drop n.0.0 n.0.1)) (sym len) two in
    subst (λ (y : List ℕ × List ℕ). Takes bytes (word_bytes (length y.0) ++ y.0) y.1 × (length y.0 ≤ 16777216)) same (named, omega (arith, len, t.1))

code_again_at : (code rest : List ℕ) → length code ≤ 16777216 → code_at (word_bytes (length code) ++ (code ++ rest)) ≡ Some (code, rest)
unfolding code_at
code_again_at code rest le =
    let r = limited_read 16777216 (omega arith) in
    let long : ltb (length (code ++ rest)) (length code) ≡ false = le-ltb _ _ (omega (arith, length-append code rest)) in
    rw (r.again (length code) (code ++ rest) le, long, take_at code rest (length code) refl, drop_at code rest (length code) refl) refl

-- ---- lines

entry_takes : (bytes : List ℕ) (x : LineEntry) (rest : List ℕ) → IsBytes bytes → entry_at bytes ≡ Some (x, rest) → Takes bytes (entry_bytes x) rest × IsLineEntry x
unfolding entry_at
entry_takes bytes x rest fits e =
    let last : ℕ × List ℕ → ℕ × List ℕ → Option (LineEntry × List ℕ) = λ p l. Some (record { place = p.0; line = l.0 }, l.1) in
    let p = bind_some (word_at bytes) (λ p. word_at p.1 >>= λ l. last p l) (x, rest) e in
    let l = bind_some (word_at p.0.1) (λ l. last p.0 l) (x, rest) p.2 in
    let same : (record { place = p.0.0; line = l.0.0 }, l.0.1) ≡ (x, rest) = let h = l.2 in cc in
    let tp = word_takes bytes p.0.0 p.0.1 fits p.1 in
    let tl = word_takes p.0.1 l.0.0 l.0.1 tp.0.rest_fits l.1 in
    let two = Takes-then bytes (word_bytes p.0.0) p.0.1 (word_bytes l.0.0) l.0.1 tp.0 tl.0 in
    subst (λ (y : LineEntry × List ℕ). Takes bytes (entry_bytes y.0) y.1 × IsLineEntry y.0) same (two, (tp.1, tl.1))

entry_again : (x : LineEntry) (rest : List ℕ) → IsLineEntry x → entry_at (entry_bytes x ++ rest) ≡ Some (x, rest)
unfolding entry_at
entry_again x rest h =
    rw (append_assoc (word_bytes x.place) (word_bytes x.line) rest, word_again x.place (word_bytes x.line ++ rest) h.0, word_again x.line rest h.1) refl

entry_read : Reads entry_at entry_bytes IsLineEntry
entry_read = record { takes = entry_takes; again = entry_again }

-- as many lines as bytes at most
pub rise_count : (lowest end : ℕ) (es : List LineEntry) → lowest ≤ end → rise lowest end es ≡ true → lowest + length es ≤ end
rise_count lowest end [] le e = omega arith
rise_count lowest end (x ∷ es) le e =
    let h = both_true ((leb lowest x.place && ltb x.place end) && leb 1 x.line) (rise (x.place + 1) end es) e in
    let k = both_true (leb lowest x.place && ltb x.place end) (leb 1 x.line) h.0 in
    let m = both_true (leb lowest x.place) (ltb x.place end) k.0 in
    let low : lowest ≤ x.place = leb-true _ _ m.0 in
    let high : x.place < end = ltb-true _ _ m.1 in
    let ih = rise_count (x.place + 1) end es (omega arith) h.1 in
    omega (arith, ih)

entries_take : (end : ℕ) (bytes : List ℕ) (es : List LineEntry) → IsBytes bytes → entries_at end bytes ≡ Some es → (bytes ≡ word_bytes (length es) ++ flat_map entry_bytes es) × AreLines end es
unfolding entries_at
entries_take end bytes es fits e =
    let r = counted_read entry_at entry_bytes IsLineEntry entry_read 16777216 (omega arith) in
    let b = bind_some (counted_at 16777216 entry_at bytes) (λ x. checked (length x.1 == 0 && rise 0 end x.0) x.0) es e in
    let g = checked_some (length b.0.1 == 0 && rise 0 end b.0.0) b.0.0 es b.2 in
    let tests = both_true (length b.0.1 == 0) (rise 0 end b.0.0) g.0 in
    let t = r.takes bytes b.0.0 b.0.1 fits b.1 in
    let all : bytes ≡ word_bytes (length b.0.0) ++ flat_map entry_bytes b.0.0 = t.0.parts ∙ ap (λ (xs : List ℕ). (word_bytes (length b.0.0) ++ flat_map entry_bytes b.0.0) ++ xs) (empty_is b.0.1 tests.0) ∙ append-nil (word_bytes (length b.0.0) ++ flat_map entry_bytes b.0.0) in
    subst (λ (xs : List LineEntry). (bytes ≡ word_bytes (length xs) ++ flat_map entry_bytes xs) × AreLines end xs) g.1 (all, record { rise_in = tests.1; fit = t.1.1 })

entries_again : (end : ℕ) (es : List LineEntry) → end ≤ 16777216 → AreLines end es → entries_at end (word_bytes (length es) ++ flat_map entry_bytes es) ≡ Some es
unfolding entries_at
entries_again end es le h =
    let r = counted_read entry_at entry_bytes IsLineEntry entry_read 16777216 (omega arith) in
    let few : length es ≤ 16777216 = omega (arith, rise_count 0 end es (omega arith) h.rise_in) in
    rw (sym (append-nil (word_bytes (length es) ++ flat_map entry_bytes es)), r.again es [] (few, h.fit), h.rise_in) refl

lines_take : (v : Bool) (end : ℕ) (bytes : List ℕ) (lines : Option (List LineEntry)) → IsBytes bytes → lines_at v end bytes ≡ Some lines → (bytes ≡ lines_bytes lines) × LinesFit end lines × (mark_by v ≡ mark_of lines)
unfolding lines_at
lines_take false end bytes lines fits e =
    let g = checked_some (length bytes == 0) None lines e in
    subst (λ (x : Option (List LineEntry)). (bytes ≡ lines_bytes x) × LinesFit end x × (mark_by false ≡ mark_of x)) g.1 (empty_is bytes g.0, tt, refl)
lines_take true end bytes lines fits e =
    let b = bind_some (entries_at end bytes) (λ es. Some (Some es)) lines e in
    let same : Some b.0 ≡ lines = let h = b.2 in cc in
    let t = entries_take end bytes b.0 fits b.1 in
    subst (λ (x : Option (List LineEntry)). (bytes ≡ lines_bytes x) × LinesFit end x × (mark_by true ≡ mark_of x)) same (t.0, t.1, refl)

lines_again : (end : ℕ) (lines : Option (List LineEntry)) → end ≤ 16777216 → LinesFit end lines → lines_at (has_lines lines) end (lines_bytes lines) ≡ Some lines
unfolding lines_at
lines_again end None le h = refl
lines_again end (Some es) le h = rw (entries_again end es le h) refl

-- ---- the code and its lines

pub tail_takes : (v : Bool) (bytes : List ℕ) (x : List ℕ × Option (List LineEntry)) → IsBytes bytes → tail_at v bytes ≡ Some x → (bytes ≡ (word_bytes (length x.0) ++ x.0) ++ lines_bytes x.1) × (length x.0 ≤ 16777216) × LinesFit (length x.0) x.1 × (mark_by v ≡ mark_of x.1)
unfolding tail_at
tail_takes v bytes x fits e =
    let c = bind_some (code_at bytes) (λ c. lines_at v (length c.0) c.1 >>= λ l. Some (c.0, l)) x e in
    let l = bind_some (lines_at v (length c.0.0) c.0.1) (λ l. Some (c.0.0, l)) x c.2 in
    let same : (c.0.0, l.0) ≡ x = let h = l.2 in cc in
    let tc = code_takes bytes c.0 fits c.1 in
    let tl = lines_take v (length c.0.0) c.0.1 l.0 tc.0.rest_fits l.1 in
    let all : bytes ≡ (word_bytes (length c.0.0) ++ c.0.0) ++ lines_bytes l.0 = tc.0.parts ∙ ap (λ (xs : List ℕ). (word_bytes (length c.0.0) ++ c.0.0) ++ xs) tl.0 in
    subst (λ (y : List ℕ × Option (List LineEntry)). (bytes ≡ (word_bytes (length y.0) ++ y.0) ++ lines_bytes y.1) × (length y.0 ≤ 16777216) × LinesFit (length y.0) y.1 × (mark_by v ≡ mark_of y.1)) same (all, tc.1, tl.1, tl.2)

pub tail_again : (code : List ℕ) (lines : Option (List LineEntry)) → length code ≤ 16777216 → LinesFit (length code) lines → tail_at (has_lines lines) (word_bytes (length code) ++ (code ++ lines_bytes lines)) ≡ Some (code, lines)
unfolding tail_at
tail_again code lines le h =
    rw (code_again_at code (lines_bytes lines) le, lines_again (length code) lines le h) refl

-- ---- what reading the version gives

decided : (b : Bool) → (b ≡ true → ⊥) → b ≡ false
decided true never = absurd (never refl)
decided false never = refl

not_same : (xs ys : List ℕ) → (xs ≡ ys → ⊥) → bytes_eq xs ys ≡ false
not_same xs ys never = decided (bytes_eq xs ys) (λ e. never ((bytes_eq-Decides xs ys).0 e))

pub version_short : (bytes : List ℕ) → length bytes < 6 → version_at bytes ≡ None
unfolding version_at
version_short bytes lt =
    let none : (mark : List ℕ) → length mark ≡ 6 → bytes_eq (take 6 bytes) mark ≡ false = λ mark n. not_same (take 6 bytes) mark (λ e. omega (arith, ap (λ (xs : List ℕ). length xs) e, length-take 6 bytes)) in
    rw (none (mark_of None) refl, none (mark_of (Some [])) refl) refl

pub version_first : (bytes front rest : List ℕ) → front ≡ take 6 bytes → rest ≡ drop 6 bytes → bytes_eq front (mark_of None) ≡ true → version_at bytes ≡ Some (false, rest)
unfolding version_at
version_first bytes front rest f r e =
    let h : bytes_eq (take 6 bytes) (mark_of None) ≡ true = subst (λ (xs : List ℕ). bytes_eq xs (mark_of None) ≡ true) f e in
    rw (h, r) refl

pub version_second : (bytes front rest : List ℕ) → front ≡ take 6 bytes → rest ≡ drop 6 bytes → bytes_eq front (mark_of None) ≡ false → bytes_eq front (mark_of (Some [])) ≡ true → version_at bytes ≡ Some (true, rest)
unfolding version_at
version_second bytes front rest f r e k =
    let h : bytes_eq (take 6 bytes) (mark_of None) ≡ false = subst (λ (xs : List ℕ). bytes_eq xs (mark_of None) ≡ false) f e in
    let i : bytes_eq (take 6 bytes) (mark_of (Some [])) ≡ true = subst (λ (xs : List ℕ). bytes_eq xs (mark_of (Some [])) ≡ true) f k in
    rw (h, i, r) refl

pub version_none : (bytes front : List ℕ) → front ≡ take 6 bytes → bytes_eq front (mark_of None) ≡ false → bytes_eq front (mark_of (Some [])) ≡ false → version_at bytes ≡ None
unfolding version_at
version_none bytes front f e k =
    let h : bytes_eq (take 6 bytes) (mark_of None) ≡ false = subst (λ (xs : List ℕ). bytes_eq xs (mark_of None) ≡ false) f e in
    let i : bytes_eq (take 6 bytes) (mark_of (Some [])) ≡ false = subst (λ (xs : List ℕ). bytes_eq xs (mark_of (Some [])) ≡ false) f k in
    rw (h, i) refl

-- there are few enough lines
pub few_lines : {Z : Type 0} (lines : Option (Vec LineEntry Z)) (end : ℕ) → end ≤ 16777216 → LinesFit end (option_map (λ v. v.items) lines) → IfSome lines (λ v. length v.items ≤ 16777216)
few_lines None end le h = tt
few_lines (Some v) end le h = omega (arith, rise_count 0 end v.items (omega arith) h.rise_in)
