-- What the object of a unit keeps.
use Rattle.std.proofs.Common.{◌≡◌, ℕ, ◌+◌, ◌≤◌, true, false, leb, List, [], ◌∷◌, ◌++◌, length, map, Option, Some, None, refl, sym, subst, ◌∙◌, arith, inl, inr}
use Rattle.std.specs.Prelude.{All, IsSomeAnd}
use Rattle.std.proofs.lemmas.Bool.{cases_lt}
use Rattle.std.proofs.lemmas.Bool.Decides.{nat_tests}
use Rattle.std.proofs.lemmas.List.{length-map}
use Rattle.std.proofs.lemmas.List.Elements.{All-nil, All-cons, All-head, All-tail, All-append, All-map, All-weaker}
use Rattle.al_view.specs.ViewUses.{link}
use Rattle.al_view.specs.declared.link.LinkKind.{LinkKind}
use Rattle.al_view.specs.declared.link.LinkKind.TheVariants as links
use Rattle.al_view_typed.specs.UnitTrees.{UnitTree}
use Rattle.al_view_typed.specs.WellFormed.{IsWellFormed}
use Rattle.al_view_typed.specs.declared.unit.DataPlace.{DataPlace}
use Rattle.al_view_typed.specs.declared.unit.ProtectedWords.{ProtectedWords}
use Rattle.al_code_object.specs.declared.object.Address.{Address}
use Rattle.al_code_object.specs.declared.object.Object.TheVariants.{Large, Compiled}
use Rattle.al_code_object.specs.declared.object.Relocation.{Relocation}
use Rattle.al_code_object.specs.Objects.{CompiledCode, IsCode, Keeps, LiesIn, StandsAt, StandsIn}
use Rattle.al_instr.specs.declared.lines.LineEntry.{LineEntry}
use Rattle.al_instr.specs.Lines.{AreLines, line_table}
use Rattle.al_code.specs.Kept.{IsCodeKind, StandsWithin}
use Rattle.al_code.specs.Pieces.{size}
use Rattle.al_code.specs.Written.{Buffer, empty, grown, written}
use Rattle.al_code.proofs.Lines.{table_keeps}
use Rattle.al_code.proofs.Writing.{writes_all}
use Rattle.al_code.specs.Images.{word_of}
use Rattle.al_code.specs.ObjectOf.{data_addresses, object_of, place_address, protected_addresses, region_of, tasks_of}
use Rattle.al_code.specs.Routines.{unit_code}

-- ---- the places of symbols

stands_code : (o : CompiledCode) (a : Address) → StandsWithin (length o.code) a → StandsIn o a
stands_code o a h = at a.symbol.kind h.0 where
  at : (k : LinkKind) → IsCodeKind k → StandsAt o k a.offset
  at links.Code is = h.1
  at links.Gate is = h.1
  at links.EntryBody is = h.1
  at _ is = absurd is

stands_numbered : (o : CompiledCode) (n : ℕ) (ps : List ProtectedWords) → n + length ps ≤ length o.protected → All (λ (p : ProtectedWords). p.word + p.words ≤ o.data_words) ps → All (StandsIn o) (protected_addresses n ps)
stands_numbered o n [] few all = All-nil (StandsIn o)
stands_numbered o n (p ∷ ps) few all =
    let lies : p.word + p.words ≤ o.data_words = All-head (λ (q : ProtectedWords). q.word + q.words ≤ o.data_words) p ps all in
    All-cons (StandsIn o) (record { symbol = link links.Data p.symbol; offset = p.word }) (record { symbol = link links.Protected p.symbol; offset = word_of n } ∷ protected_addresses (n + 1) ps) (omega arith)
    (All-cons (StandsIn o) (record { symbol = link links.Protected p.symbol; offset = word_of n }) (protected_addresses (n + 1) ps) (omega arith)
    (stands_numbered o (n + 1) ps (omega arith) (All-tail (λ (q : ProtectedWords). q.word + q.words ≤ o.data_words) p ps all)))

-- what is made of a well-formed unit and of code that was written keeps what each object keeps
pub unit_keeps : (u : UnitTree) (code : List ℕ) (uses : List Relocation) (defines : List Address) (tasks : ℕ) (lines : List LineEntry) → IsWellFormed u → IsCode code uses → length code ≤ 16777216 → All (StandsWithin (length code)) defines → AreLines (length code) lines
    → Keeps (record { code = code; uses = uses; defines = defines ++ data_addresses u; data_words = u.words; tasks = tasks; protected = map region_of u.protected_objects; lines = lines })
unit_keeps u code uses defines tasks lines fine is within standing are =
    let o : CompiledCode = record { code = code; uses = uses; defines = defines ++ data_addresses u; data_words = u.words; tasks = tasks; protected = map region_of u.protected_objects; lines = lines } in
    record {
      code = is;
      within = within;
      defines =
          All-append (StandsIn o) defines (data_addresses u) (All-weaker (StandsWithin (length code)) (StandsIn o) (λ a h. stands_code o a h) defines standing)
          (All-append (StandsIn o) (map (place_address links.Data) u.objects ++ map (place_address links.Flag) u.flags) (protected_addresses 0 u.protected_objects)
          (All-append (StandsIn o) (map (place_address links.Data) u.objects) (map (place_address links.Flag) u.flags)
          (All-map (StandsIn o) (place_address links.Data) u.objects fine.objects)
          (All-map (StandsIn o) (place_address links.Flag) u.flags (All-weaker (λ (p : DataPlace). p.word + 1 ≤ u.words) (λ (p : DataPlace). p.word ≤ u.words) (λ p h. omega (arith, h)) u.flags fine.flags)))
          (stands_numbered o 0 u.protected_objects (omega (arith, length-map u.protected_objects region_of)) fine.regions));
      regions = All-map (LiesIn u.words) region_of u.protected_objects fine.regions;
      lines = are;
    }

-- ---- the object by what was written

pub object_large : (u : UnitTree) (w : Option Buffer) → w ≡ written (Some empty) (unit_code u) → w ≡ None → Large ≡ object_of u
unfolding object_of
object_large u w is none =
    elim (cases_lt 16777216 (size (unit_code u))) [
      | inl lt ↦ let t : leb (size (unit_code u)) 16777216 ≡ false = grind (arith, nat_tests) in rw t refl
      | inr le ↦
          let t : leb (size (unit_code u)) 16777216 ≡ true = grind (arith, nat_tests) in
          let some : Some (grown empty (unit_code u)) ≡ None = sym (is ∙ writes_all (unit_code u) ∙ rw t refl) ∙ none in
          absurd cc
    ]

pub object_small : (u : UnitTree) (w : Option Buffer) (code : List ℕ) (uses : List Relocation) (defines : List Address) (lines : List LineEntry) → w ≡ written (Some empty) (unit_code u) → IsSomeAnd w (λ b. (code ≡ b.code) × (uses ≡ b.uses) × (defines ≡ b.defines) × (lines ≡ b.lines))
    → Compiled (record { code = code; uses = uses; defines = defines ++ data_addresses u; data_words = u.words; tasks = word_of (tasks_of u.elaboration); protected = map region_of u.protected_objects; lines = line_table (length code) lines }) ≡ object_of u
unfolding object_of
object_small u w code uses defines lines is parts =
    elim (cases_lt 16777216 (size (unit_code u))) [
      | inl lt ↦
          let t : leb (size (unit_code u)) 16777216 ≡ false = grind (arith, nat_tests) in
          let none : w ≡ None = is ∙ writes_all (unit_code u) ∙ rw t refl in
          absurd (subst (λ (v : Option Buffer). IsSomeAnd v (λ b. (code ≡ b.code) × (uses ≡ b.uses) × (defines ≡ b.defines) × (lines ≡ b.lines))) none parts)
      | inr le ↦
          let t : leb (size (unit_code u)) 16777216 ≡ true = grind (arith, nat_tests) in
          let whole : w ≡ Some (grown empty (unit_code u)) = is ∙ writes_all (unit_code u) ∙ rw t refl in
          let same = subst (λ (v : Option Buffer). IsSomeAnd v (λ b. (code ≡ b.code) × (uses ≡ b.uses) × (defines ≡ b.defines) × (lines ≡ b.lines))) whole parts in
          rw (t, same.0, same.1, same.2, same.3) refl
    ]

-- the table of lines of what was written
pub unit_lines : (u : UnitTree) (w : Option Buffer) (code : List ℕ) (uses : List Relocation) (defines : List Address) (lines : List LineEntry) → w ≡ written (Some empty) (unit_code u) → IsSomeAnd w (λ b. (code ≡ b.code) × (uses ≡ b.uses) × (defines ≡ b.defines) × (lines ≡ b.lines))
    → AreLines (length code) (line_table (length code) lines)
unit_lines u w code uses defines lines is parts =
    elim (cases_lt 16777216 (size (unit_code u))) [
      | inl lt ↦
          let t : leb (size (unit_code u)) 16777216 ≡ false = grind (arith, nat_tests) in
          let none : w ≡ None = is ∙ writes_all (unit_code u) ∙ rw t refl in
          absurd (subst (λ (v : Option Buffer). IsSomeAnd v (λ b. (code ≡ b.code) × (uses ≡ b.uses) × (defines ≡ b.defines) × (lines ≡ b.lines))) none parts)
      | inr le ↦
          let t : leb (size (unit_code u)) 16777216 ≡ true = grind (arith, nat_tests) in
          let whole : w ≡ Some (grown empty (unit_code u)) = is ∙ writes_all (unit_code u) ∙ rw t refl in
          let same = subst (λ (v : Option Buffer). IsSomeAnd v (λ b. (code ≡ b.code) × (uses ≡ b.uses) × (defines ≡ b.defines) × (lines ≡ b.lines))) whole parts in
          rw (same.0, same.3) (table_keeps (unit_code u) le)
    ]
