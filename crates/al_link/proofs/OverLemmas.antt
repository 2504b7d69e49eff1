-- Code that is written over other code.
use Rattle.std.proofs.Common.{◌≡◌, ℕ, ◌+◌, ◌-◌, ◌≤◌, ◌<◌, List, [], ◌∷◌, ◌++◌, length, take, drop, get_or, map, refl, sym, ap, subst, ◌∙◌, append_assoc, append-nil, add-one, arith, length-append}
use Rattle.std.specs.List.{All}
use Rattle.std.proofs.lemmas.Grind.{fold-append, flat_map-append}
use Rattle.std.proofs.lemmas.List.{take_at, length-take-le, take_more}
use Rattle.std.proofs.lemmas.List.Elements.{All-head, All-push, All-tail}
use Rattle.std.proofs.lemmas.List.Sums.{sum_by-cons}
use Rattle.std.proofs.Math.Seq.{drop-cons}
use borrow.Rule.Slice.PartMut.{put_mid, post_of}
use Rattle.al_code_object.specs.declared.object.Relocation.{Relocation}
use Rattle.al_base.specs.declared.unit_key.UnitKey.{UnitKey}
use Rattle.al_code_object.specs.Objects.{CompiledCode, Keeps}
use Rattle.al_code_object.specs.Parts as parts
use Rattle.al_code_object.specs.Parts.{Part, Whole, Using, IsPart, part_bytes, instr_of, uses_from}
use Rattle.al_link_image.specs.Parts.{IsCode}
use Rattle.al_instr.specs.Codes.{encoded}
use Rattle.al_link.specs.Kept.{IsKeeping}
use Rattle.al_link.specs.Symbols.{Places, place_in}
use Rattle.al_link.specs.Linking.{patched}
use Rattle.al_link.specs.LinkedParts.{linked_part, shifted}
use Rattle.al_link.specs.Partitions.{compiled_units, with_object}
use Rattle.al_link.specs.Relinking.{code_size, linked_units, with_unit}
use Rattle.al_link.specs.Units.{UnitObject}
use Rattle.al_link.specs.declared.linking.CompiledUnit.{CompiledUnit}
use Rattle.al_link.proofs.LinkedLemmas.{links_parts, has_word, shifted_length}
use Rattle.al_link.proofs.CodeLemmas.{linked_is_code}

-- linked instructions have as many bytes
linked_length : (places : Places) (ps : List Part) → All IsPart ps → length (parts.code_of (map (linked_part places) ps)) ≡ length (parts.code_of ps)
linked_length places [] all = refl
linked_length places (Whole i ∷ ps) all =
    let ih = linked_length places ps (All-tail IsPart (Whole i) ps all) in
    length-append (encoded i) (parts.code_of (map (linked_part places) ps)) ∙ ap (λ (n : ℕ). length (encoded i) + n) ih ∙ sym (length-append (encoded i) (parts.code_of ps))
linked_length places (Using i symbol ∷ ps) all =
    let ih = linked_length places ps (All-tail IsPart (Using i symbol) ps all) in
    let v = place_in places symbol in
    let one : length (encoded (shifted v i)) ≡ length (encoded i) = shifted_length i (has_word i symbol (All-head IsPart (Using i symbol) ps all)) v in
    length-append (encoded (shifted v i)) (parts.code_of (map (linked_part places) ps)) ∙ ap (λ (n : ℕ). length (encoded (shifted v i)) + n) ih ∙ ap (λ (n : ℕ). n + length (parts.code_of ps)) one ∙ sym (length-append (encoded i) (parts.code_of ps))

-- an object's code that is linked with other code after it, and without
written_front : (places : Places) (done rest : List ℕ) (o : CompiledCode) → Keeps o → take (length done + length o.code) (patched places o.code (length done) (done ++ (o.code ++ rest)) o.uses) ≡ patched places o.code (length done) (done ++ o.code) o.uses
written_front places done rest o keeps =
    let ps : List Part = keeps.code.parts in
    let made : List ℕ = parts.code_of (map (linked_part places) ps) in
    let n : length made ≡ length o.code = linked_length places ps keeps.code.are_parts ∙ sym (ap (λ (xs : List ℕ). length xs) keeps.code.code_is) in
    let over : (after : List ℕ) → patched places o.code (length done) (done ++ (o.code ++ after)) o.uses ≡ done ++ (made ++ after) = λ after.
    ap (λ (xs : List ℕ). patched places xs (length done) (done ++ (xs ++ after)) o.uses) keeps.code.code_is
    ∙ ap (λ (us : List Relocation). patched places (parts.code_of ps) (length done) (done ++ (parts.code_of ps ++ after)) us) keeps.code.uses_are
    ∙ links_parts places done after ps keeps.code.are_parts in
    let alone : patched places o.code (length done) (done ++ o.code) o.uses ≡ done ++ made =
    ap (λ (xs : List ℕ). patched places o.code (length done) (done ++ xs) o.uses) (sym (append-nil o.code)) ∙ over [] ∙ ap (λ (xs : List ℕ). done ++ xs) (append-nil made) in
    ap (λ (xs : List ℕ). take (length done + length o.code) xs) (over rest ∙ sym (append_assoc done made rest))
    ∙ take_at (done ++ made) rest (length done + length o.code) (omega (arith, length-append done made, n))
    ∙ sym alone

-- an object's code that was copied over what is at its place and then linked
pub object_put : (places : Places) (code : List ℕ) (o : CompiledCode) (base stop : ℕ) (ys from : List ℕ) (us : List Relocation) (new : List ℕ) → Keeps o → base + length o.code ≤ length code → ys ≡ o.code → from ≡ o.code → us ≡ o.uses → new ≡ patched places from base (put_mid base (stop - base) code ys) us → take (base + length o.code) new ≡ patched places o.code base (take base code ++ o.code) o.uses
object_put places code o base stop ys from us new keeps fits y f u e =
    let done : List ℕ = take base code in
    let rest : List ℕ = post_of base (stop - base) code in
    let n : length done ≡ base = length-take-le base code (omega arith) in
    let front = written_front places done rest o keeps in
    ap (λ (xs : List ℕ). take (base + length o.code) xs)
    (e ∙ ap (λ (xs : List ℕ). patched places xs base (done ++ (ys ++ rest)) us) f ∙ ap (λ (xs : List ℕ). patched places o.code base (done ++ (xs ++ rest)) us) y ∙ ap (λ (vs : List Relocation). patched places o.code base (done ++ (o.code ++ rest)) vs) u)
    ∙ subst (λ (m : ℕ). take (m + length o.code) (patched places o.code m (done ++ (o.code ++ rest)) o.uses) ≡ patched places o.code m (done ++ o.code) o.uses) n front

-- after code, it is code
pub put_is_code : (places : Places) (code : List ℕ) (o : CompiledCode) (base : ℕ) (new : List ℕ) → base ≤ length code → IsCode (take base code) → Keeps o → new ≡ patched places o.code base (take base code ++ o.code) o.uses → IsCode new
put_is_code places code o base new fits is keeps e =
    let n : length (take base code) ≡ base = length-take-le base code fits in
    linked_is_code places (take base code) o new is keeps (e ∙ ap (λ (m : ℕ). patched places o.code m (take base code ++ o.code) o.uses) (sym n))

-- ---- units one after the other

abbrev pub units_of : CompiledUnit → List UnitObject
units_of u = with_object u.key.now u.object.now

-- one unit more
pub units_more : (us : List CompiledUnit) (i : ℕ) (u : CompiledUnit) → i < length us → u ≡ get_or us i u → compiled_units (take (i + 1) us) ≡ compiled_units (take i us) ++ units_of u
units_more us i u lt at =
    ap (λ (xs : List CompiledUnit). compiled_units xs) (take_more us i u lt ∙ ap (λ (x : CompiledUnit). take i us ++ x ∷ []) (sym at))
    ∙ flat_map-append units_of (take i us) (u ∷ [])
    ∙ ap (λ (xs : List UnitObject). compiled_units (take i us) ++ xs) (append-nil (units_of u))

pub units_less : (us : List CompiledUnit) (i : ℕ) (u : CompiledUnit) → i < length us → u ≡ get_or us i u → compiled_units (drop i us) ≡ units_of u ++ compiled_units (drop (i + 1) us)
units_less us i u lt at =
    ap (λ (xs : List CompiledUnit). compiled_units xs)
    (drop-cons us i u lt ∙ ap (λ (n : ℕ). get_or us i u ∷ drop n us) (sym (add-one i)) ∙ ap (λ (x : CompiledUnit). x ∷ drop (i + 1) us) (sym at))

-- what is written of some units already, up to a place
pub record WrittenTo (places : Places) (start : List ℕ) (us : List CompiledUnit) (i base : ℕ) (code : List ℕ) : Type 0 where
  pub size : base + code_size (compiled_units (drop i us)) ≡ length code
  pub small : length code ≤ 16777216
  pub done : take base code ≡ linked_units places start (compiled_units (take i us))
  pub is_code : IsCode (take base code)
  pub keep : All IsKeeping (compiled_units (take i us))

module _ (places : Places) (start : List ℕ) (us : List CompiledUnit) (i base : ℕ) (code : List ℕ) (h : WrittenTo places start us i base code) (key : UnitKey) (o : CompiledCode) (u : CompiledUnit) (lt : i < length us) (at : u ≡ get_or us i u) (is : units_of u ≡ record { key = key; object = o } ∷ []) where
  pub room : base + length o.code ≤ length code
  room =
      let less = units_less us i u lt at in
      let e : code_size (compiled_units (drop i us)) ≡ length o.code + code_size (compiled_units (drop (i + 1) us)) =
      ap (λ (xs : List UnitObject). code_size xs) (less ∙ ap (λ (xs : List UnitObject). xs ++ compiled_units (drop (i + 1) us)) is) ∙ sum_by-cons (λ x. length x.object.code) (record { key = key; object = o }) (compiled_units (drop (i + 1) us)) in
      omega (arith, h.size)

  pub one_written : (new : List ℕ) → length new ≡ length code → take (base + length o.code) new ≡ patched places o.code base (take base code ++ o.code) o.uses → IsCode (take (base + length o.code) new) → Keeps o → WrittenTo places start us (i + 1) (base + length o.code) new
  one_written new len w is_code keeps =
      let n : length (take base code) ≡ base = length-take-le base code (omega (arith, room)) in
      let one : UnitObject = record { key = key; object = o } in
      let more : compiled_units (take (i + 1) us) ≡ compiled_units (take i us) ++ one ∷ [] = units_more us i u lt at ∙ ap (λ (xs : List UnitObject). compiled_units (take i us) ++ xs) is in
      let less = units_less us i u lt at in
      let e : code_size (compiled_units (drop i us)) ≡ length o.code + code_size (compiled_units (drop (i + 1) us)) =
      ap (λ (xs : List UnitObject). code_size xs) (less ∙ ap (λ (xs : List UnitObject). xs ++ compiled_units (drop (i + 1) us)) is) ∙ sum_by-cons (λ x. length x.object.code) one (compiled_units (drop (i + 1) us)) in
      record {
        size = omega (arith, h.size);
        small = omega (arith, h.small);
        done =
            w ∙ ap (λ (m : ℕ). patched places o.code m (take base code ++ o.code) o.uses) (sym n)
            ∙ ap (λ (xs : List ℕ). with_unit places xs one) h.done
            ∙ sym (ap (λ (xs : List UnitObject). linked_units places start xs) more ∙ fold-append (with_unit places) start (compiled_units (take i us)) (one ∷ []));
        is_code = is_code;
        keep = subst (λ (xs : List UnitObject). All IsKeeping xs) (sym more) (All-push IsKeeping (compiled_units (take i us)) one h.keep keeps);
      }

-- a unit without an object has no code
pub none_written : (places : Places) (start : List ℕ) (us : List CompiledUnit) (i base : ℕ) (code : List ℕ) (u : CompiledUnit) → WrittenTo places start us i base code → i < length us → u ≡ get_or us i u → units_of u ≡ [] → WrittenTo places start us (i + 1) base code
none_written places start us i base code u h lt at is =
    let more : compiled_units (take (i + 1) us) ≡ compiled_units (take i us) = units_more us i u lt at ∙ ap (λ (xs : List UnitObject). compiled_units (take i us) ++ xs) is ∙ append-nil (compiled_units (take i us)) in
    let less : compiled_units (drop i us) ≡ compiled_units (drop (i + 1) us) = units_less us i u lt at ∙ ap (λ (xs : List UnitObject). xs ++ compiled_units (drop (i + 1) us)) is in
    record {
      size = ap (λ (xs : List UnitObject). base + code_size xs) (sym less) ∙ h.size;
      small = h.small;
      done = h.done ∙ sym (ap (λ (xs : List UnitObject). linked_units places start xs) more);
      is_code = h.is_code;
      keep = subst (λ (xs : List UnitObject). All IsKeeping xs) (sym more) h.keep;
    }
