-- The image that is read is the one whose bytes were given, and each image is read again.
use Rattle.std.proofs.Common.{◌≡◌, ℕ, ◌≤◌, List, ◌++◌, length, Option, Some, None, option_map, refl, sym, ap, subst, ◌∙◌, append_assoc, arith}
use Rattle.std.specs.List.{All}
use Rattle.al_instr.specs.declared.instruction.Instr.{Instr}
use Rattle.al_instr.specs.Codes.{word_bytes, code_bytes}
use Rattle.al_instr.specs.Reading.{◌>>=◌}
use Rattle.al_instr.proofs.Fields.{IsBytes, Takes-then, bind_some}
use Rattle.al_link_image.specs.declared.parts.Region.{Region}
use Rattle.al_link_image.specs.declared.parts.ImageObject.{ImageObject}
use Rattle.al_link_image.specs.declared.parts.ImageParts.{ImageParts}
use Rattle.al_instr.specs.declared.lines.LineEntry.{LineEntry}
use Rattle.al_link_image.specs.Lines.{LinesFit, lines_bytes, mark_of}
use Rattle.al_link_image.specs.Images.{Image, IsImage, IsRegion, IsObject, region_bytes, regions_bytes, object_bytes, objects_bytes, image_bytes, IsReadAs, IsNoDamage}
use Rattle.std.specs.Prelude.{Result, Ok, Err}
use Rattle.std.specs.Result.{IsErrAnd}
use Rattle.al_link_image.specs.declared.fault.LinkFault.{LinkFault}
use Rattle.al_link_image.specs.declared.fault.LinkFault.TheVariants as faults
use Rattle.al_link_image.specs.Parts.{IsCode, IsWhole, code_of, image_of}
use Rattle.al_link_image.specs.Views.{parts_model}
use Rattle.al_link_image.specs.Reading.{Finds, limited_at, region_at, object_at, counted_at, tail_at, version_at, Parts, parts_at}
use Rattle.al_link_image.proofs.CodeLemmas.{code_again}
use Rattle.al_link_image.proofs.Readers.{limited_read, counted_read}
use Rattle.al_link_image.proofs.LineReaders.{mark_by, tail_again, tail_takes, version_again, version_takes}
use Rattle.al_link_image.proofs.ObjectReaders.{region_read, object_read}

-- the parts' bytes
abbrev front_of : Parts → List ℕ
front_of p = mark_of p.lines ++ word_bytes p.tasks ++ word_bytes p.data_words ++ regions_bytes p.protected ++ objects_bytes p.objects

abbrev bytes_of : Parts → List ℕ
bytes_of p = front_of p ++ word_bytes (length p.code) ++ p.code ++ lines_bytes p.lines

record ArePartsWithin (p : Parts) : Type 0 where
  tasks : p.tasks ≤ 63
  data_words : p.data_words ≤ 1048576
  protected : (length p.protected ≤ 65535) × All (IsRegion p.data_words) p.protected
  objects : (length p.objects ≤ 65535) × All IsObject p.objects
  code : length p.code ≤ 16777216
  lines : LinesFit (length p.code) p.lines

four : (f a b c : List ℕ) → f ++ ((a ++ b) ++ c) ≡ ((f ++ a) ++ b) ++ c
four f a b c = simp append_assoc

same_parts : (x y : Parts) → Some x ≡ Some y → x ≡ y
same_parts x y e = cc

parts_take : (bytes : List ℕ) (p : Parts) → IsBytes bytes → parts_at bytes ≡ Some p → (bytes ≡ bytes_of p) × ArePartsWithin p
unfolding parts_at
parts_take bytes p fits e =
    let made : ℕ → ℕ → List Region → List ImageObject → List ℕ × Option (List LineEntry) → Parts = λ t w r o c. record { tasks = t; data_words = w; protected = r; objects = o; code = c.0; lines = c.1 } in
    let m = bind_some (version_at bytes) (λ v. limited_at 63 v.1 >>= λ t. limited_at 1048576 t.1 >>= λ w. counted_at 65535 (region_at w.0) w.1 >>= λ r. counted_at 65535 object_at r.1 >>= λ o. tail_at v.0 o.1 >>= λ c. Some (made t.0 w.0 r.0 o.0 c)) p e in
    let t = bind_some (limited_at 63 m.0.1) (λ t. limited_at 1048576 t.1 >>= λ w. counted_at 65535 (region_at w.0) w.1 >>= λ r. counted_at 65535 object_at r.1 >>= λ o. tail_at m.0.0 o.1 >>= λ c. Some (made t.0 w.0 r.0 o.0 c)) p m.2 in
    let w = bind_some (limited_at 1048576 t.0.1) (λ w. counted_at 65535 (region_at w.0) w.1 >>= λ r. counted_at 65535 object_at r.1 >>= λ o. tail_at m.0.0 o.1 >>= λ c. Some (made t.0.0 w.0 r.0 o.0 c)) p t.2 in
    let r = bind_some (counted_at 65535 (region_at w.0.0) w.0.1) (λ r. counted_at 65535 object_at r.1 >>= λ o. tail_at m.0.0 o.1 >>= λ c. Some (made t.0.0 w.0.0 r.0 o.0 c)) p w.2 in
    let o = bind_some (counted_at 65535 object_at r.0.1) (λ o. tail_at m.0.0 o.1 >>= λ c. Some (made t.0.0 w.0.0 r.0.0 o.0 c)) p r.2 in
    let c = bind_some (tail_at m.0.0 o.0.1) (λ c. Some (made t.0.0 w.0.0 r.0.0 o.0.0 c)) p o.2 in
    let tm = version_takes bytes m.0 fits m.1 in
    let t63 = limited_read 63 (omega arith) in
    let tt63 = t63.takes m.0.1 t.0.0 t.0.1 tm.rest_fits t.1 in
    let tw = limited_read 1048576 (omega arith) in
    let ttw = tw.takes t.0.1 w.0.0 w.0.1 tt63.0.rest_fits w.1 in
    let rr = counted_read (region_at w.0.0) region_bytes (IsRegion w.0.0) (region_read w.0.0 ttw.1) 65535 (omega arith) in
    let ttr = rr.takes w.0.1 r.0.0 r.0.1 ttw.0.rest_fits r.1 in
    let oo = counted_read object_at object_bytes IsObject object_read 65535 (omega arith) in
    let tto = oo.takes r.0.1 o.0.0 o.0.1 ttr.0.rest_fits o.1 in
    let tc = tail_takes m.0.0 o.0.1 c.0 tto.0.rest_fits c.1 in
    let f1 = Takes-then bytes (mark_by m.0.0) m.0.1 (word_bytes t.0.0) t.0.1 tm tt63.0 in
    let f2 = Takes-then bytes (mark_by m.0.0 ++ word_bytes t.0.0) t.0.1 (word_bytes w.0.0) w.0.1 f1 ttw.0 in
    let f3 = Takes-then bytes (mark_by m.0.0 ++ word_bytes t.0.0 ++ word_bytes w.0.0) w.0.1 (regions_bytes r.0.0) r.0.1 f2 ttr.0 in
    let f4 = Takes-then bytes (mark_by m.0.0 ++ word_bytes t.0.0 ++ word_bytes w.0.0 ++ regions_bytes r.0.0) r.0.1 (objects_bytes o.0.0) o.0.1 f3 tto.0 in
    let q : Parts = made t.0.0 w.0.0 r.0.0 o.0.0 c.0 in
    let front : List ℕ → List ℕ = λ mark. mark ++ word_bytes t.0.0 ++ word_bytes w.0.0 ++ regions_bytes r.0.0 ++ objects_bytes o.0.0 in
    let whole : bytes ≡ bytes_of q =
    f4.parts ∙ ap (λ (xs : List ℕ). front (mark_by m.0.0) ++ xs) tc.0 ∙ ap (λ (xs : List ℕ). front xs ++ ((word_bytes (length c.0.0) ++ c.0.0) ++ lines_bytes c.0.1)) tc.3
    ∙ four (front_of q) (word_bytes (length c.0.0)) c.0.0 (lines_bytes c.0.1) in
    let within : ArePartsWithin q = record { tasks = tt63.1; data_words = ttw.1; protected = ttr.1; objects = tto.1; code = tc.1; lines = tc.2 } in
    let same : q ≡ p = same_parts q p c.2 in
    subst (λ (x : Parts). (bytes ≡ bytes_of x) × ArePartsWithin x) same (whole, within)

eight : (m a b c d e f g : List ℕ) → ((((((m ++ a) ++ b) ++ c) ++ d) ++ e) ++ f) ++ g ≡ m ++ (a ++ (b ++ (c ++ (d ++ (e ++ (f ++ g))))))
eight m a b c d e f g = simp append_assoc

parts_again : (p : Parts) → ArePartsWithin p → parts_at (bytes_of p) ≡ Some p
unfolding parts_at
parts_again p h =
    let a = word_bytes p.tasks in
    let b = word_bytes p.data_words in
    let c = regions_bytes p.protected in
    let d = objects_bytes p.objects in
    let e = word_bytes (length p.code) ++ (p.code ++ lines_bytes p.lines) in
    let t63 = limited_read 63 (omega arith) in
    let tw = limited_read 1048576 (omega arith) in
    let rr = counted_read (region_at p.data_words) region_bytes (IsRegion p.data_words) (region_read p.data_words h.data_words) 65535 (omega arith) in
    let oo = counted_read object_at object_bytes IsObject object_read 65535 (omega arith) in
    rw (eight (mark_of p.lines) a b c d (word_bytes (length p.code)) p.code (lines_bytes p.lines), version_again p.lines (a ++ (b ++ (c ++ (d ++ e)))), t63.again p.tasks (b ++ (c ++ (d ++ e))) h.tasks, tw.again p.data_words (c ++ (d ++ e)) h.data_words, rr.again p.protected (d ++ e) h.protected, oo.again p.objects e h.objects, tail_again p.code p.lines h.code h.lines) refl

-- ---- images

-- what was read is the parts of an image, where the code is one
pub whole_read : (bytes : List ℕ) (p : ImageParts) → IsBytes bytes → parts_at bytes ≡ Some (parts_model p) → IsCode p.code.items → IsWhole p
whole_read bytes p fits e code =
    let h = (parts_take bytes (parts_model p) fits e).1 in
    record {
      within = record {
        tasks = h.tasks;
        data_words = h.data_words;
        protected_count = h.protected.0;
        protected = h.protected.1;
        object_count = h.objects.0;
        objects = h.objects.1;
        code = code.are;
        code_size = rw (code.bytes_are) h.code;
        lines = rw (code.bytes_are) h.lines;
      };
      bytes_are = code.bytes_are;
    }

pub bytes_read : (bytes : List ℕ) (p : ImageParts) → IsBytes bytes → parts_at bytes ≡ Some (parts_model p) → IsWhole p → bytes ≡ image_bytes (image_of p)
unfolding image_bytes
bytes_read bytes p fits e whole =
    (parts_take bytes (parts_model p) fits e).0
    ∙ ap (λ (c : List ℕ). front_of (parts_model p) ++ word_bytes (length c) ++ c ++ lines_bytes (option_map (λ v. v.items) p.lines)) (sym whole.bytes_are)

-- the parts of an image
abbrev pub parts_of : Image → Parts
parts_of image = record { tasks = image.tasks; data_words = image.data_words; protected = image.protected; objects = image.objects; code = code_bytes image.code; lines = image.lines }

pub image_again : (image : Image) → IsImage image → parts_at (image_bytes image) ≡ Some (parts_of image)
unfolding image_bytes
image_again image h =
    parts_again (parts_of image) (record {
      tasks = h.tasks;
      data_words = h.data_words;
      protected = (h.protected_count, h.protected);
      objects = (h.object_count, h.objects);
      code = h.code_size;
      lines = h.lines;
    })

-- an image that has the parts of another one is that one
pub image_is : (p : ImageParts) (image : Image) → IsImage image → parts_model p ≡ parts_of image → image_of p ≡ image
image_is p image h e =
    let made : Parts → Image = λ x. record { tasks = x.tasks; data_words = x.data_words; protected = x.protected; objects = x.objects; code = code_of x.code; lines = x.lines } in
    ap made e ∙ ap (λ (code : List Instr). record { tasks = image.tasks; data_words = image.data_words; protected = image.protected; objects = image.objects; code = code; lines = image.lines }) (code_again image.code h.code)

pub images_told : (one two : Image) → IsImage one → IsImage two → image_bytes one ≡ image_bytes two → one ≡ two
images_told one two h k e =
    let given : Some (parts_of one) ≡ Some (parts_of two) = sym (image_again one h) ∙ ap parts_at e ∙ image_again two k in
    let parts : parts_of one ≡ parts_of two = same_parts (parts_of one) (parts_of two) given in
    let made : Parts → Image = λ x. record { tasks = x.tasks; data_words = x.data_words; protected = x.protected; objects = x.objects; code = code_of x.code; lines = x.lines } in
    let back : (i : Image) → IsImage i → made (parts_of i) ≡ i = λ i f. ap (λ (code : List Instr). record { tasks = i.tasks; data_words = i.data_words; protected = i.protected; objects = i.objects; code = code; lines = i.lines }) (code_again i.code f.code) in
    sym (back one h) ∙ ap made parts ∙ back two k

-- ---- faults

pub read_passed_on : (image : Image) (r : Result Image LinkFault) (fault : LinkFault) → IsErrAnd r (λ e. e ≡ fault) → IsNoDamage fault → IsReadAs image r
read_passed_on image (Ok x) fault h k = absurd h
read_passed_on image (Err e) fault h k = subst IsNoDamage (sym h) k

no_parts : (p : Parts) → Some p ≡ None → ⊥
no_parts p e = absurd cc

pub parts_fault : (bytes : List ℕ) (image : Image) (fault : LinkFault) → IsImage image → bytes ≡ image_bytes image → Finds parts_model (Err fault) (parts_at bytes) → IsNoDamage fault
parts_fault bytes image faults.TooLarge h e f = f
parts_fault bytes image faults.Damaged h e f = no_parts (parts_of image) (sym (image_again image h) ∙ ap parts_at (sym e) ∙ f)
parts_fault bytes image faults.NoMemory h e f = tt

-- what is read of an image's bytes is its parts
pub parts_same : (bytes : List ℕ) (image : Image) (p : ImageParts) → IsImage image → bytes ≡ image_bytes image → parts_at bytes ≡ Some (parts_model p) → parts_model p ≡ parts_of image
parts_same bytes image p h e f = same_parts (parts_model p) (parts_of image) (sym f ∙ ap parts_at e ∙ image_again image h)

pub code_same : (bytes : List ℕ) (image : Image) (p : ImageParts) → IsImage image → bytes ≡ image_bytes image → parts_at bytes ≡ Some (parts_model p) → p.code.items ≡ code_bytes image.code
code_same bytes image p h e f = ap (λ (x : Parts). x.code) (parts_same bytes image p h e f)
