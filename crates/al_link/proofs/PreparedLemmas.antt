-- What an image of units is made of.
use Rattle.std.proofs.Common.{◌≡◌, ℕ, ◌+◌, ◌≤◌, List, length, map, sym, ap, subst, ◌∙◌, arith}
use Rattle.std.specs.List.{All, flat_map}
use Rattle.al_view.specs.declared.link.LinkSymbol.{LinkSymbol}
use Rattle.al_instr.specs.Codes.{code_bytes}
use Rattle.al_instr.specs.Lines.{AreLines}
use Rattle.al_instr.specs.declared.lines.LineEntry.{LineEntry}
use Rattle.al_link_image.specs.Images.{IsObject, IsRegion}
use Rattle.al_link_image.specs.Parts.{IsCode}
use Rattle.al_link.specs.declared.bases.Bases.{Bases}
use Rattle.al_link.specs.declared.prepared.Prepared.{Prepared}
use Rattle.al_link.specs.Bases.{AreSmall}
use Rattle.al_link.specs.Images.{lines_of, object_of, regions_of, start_code}
use Rattle.al_link.specs.Kept.{IsPrepared, all_located, starting_of}
use Rattle.al_link.specs.Linking.{places_of}
use Rattle.al_link.specs.Relinking.{code_size}
use Rattle.al_link.specs.Symbols.{Places, place_in}
use Rattle.al_link.specs.Units.{UnitObject, Located, located, first_bases, bases_after, totals}
use Rattle.al_link.proofs.ImageLemmas.{start_length}
use Rattle.al_link.proofs.LineLemmas.{HasLines, code_after, lines_located}

pub prepared_is : (main : LinkSymbol) (us : List UnitObject) (first : Bases) (xs : List Located) (p : Prepared) (place : ℕ) → first ≡ first_bases us → xs ≡ located first us → p.totals ≡ bases_after first us → AreSmall p.totals → length us ≤ 65535 → p.places ≡ places_of xs → place ≡ place_in p.places main → p.start.items ≡ code_bytes (start_code xs place) → IsCode p.start.items → p.protected.items ≡ flat_map regions_of xs → All (IsRegion p.totals.words) p.protected.items → length p.protected.items ≤ 65535 → p.objects.items ≡ map object_of xs → All IsObject p.objects.items → length p.objects.items ≤ 65535 → p.lines.items ≡ flat_map lines_of xs → All HasLines xs → IsPrepared main us p
prepared_is main us first xs p place e l t small few pl pm s is r rf rc o of oc ln each =
    let all : p.totals ≡ totals us = t ∙ ap (λ (b : Bases). bases_after b us) e in
    let at : xs ≡ all_located us = l ∙ ap (λ (b : Bases). located b us) e in
    let places : p.places ≡ places_of (all_located us) = pl ∙ ap (λ (ls : List Located). places_of ls) at in
    let start : p.start.items ≡ starting_of main us =
    s ∙ ap (λ (ls : List Located). code_bytes (start_code ls place)) at ∙ ap (λ (m : ℕ). code_bytes (start_code (all_located us) m)) (pm ∙ ap (λ (q : Places). place_in q main) places) in
    let n : length p.start.items ≡ (first_bases us).code = ap (λ (bs : List ℕ). length bs) start ∙ start_length (place_in (places_of (all_located us)) main) (first_bases us) us in
    let c : (first_bases us).code + code_size us ≡ p.totals.code = code_after (first_bases us) us ∙ sym (ap (λ (b : Bases). b.code) all) in
    let end : (bases_after first us).code ≡ p.totals.code = sym (ap (λ (b : Bases). b.code) t) in
    let each_at : All HasLines (located first us) = subst (λ (ls : List Located). All HasLines ls) l each in
    let fits : AreLines (bases_after first us).code (flat_map lines_of (located first us)) = lines_located first us (omega (arith, end, small.code)) each_at in
    let fits_all : AreLines p.totals.code (flat_map lines_of (located first us)) = subst (λ (n : ℕ). AreLines n (flat_map lines_of (located first us))) end fits in
    let lines : p.lines.items ≡ flat_map lines_of (located first us) = ln ∙ ap (λ (ls : List Located). flat_map lines_of ls) l in
    record {
      within = record { count = few; sums = subst (λ (b : Bases). AreSmall b) all small };
      totals_are = all;
      places_are = places;
      start_is = start;
      start_code = is;
      protected_are = r ∙ ap (λ (ls : List Located). flat_map regions_of ls) at;
      protected_fit = rf;
      protected_count = rc;
      objects_are = o ∙ ap (λ (ls : List Located). map object_of ls) at;
      objects_fit = of;
      objects_count = oc;
      lines_are = ln ∙ ap (λ (ls : List Located). flat_map lines_of ls) at;
      lines_fit = subst (λ (es : List LineEntry). AreLines p.totals.code es) (sym lines) fits_all;
      size = ap (λ (m : ℕ). m + code_size us) n ∙ c;
    }
