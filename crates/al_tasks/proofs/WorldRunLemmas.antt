-- A run is one of the lists of events, and the programs of images are laid out.
use Rattle.std.proofs.Common.{◌≡◌, ℕ, zero, suc, ◌+◌, ◌≤◌, List, [], ◌∷◌, length, Bool, true, false, cond, Option, Some, None, slice_get, get_or, refl, arith, subst}
use Rattle.std.specs.List.{All}
use Rattle.std.specs.Prelude.{unwrap_or}
use Rattle.std.proofs.lemmas.Option.{slice_get_within, get_or_from_slice_get}
use Rattle.std.proofs.lemmas.List.Elements.{All-get_or}
use Rattle.al_instr.specs.declared.lines.LineEntry.{LineEntry}
use Rattle.al_instr.specs.Codes.{code_bytes}
use Rattle.al_instr.specs.Lines.{rise}
use Rattle.al_instr.proofs.LineLemmas.{rise_within}
use Rattle.al_link_image.specs.declared.parts.Region.{Region}
use Rattle.al_link_image.specs.Images as images
use Rattle.al_link_image.specs.Lines.{LinesFit}
use Rattle.al_tasks.specs.declared.event.Event.{Event}
use Rattle.al_tasks.specs.Task.{Program, World}
use Rattle.al_tasks.specs.World.{step, after}
use Rattle.al_tasks.specs.Runs.{is_going, status_of, chosen, since_after, ran}
use Rattle.al_tasks.specs.WorldPrograms.{program_of}
use Rattle.al_tasks.specs.Exclusion.{IsLaidOut}

pub ran_events : (p : Program) (more n since : ℕ) (w : World) → (es : List Event) × (ran p more n since w ≡ after p w es)
ran_events p zero n since w = ([], refl)
ran_events p (suc more) n since w =
    at (is_going (status_of w)) (ran_events p more n (since_after since (chosen n since w)) (step p w (chosen n since w)))
  where
    at : (b : Bool) → (es : List Event) × (ran p more n (since_after since (chosen n since w)) (step p w (chosen n since w)) ≡ after p (step p w (chosen n since w)) es)
        → (es : List Event) × (cond b (ran p more n (since_after since (chosen n since w)) (step p w (chosen n since w))) w ≡ after p w es)
    at true rest = (chosen n since w ∷ rest.0, rest.1)
    at false rest = ([], refl)

regions_within : (words : ℕ) (rs : List Region) → All (images.IsRegion words) rs → (number : ℕ) (o : Region) → slice_get rs number ≡ Some o → o.address + o.words ≤ words
regions_within words rs all number o is =
    let here = All-get_or (images.IsRegion words) rs number o (slice_get_within rs number o is) all in
    let same : get_or rs number o ≡ o = get_or_from_slice_get rs number o o is in
    subst (λ (x : Region). x.address + x.words ≤ words) same here.0

-- the lines of an image's program rise
lines_fit : (end : ℕ) (lines : Option (List LineEntry)) → end ≤ 16777216 → LinesFit end lines → rise 0 0x1_0000_0000 (unwrap_or lines []) ≡ true
lines_fit end None le h = refl
lines_fit end (Some es) le h = rise_within es 0 end 0x1_0000_0000 (omega arith) h.rise_in

pub lines_rise : (image : images.Image) → images.IsImage image → rise 0 0x1_0000_0000 (unwrap_or image.lines []) ≡ true
lines_rise image h = lines_fit (length (code_bytes image.code)) image.lines h.code_size h.lines

-- the program of an image is laid out
pub laid_out : (image : images.Image) → images.IsImage image → IsLaidOut (program_of image)
unfolding program_of
laid_out image h = record {
  regions = regions_within image.data_words image.protected h.protected;
  room = let t = h.tasks in let w = h.data_words in omega arith;
}
