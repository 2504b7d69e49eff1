-- The frame of a body, and its formal parameters in it (ARM 6.1, 6.4).
use Rattle.std.specs.Prelude.{ℕ, ◌+◌, min, List, [], ◌∷◌, fold, Option, option_map}
use Rattle.std.specs.Result.{result_ok}
use Rattle.al_view.specs.declared.view.Mode.{Mode}
use Rattle.al_view.specs.declared.view.ObjectPlace.{ObjectPlace}
use Rattle.al_view.specs.declared.view.ObjectPlace.TheVariants.{Frame}
use Rattle.al_view.specs.declared.view.SubtypeView.{SubtypeView}
use Rattle.al_view_typed.specs.declared.unit.FormalWords.{FormalWords}
use Rattle.al_decl_judged.specs.declared.declaration.Declaration.{Declaration}
use Rattle.al_decl_judged.specs.declared.words.Words.{Words}
use Rattle.al_decl_judged.specs.Homonyms.{with_name}
use Rattle.al_decl_judged.specs.TypeObjects.{formal_view}
use Rattle.al_decl_judged.specs.TypeDeclarations.{declared_as}
use Rattle.al_decl_judged.specs.Types.{words_of}
use Rattle.al_decl_judged.specs.WordCounts.{after_frame}
use Rattle.al_decl_judged.specs.declared.progress.Progress.{Progress}
use Rattle.al_decl_judged.specs.declared.heading.FormalPart.{FormalPart}
use Rattle.al_decl_judged.specs.declared.frame.NewFormal.{NewFormal}

-- the next word of the frame is this one
abbrev pub from_word : Words → ℕ → Words
from_word words word = record words { frame = word }

-- a body is nested once more, and its frame begins after its link, its caller's frame and its return
abbrev pub entered : Progress → Progress
entered p = record p { depth = min (p.depth + 1) 4294967295; words = from_word p.words 3 }

-- after it the outer frame goes on at that depth and from that word on, and the unit's words and names do
abbrev pub left_body : ℕ → ℕ → Progress → Progress
left_body depth word inner = record inner { depth = depth; words = from_word inner.words word }

-- a formal whose mark is right
abbrev pub new_formal : FormalPart → Option NewFormal
new_formal f = option_map (λ (s : SubtypeView). record { name = f.name.name; mode = f.mode; of = s }) (result_ok f.of)

-- the next formal's place
abbrev pub formal_place : Progress → ObjectPlace
formal_place p = Frame p.depth p.words.frame

abbrev pub with_formal : Progress → NewFormal → Progress
with_formal p f = record p { homonyms = with_name p.homonyms f.name; words = after_frame p.words (words_of f.of) }

abbrev pub with_formals : Progress → List NewFormal → Progress
with_formals p formals = fold with_formal p formals

-- each formal is declared with its place
abbrev pub formal_declarations : Progress → List NewFormal → List Declaration
formal_declarations p [] = []
formal_declarations p (f ∷ fs) = declared_as f.name (formal_view f.of f.mode (formal_place p)) ∷ formal_declarations (with_formal p f) fs

-- and has so many words there
abbrev pub formal_words : Progress → List NewFormal → List FormalWords
formal_words p [] = []
formal_words p (f ∷ fs) = record { mode = f.mode; word = p.words.frame; words = words_of f.of } ∷ formal_words (with_formal p f) fs
