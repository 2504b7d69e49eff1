-- The toy checker and its language. A source is a byte for the kind of the unit, a byte for whether it is marked, its name, and the names of the
-- units that it mentions, with blanks between names. A unit's parent is the first unit that it mentions. A unit has an error if the parent of its
-- parent is marked, if it is a body to which its declaration leaves something, or if it is no unit of the language. So a check also asks a unit that
-- its source doesn't name.
use Rattle.std.specs.Prelude.{ℕ, ◌≡◌, ◌==◌, Bool, true, false, ◌&&◌, List, [], ◌∷◌, ◌++◌, map, Option, Some, None, if◌then◌else◌}
use Rattle.std.specs.Str.{bytes_eq}
use Rattle.al_base.specs.Files.{Texts}
use Rattle.al_base.specs.declared.unit_key.UnitKey.{UnitKey}
use Rattle.al_base.specs.declared.unit_key.UnitKind.{UnitKind}
use Rattle.al_base.specs.declared.unit_key.UnitKind.TheVariants.{Decl, Body, Sub}
use Rattle.al_unit_graph.specs.Headers.{Header, Headed, Library, Mention, Source, is_subprogram_body}
use Rattle.al_unit_graph.specs.Traces.{AreReadAlike}
use Rattle.al_unit_graph.specs.declared.header.UnitForm.{UnitForm}
use Rattle.al_unit_graph.specs.declared.header.UnitForm.TheVariants.{PackageDeclaration, SubprogramBody}
use Rattle.al_unit_faults.specs.Read.{AreHeaded, NameParentBodies}
use Rattle.al_view.specs.Symbols.{same_unit}
use Rattle.al_query.specs.Answers.{completions_of, declaration, is_private_of, parent_of}
use Rattle.al_query.specs.Asked.{AsksOf}
use Rattle.al_query.specs.Known.{Learns, known_after}
use Rattle.al_query.specs.Reads.{FromAnswers, HoldsBy, Log, Table}
use Rattle.al_query.specs.declared.answer.AnswerKind.{AnswerKind}
use Rattle.al_query.specs.declared.answer.Completion.{Completion}
use Rattle.al_query.specs.declared.query.Property.TheVariants.{Completions, IsPrivate, Parent}
use Rattle.al_query.specs.declared.query.Query.{Query}
use Rattle.al_query.specs.declared.query.Query.TheVariants.{Of}
use Rattle.al_query_outcome.specs.Defines.{DefinesParts}
use Rattle.al_query_outcome.specs.ReadsLaw.{NamesOnly, is_by_names, is_of_another, named_by}
use Rattle.al_query_outcome.specs.Results.{Outcome}
use Rattle.al_engine_toy.specs.Outcomes.{faulty, plain}

-- `m` is the body of a main procedure, all else a package
abbrev pub is_main : ℕ → Bool
is_main b = b == 109

abbrev pub form_of : ℕ → UnitForm
form_of b = if is_main b then SubprogramBody else PackageDeclaration

abbrev pub mention_of : List ℕ → Mention
mention_of name = record { name = name; place = record { line = 1; col = 1 } }

-- a header with this name and form and these mentions
abbrev pub header_with : List ℕ → UnitForm → Bool → List Mention → Header
header_with name form main mentions = record {
  name = name;
  place = record { line = 1; col = 1 };
  form = form;
  is_private = false;
  needs_body = false;
  parent_body = None;
  designator = name;
  mentions = mentions;
  stubs = [];
  elaborate = [];
  elaborate_all = [];
  has_elaborate_body = false;
  is_parameterless_procedure = main;
}

-- the words of a source after the beginning of a word, between blanks
abbrev pub words_from : List ℕ → List ℕ → List (List ℕ)
words_from word [] = word ∷ []
words_from word (b ∷ bs) = if b == 32 then word ∷ words_from [] bs else words_from (word ++ b ∷ []) bs

-- the header of a unit whose name is the first of these, and that mentions the others
abbrev pub header_of : ℕ → List (List ℕ) → Header
header_of form [] = header_with [] PackageDeclaration false []
header_of form (name ∷ mentions) = header_with name (form_of form) (is_main form) (map mention_of mentions)

-- the header of a source
abbrev pub header_in : List ℕ → Header
header_in (form ∷ mark ∷ names) = header_of form (words_from [] names)
header_in _ = header_with [] PackageDeclaration false []

-- the second byte is an exclamation mark
abbrev pub is_marked : List ℕ → Bool
is_marked (form ∷ mark ∷ rest) = mark == 33
is_marked _ = false

-- the file of a source
abbrev pub source_of : List ℕ → Source
source_of text = record { text = text; contents = Headed (header_in text) }

-- the library of the sources
unfoldable pub toy_library : Texts → Library
toy_library files = map (λ file. (file.0, source_of file.1)) files

-- the sources of a library
abbrev pub texts_of : Library → Texts
texts_of lib = map (λ file. (file.0, file.1.text)) lib

-- a library is that of its sources
abbrev pub AreToys : Library → Type 0
AreToys lib = lib ≡ toy_library (texts_of lib)

-- equal sources are parsed alike in any two libraries; each unit's header is that of its source; none names a parent body
pub record ToysAreRead : Type 0 where
  pub headed : (files : Texts) → AreHeaded header_in (toy_library files)
  pub bodies : (files : Texts) → NameParentBodies (toy_library files)
  pub alike : (old new : Texts) → AreReadAlike (toy_library old) (toy_library new)

-- the declaration of the first unit that is mentioned
abbrev pub first_mentioned : List Mention → Option UnitKey
first_mentioned [] = None
first_mentioned (m ∷ ms) = Some (declaration m.name)

-- a unit other than this one
abbrev pub another : UnitKey → Option UnitKey → Option UnitKey
another unit None = None
another unit (Some d) = if same_unit unit d then None else Some d

abbrev pub first_named : UnitKey → Header → Option UnitKey
first_named unit h = another unit (first_mentioned h.mentions)

-- the parent of the parent is private or not
abbrev pub by_private : UnitKey → UnitKey → Bool → Bool → Outcome
by_private unit first marked true = faulty unit
by_private unit first marked false = plain unit (Some first) marked

-- the parent's parent is this, if it has one that isn't the unit itself
abbrev pub by_second : UnitKey → UnitKey → Bool → Option UnitKey → (Query → AnswerKind) → Outcome
by_second unit first marked None t = plain unit (Some first) marked
by_second unit first marked (Some second) t = by_private unit first marked (is_private_of (t (Of second IsPrivate)))

-- the parent is this, if there is one
abbrev pub by_first : UnitKey → Bool → Option UnitKey → (Query → AnswerKind) → Outcome
by_first unit marked None t = plain unit None marked
by_first unit marked (Some first) t = by_second unit first marked (another unit (parent_of (t (Of first Parent)))) t

-- a declaration leaves nothing to its body
abbrev pub is_nothing : List Completion → Bool
is_nothing [] = true
is_nothing (c ∷ cs) = false

-- the source is that of a library subprogram's body with this name
abbrev pub is_body_of : Header → List ℕ → Bool
is_body_of h name = is_subprogram_body h.form && bytes_eq h.name name

-- a unit of this kind is one of the language: a declaration, or a main procedure's body to which its declaration, if there is one,
-- leaves nothing
abbrev pub is_whole_as : UnitKind → List ℕ → Header → Table → Bool
is_whole_as Decl name h t = true
is_whole_as Body name h t = is_body_of h name && is_nothing (completions_of (t (Of (declaration name) Completions)))
is_whole_as Sub name h t = false

abbrev pub is_whole : UnitKey → Header → Table → Bool
is_whole unit h t = is_whole_as unit.kind unit.name h t

-- the outcome of a unit with a source under a table of answers
abbrev pub toy_meaning : UnitKey → List ℕ → (Query → AnswerKind) → Outcome
toy_meaning unit text t =
    if is_whole unit (header_in text) t then by_first unit (is_marked text) (first_named unit (header_in text)) t else faulty unit

-- an outcome of the toy
pub data IsToys (unit : UnitKey) : Outcome → Type 0 where
  is_plain : (parent : Option UnitKey) (marked : Bool) → IsToys unit (plain unit parent marked)
  is_faulty : IsToys unit (faulty unit)

-- a question of another unit, for a property; for what a body must complete, of the unit's own declaration
abbrev pub may_ask : UnitKey → List (List ℕ) → Log → Query → Bool
may_ask unit words log q = is_of_another unit q && is_by_names unit words q

-- between these logs a check of a unit with this header asked only so
abbrev pub AsksWell : UnitKey → Header → Log → Log → Type 0
AsksWell unit h old log = (words : List (List ℕ)) → AsksOf (named_by h) (may_ask unit words) old log

-- the check asked the unit that the source names first for its parent
pub record HasParent (unit : UnitKey) (h : Header) (first : UnitKey) (a : AnswerKind) (old log : Log) : Type 0 where
  pub named : first_named unit h ≡ Some first
  pub answered : FromAnswers old log (λ t. t (Of first Parent) ≡ a)
  pub asks : AsksWell unit h old log
  pub learns : Learns old log (Of first Parent) a

-- a check of a unit of the language with this header asked these questions after those, and gave this
pub record IsJudged (unit : UnitKey) (h : Header) (marked : Bool) (old log : Log) (outcome : Outcome) : Type 0 where
  pub meaning : FromAnswers old log (λ t. outcome ≡ by_first unit marked (first_named unit h) t)
  pub asks : AsksWell unit h old log
  pub names : NamesOnly (unit ∷ known_after (named_by h) log) outcome
  pub toys : IsToys unit outcome

-- a check of a unit with this source asked these questions, and gave this
pub record IsChecked (unit : UnitKey) (text : List ℕ) (log : Log) (outcome : Outcome) : Type 0 where
  pub meaning : HoldsBy log (λ t. outcome ≡ toy_meaning unit text t)
  pub asks : AsksWell unit (header_in text) [] log
  pub names : NamesOnly (unit ∷ known_after (named_by (header_in text)) log) outcome
  pub parts : HoldsBy log (λ t. DefinesParts unit (header_in text) t outcome)
  pub toys : IsToys unit outcome
