-- What precedes an object in an image, and how much an image may hold.
use Rattle.std.specs.Prelude.{ℕ, ◌+◌, ◌≤◌, length}
use Rattle.al_view.specs.declared.link.LinkKind.{LinkKind}
use Rattle.al_view.specs.declared.link.LinkKind.TheVariants as kind
use Rattle.al_code_object.specs.Objects.{CompiledCode}
use Rattle.al_link.specs.declared.bases.Bases.{Bases}

-- what precedes the next object
abbrev pub next_bases : Bases → CompiledCode → Bases
next_bases b o = record {
  code = b.code + length o.code;
  words = b.words + o.data_words;
  objects = b.objects + length o.protected;
  tasks = b.tasks + o.tasks;
}

-- at most 2^24 bytes of code, 2^20 data words, 65,535 protected objects and 63 tasks
pub record AreSmall (b : Bases) : Type 0 where
  pub code : b.code ≤ 16777216
  pub words : b.words ≤ 1048576
  pub objects : b.objects ≤ 65535
  pub tasks : b.tasks ≤ 63

-- code counts in bytes, words and flags in data words, protected objects by their numbers
abbrev pub base_of : Bases → LinkKind → ℕ
base_of b kind.Code = b.code
base_of b kind.Gate = b.code
base_of b kind.EntryBody = b.code
base_of b kind.Flag = b.words
base_of b kind.Data = b.words
base_of b kind.Protected = b.objects
