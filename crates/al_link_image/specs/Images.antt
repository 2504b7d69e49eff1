-- Images: all that a partition's run starts from, and their bytes.
use Rattle.std.specs.Prelude.{◌≡◌, ℕ, ◌+◌, ◌<◌, ◌≤◌, ◌==◌, nat_le, Bool, ◌&&◌, ◌||◌, IsTrue, List, ◌∷◌, ◌++◌, length, All, Option, Result, Ok, Err}
use Rattle.std.specs.List.{flat_map, list_all}
use Rattle.al_base.specs.declared.unit_key.UnitKind.{UnitKind}
use Rattle.al_base.specs.declared.unit_key.UnitKind.TheVariants.{Decl, Body, Sub}
use Rattle.al_instr.specs.declared.instruction.Instr.{Instr}
use Rattle.al_instr.specs.Codes.{word_bytes, code_bytes, IsInstr}
use Rattle.al_link_image.specs.declared.fault.LinkFault.{LinkFault}
use Rattle.al_link_image.specs.declared.fault.LinkFault.TheVariants as faults
use Rattle.al_link_image.specs.declared.parts.Region.{Region}
use Rattle.al_link_image.specs.declared.parts.ImageObject.{ImageObject}
use Rattle.al_instr.specs.declared.lines.LineEntry.{LineEntry}
use Rattle.al_link_image.specs.Lines.{LinesFit, lines_bytes, mark_of}

-- an image: how many tasks and data words, the words of protected objects, where the code of each unit begins, the code, and
-- where its lines begin; an image of version 1 has no lines
pub record Image : Type 0 where
  pub tasks : ℕ
  pub data_words : ℕ
  pub protected : List Region
  pub objects : List ImageObject
  pub code : List Instr
  pub lines : Option (List LineEntry)

-- ---- what an image may be

-- a protected object's words are among so many data words, and its ceiling is a priority
abbrev pub IsRegion : ℕ → Region → Type 0
IsRegion words r = (r.address + r.words ≤ words) × (r.ceiling ≤ 30)

-- a letter in lower case, a digit, an underline or a dot
abbrev pub is_name_byte : ℕ → Bool
is_name_byte b = (nat_le 97 b && nat_le b 122) || (nat_le 48 b && nat_le b 57) || (b == 95) || (b == 46)

abbrev pub IsUnitName : List ℕ → Type 0
IsUnitName name = (0 < length name) × (length name ≤ 255) × IsTrue (list_all is_name_byte name)

abbrev pub IsObject : ImageObject → Type 0
IsObject o = IsUnitName o.name × (o.place < 0x1_0000_0000)

pub record IsImage (image : Image) : Type 0 where
  pub tasks : image.tasks ≤ 63
  pub data_words : image.data_words ≤ 1048576
  pub protected_count : length image.protected ≤ 65535
  pub protected : All (IsRegion image.data_words) image.protected
  pub object_count : length image.objects ≤ 65535
  pub objects : All IsObject image.objects
  pub code : All IsInstr image.code
  pub code_size : length (code_bytes image.code) ≤ 16777216
  pub lines : LinesFit (length (code_bytes image.code)) image.lines

-- ---- bytes

abbrev pub kind_number : UnitKind → ℕ
kind_number Decl = 0
kind_number Body = 1
kind_number Sub = 2

abbrev pub region_bytes : Region → List ℕ
region_bytes r = word_bytes r.address ++ word_bytes r.words ++ word_bytes r.ceiling

-- the protected objects after their number
abbrev pub regions_bytes : List Region → List ℕ
regions_bytes regions = word_bytes (length regions) ++ flat_map region_bytes regions

-- an object's bytes: its kind, the length of its name, the name, and where its code begins
abbrev pub object_bytes : ImageObject → List ℕ
object_bytes o = kind_number o.kind ∷ length o.name ∷ o.name ++ word_bytes o.place

-- the objects after their number
abbrev pub objects_bytes : List ImageObject → List ℕ
objects_bytes objects = word_bytes (length objects) ++ flat_map object_bytes objects

-- what comes before the code
abbrev pub front_bytes : Image → List ℕ
front_bytes image =
    mark_of image.lines ++ word_bytes image.tasks ++ word_bytes image.data_words ++ regions_bytes image.protected ++ objects_bytes image.objects

-- an image's bytes
unfoldable pub image_bytes : Image → List ℕ
image_bytes image = front_bytes image ++ word_bytes (length (code_bytes image.code)) ++ code_bytes image.code ++ lines_bytes image.lines

-- ---- reading

-- the fault isn't one of the bytes
abbrev pub IsNoDamage : LinkFault → Type 0
IsNoDamage faults.TooLarge = ⊥
IsNoDamage faults.Damaged = ⊥
IsNoDamage faults.NoMemory = Unit {0}

-- what was read isn't damaged
abbrev pub IsNotDamaged : {X : Type 0} → Result X LinkFault → Type 0
IsNotDamaged (Ok x) = Unit {0}
IsNotDamaged (Err fault) = IsNoDamage fault

-- what was read is the image, unless the allocator refused memory
abbrev pub IsReadAs : Image → Result Image LinkFault → Type 0
IsReadAs image (Ok read) = read ≡ image
IsReadAs image (Err fault) = IsNoDamage fault
