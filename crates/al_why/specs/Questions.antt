-- Questions, as they are printed.
use Rattle.std.specs.Prelude.{ℕ, ◌++◌, List, [], codes}
use Rattle.al_query.specs.declared.query.Property.{Property}
use Rattle.al_query.specs.declared.query.Property.TheVariants.{Kind, Parent, IsPrivate, Context, NeedsBody, Completions}
use Rattle.al_query.specs.declared.query.Query.{Query}
use Rattle.al_query.specs.declared.query.Query.TheVariants.{Named, Of}

-- the words before the name of a unit that is asked for a property
abbrev pub property_front : Property → List ℕ
property_front Kind = codes "what "
property_front Parent = codes "the parent of "
property_front IsPrivate = codes "whether "
property_front Context = codes "the context of "
property_front NeedsBody = codes "whether "
property_front Completions = codes "what the body of "

-- the words after it
abbrev pub property_back : Property → List ℕ
property_back Kind = codes " is"
property_back Parent = []
property_back IsPrivate = codes " is private"
property_back Context = []
property_back NeedsBody = codes " needs a body"
property_back Completions = codes " completes"

-- a name of a unit, or a property of it
abbrev pub question_words : Query → List ℕ
question_words (Named unit part name) = unit.name ++ codes "." ++ name
question_words (Of unit property) = property_front property ++ unit.name ++ property_back property
