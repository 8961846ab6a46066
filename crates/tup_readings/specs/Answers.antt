-- What the sources, and the readings of other folders, answer to the reading of a folder. The files that rules make in a folder are those
-- of its home. That a folder's own outputs are added by its own reading, and that answers wait for the readings of other folders, is
-- own; the rest is the manual's.
use Rattle.std.specs.Prelude.{ℕ, Bool, not, ◌&&◌, ◌||◌, if◌then◌else◌, List, [], ◌++◌, Option, Some, None, is_none, option_and_then}
use Rattle.std.specs.FinMap as finite
use Rattle.std.specs.Result.{result_ok}
use Rattle.tup_path.specs.Name.{Names}
use Rattle.tup_path.specs.Order.{by_names, same_path}
use Rattle.tup_path.specs.Resolve.{above}
use Rattle.tup_path.specs.Tree.{Tree}
use Rattle.tup_rule.specs.declared.draft.Draft.{Draft}
use Rattle.tup_rule.specs.declared.question.Kind.{Kind}
use Rattle.tup_rule.specs.declared.question.Kind.TheVariants.{Nothing, File, Dir}
use Rattle.tup_rule.specs.declared.question.Question.{Question}
use Rattle.tup_rule.specs.declared.question.Question.TheVariants as asks
use Rattle.tup_rule.specs.declared.question.Reading.{Reading}
use Rattle.tup_rule.specs.declared.question.Told.{Told}
use Rattle.tup_rule.specs.declared.question.Told.TheVariants as told
use Rattle.tup_vars.specs.Table.{Entries, look}
use Rattle.tup_rule_line.specs.Glob.{names_among, in_order}
use Rattle.tup_rule_line.specs.State.{made_by, is_made}
use Rattle.tup_readings.specs.Sources.{is_source, has_below, has_tupfile, home}

-- the readings of folders so far
abbrev pub Readings : Type 0
Readings = finite.FinMap by_names Reading

-- the rules of a folder's reading
abbrev pub drafts_of : Readings → Names → List Draft
drafts_of readings dir = elim (finite.get readings dir) [ Some reading ↦ reading.drafts | None ↦ [] ]

-- the rules of another folder that the reading of a folder sees; of its own it sees none here
abbrev pub other_drafts : Readings → Names → Names → List Draft
other_drafts readings reader dir = if same_path reader dir then [] else drafts_of readings dir

-- the rules that may make files in a folder, as the reading of a folder sees them: those of its home
abbrev pub seen_drafts : Tree → Readings → Names → Names → List Draft
seen_drafts sources readings reader dir = elim (home sources dir) [ Some home ↦ other_drafts readings reader home | None ↦ [] ]

-- the names of the files in a folder, in byte order: sources, and outputs of the rules of its home, where that is another folder
abbrev pub names_in : Tree → Readings → Names → Names → List (List ℕ)
names_in sources readings reader dir = in_order (names_among dir (finite.keys sources ++ made_by (seen_drafts sources readings reader dir)))

-- what the rules of a folder's home make at a path, where that home is another folder
abbrev pub made_kind : Tree → Readings → Names → Names → Names → Kind
made_kind sources readings reader dir path = if is_made (seen_drafts sources readings reader dir) path then File else Nothing

-- what stands at a path: a source, else a folder of sources, else an output of the rules of its folder's home, where that is another
-- folder
abbrev pub kind_at : Tree → Readings → Names → Names → Kind
kind_at sources readings reader path =
    if is_source sources path then File
    else if has_below (finite.keys sources) path then Dir
    else elim (result_ok (above path)) [ Some dir ↦ made_kind sources readings reader dir path | None ↦ Nothing ]

-- whether a folder has to be read before it is asked about: another one that has a Tupfile and wasn't read yet
abbrev pub is_unread : Tree → Readings → Names → Names → Bool
is_unread sources readings reader dir = not (same_path reader dir) && has_tupfile sources dir && is_none (finite.get readings dir)

-- the folder for whose reading an answer about it waits
abbrev pub unread : Tree → Readings → Names → Names → Option Names
unread sources readings reader dir = if is_unread sources readings reader dir then Some dir else None

-- the folder of whose rules an answer tells: the home of that whose names are asked, or of that of a path at which no source stands and
-- no folder of sources
abbrev pub folder_told : Tree → Question → Option Names
folder_told sources (asks.Names dir) = home sources dir
folder_told sources (asks.Kind path) =
    if is_source sources path || has_below (finite.keys sources) path then None else option_and_then (home sources) (result_ok (above path))
folder_told sources _ = None

-- the folder for whose reading an answer waits
abbrev pub awaited : Tree → Readings → Names → Question → Option Names
awaited sources readings reader question = option_and_then (unread sources readings reader) (folder_told sources question)

-- the answer to a question of the reading of a folder
abbrev pub answer : Tree → Entries → Readings → Names → Question → Told
answer sources settings readings reader (asks.Content path) = told.Content (finite.get sources path)
answer sources settings readings reader (asks.Config name) = told.Config (look settings name)
answer sources settings readings reader (asks.Names dir) = told.Names (names_in sources readings reader dir)
answer sources settings readings reader (asks.Kind path) = told.Kind (kind_at sources readings reader path)
