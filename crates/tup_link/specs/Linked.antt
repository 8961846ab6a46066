-- Drafts become rules: the members of their groups are put in. From the manual; where they stand is own.
use Rattle.std.specs.Prelude.{ℕ, if◌then◌else◌, List, [], ◌∷◌, ◌++◌, map, fold, None, Some, slice_get, option_map}
use Rattle.std.specs.List.{flat_map, join_with_byte}
use Rattle.tup_path.specs.Name.{Names}
use Rattle.tup_path.specs.Show.{show_from}
use Rattle.tup_rule.specs.declared.draft.GroupRef.{GroupRef}
use Rattle.tup_rule.specs.declared.draft.Piece.{Piece}
use Rattle.tup_rule.specs.declared.draft.Piece.TheVariants.{Text, Group}
use Rattle.tup_rule.specs.declared.question.Reading.{Reading}
use Rattle.tup_rule.specs.declared.rule.Rule.{Rule}
use Rattle.tup_rule.specs.Rule.{among}
use Rattle.tup_link.specs.Placed.{Placed, placed, drafts_of}
use Rattle.tup_link.specs.Groups.{members}

-- files as a command names them: the way to each from the rule's folder, parted by one space
abbrev pub shown : Names → List Names → List ℕ
shown dir paths = join_with_byte 32 (map (show_from dir) paths)

-- paths with one more at their end, unless it is among them
abbrev pub with_path : List Names → Names → List Names
with_path paths path = if among path paths then paths else paths ++ path ∷ []

-- paths with others behind them, each of these once and where it isn't there yet
abbrev pub with_paths : List Names → List Names → List Names
with_paths paths others = fold with_path paths others

-- what each group has
abbrev pub Members : Type 0
Members = GroupRef → List Names

module _ (group_has : Members) where
  -- what a piece of a command stands for, in a folder where a rule takes these groups: its text, or what the group at this
  -- place has, and nothing where there is none
  abbrev pub piece_text : Names → List GroupRef → Piece → List ℕ
  piece_text dir groups (Text text) = text
  piece_text dir groups (Group at) = elim (slice_get groups at) [ Some group ↦ shown dir (group_has group) | None ↦ [] ]

  -- a command's pieces put together
  abbrev pub text_of : Names → List GroupRef → List Piece → List ℕ
  text_of dir groups pieces = flat_map (piece_text dir groups) pieces

  -- the rule of a draft: what its groups have is put into its texts, and stands behind its order-only inputs
  abbrev pub rule_of : Placed → Rule
  rule_of one =
      let draft = one.draft in
      record {
        dir = one.dir;
        text = text_of one.dir draft.groups draft.pieces;
        display = option_map (text_of one.dir draft.groups) draft.display;
        compare = draft.compare;
        inputs = draft.inputs;
        order = with_paths draft.order (flat_map group_has draft.groups);
        outputs = draft.outputs;
      }

-- the rules of drafts: each group has its members over all of them
abbrev pub rules_in : List Placed → List Rule
rules_in all = map (rule_of (members (drafts_of all))) all

-- the rules that the readings of all folders come to
unfoldable pub rules_of : List (Names × Reading) → List Rule
rules_of readings = rules_in (placed readings)
