-- How an answer to a reading's question is kept (own): a content by its stamp, all else as it was told. It has the kind of
-- its question.
use Rattle.std.specs.Prelude.{option_map}
use Rattle.tup_stamp.specs.Stamp.{stamp}
use Rattle.tup_rule.specs.declared.question.Noted.{Noted}
use Rattle.tup_rule.specs.declared.question.Question.{Question}
use Rattle.tup_rule.specs.declared.question.Question.TheVariants as asks
use Rattle.tup_rule.specs.declared.question.Told.{Told}
use Rattle.tup_rule.specs.declared.question.Noted.TheVariants as kept
use Rattle.tup_rule.specs.declared.question.Told.TheVariants as told

-- what is kept of an answer
abbrev pub noted : Told → Noted
noted (told.Content content) = kept.Content (option_map stamp content)
noted (told.Config value) = kept.Config value
noted (told.Names names) = kept.Names names
noted (told.Kind kind) = kept.Kind kind

-- what was told of a question has its kind
abbrev pub HasKindOf : Question → Noted → Type 0
HasKindOf (asks.Content path) (kept.Content content) = Unit {0}
HasKindOf (asks.Config name) (kept.Config value) = Unit {0}
HasKindOf (asks.Names dir) (kept.Names names) = Unit {0}
HasKindOf (asks.Kind path) (kept.Kind kind) = Unit {0}
HasKindOf _ _ = ⊥
