-- What a reading was told, beside what a scan found (own).
use Rattle.std.specs.Prelude.{◌≡◌, ◌↔◌, Bool, true, false, List, ℕ, Option, All, Contains, option_to_list}
use Rattle.std.specs.List.Sorted.{IsStrictlySortedBy}
use Rattle.tup_path.specs.Name.{Names, Content}
use Rattle.tup_path.specs.Order.{by_bytes}
use Rattle.tup_rule.specs.declared.question.Noted.{Noted}
use Rattle.tup_rule.specs.declared.question.Question.{Question}
use Rattle.tup_graph.specs.Answers.{IsAnswer, IsFileFor}
use Rattle.tup_graph.specs.Graph.{source}
use Rattle.tup_scan_diff.specs.Present.{graph_of}
use Rattle.tup_scan_diff.specs.declared.present.Present.{Present}

-- what was told to a question is what sources and readings answer now
abbrev pub IsToldSo : Option Content → Present → Names → Question → Noted → Type 0
IsToldSo config present reader question noted = IsAnswer (option_to_list config) (source (graph_of present)) present.nodes.now.readings reader question noted

-- all that was told is
abbrev pub AreToldSo : Option Content → Present → Names → List (Question × Noted) → Type 0
AreToldSo config present reader asked = All (λ (one : Question × Noted). IsToldSo config present reader one.0 one.1) asked

-- something that was told isn't
abbrev pub IsToldOtherwise : Option Content → Present → Names → List (Question × Noted) → Type 0
IsToldOtherwise config present reader asked =
    (question : Question) × (told : Noted) × Contains asked (question, told) × (IsToldSo config present reader question told → ⊥)

-- a test tells which of two things holds
abbrev pub Tells : Bool → Type 0 → Type 0 → Type 0
Tells test Yes No = (test ≡ true → Yes) × (test ≡ false → No)

-- the names of the files in a folder, in byte order
abbrev pub AreNames : Present → Names → Names → List (List ℕ) → Type 0
AreNames present reader dir names =
    IsStrictlySortedBy by_bytes names × ((name : List ℕ) → Contains names name ↔ IsFileFor (source (graph_of present)) present.nodes.now.readings reader dir name)
