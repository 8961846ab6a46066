-- What a swap has to bring so that a kept graph stays kept (own).
use Rattle.std.specs.Prelude.{◌≡◌, ℕ, true, List, None, Some, All, IsSome, slice_get}
use Rattle.std.specs.FinMap as finite
use Rattle.tup_path.specs.Name.{Names, Content}
use Rattle.tup_rule.specs.Rule.{writes}
use Rattle.tup_rule.specs.declared.question.Noted.{Noted}
use Rattle.tup_rule.specs.declared.question.Question.{Question}
use Rattle.tup_rule.specs.declared.question.Reading.{Reading}
use Rattle.tup_rule.specs.declared.rule.Rule.{Rule}
use Rattle.tup_graph.specs.Answers.{tupfile, Readings, Sources, IsAnswer, IsSource}
use Rattle.tup_graph.specs.Graph.{GraphState, source}
use Rattle.tup_graph.specs.Kept.{HasMakers}
use Rattle.tup_graph.specs.Records.{Language, IsTrueReading}
use Rattle.tup_graph.specs.Swap.{reading_now}

-- readings are those of sources: each folder with a Tupfile has one, and each was told what is so
pub record AreReadingsOf (known : List Content) (sources : Sources) (readings : Readings) : Type 0 where
  pub read : (dir : Names) → IsSource sources (tupfile dir) → IsSome (finite.get readings dir)
  pub told : (dir : Names) (reading : Reading) → finite.get readings dir ≡ Some reading → All (λ (one : Question × Noted). IsAnswer known sources readings dir one.0 one.1) reading.asked

-- rules stand beside sources: none has a source as an output, and no two have one output
pub record AreBeside (sources : Sources) (rules : List Rule) : Type 0 where
  pub apart : (number : ℕ) (rule : Rule) (path : Names) → slice_get rules number ≡ Some rule → writes rule path ≡ true → sources path ≡ None
  pub once : (number other : ℕ) (rule same : Rule) (path : Names) → slice_get rules number ≡ Some rule → slice_get rules other ≡ Some same → writes rule path ≡ true
      → writes same path ≡ true → number ≡ other

-- with these readings all are true ones of the sources that are seen, and these rules are those that linking gives of them
pub record AreFitting (language : Language) (known : List Content) (g : GraphState) (fresh : List (Names × Reading)) (gone : List Names) (rules : List Rule) : Type 0 where
  pub readings : Readings
  pub together : (dir : Names) → finite.get readings dir ≡ reading_now g fresh gone dir
  pub true_ones : (dir : Names) (reading : Reading) → finite.get readings dir ≡ Some reading → IsTrueReading language known dir reading
  pub stand : AreReadingsOf known (source g) readings
  pub linked : language.linked (finite.entries readings) ≡ Some rules
  pub beside : AreBeside (source g) rules

-- a graph's readings and rules fit together: no folder is to be read, readings are those of the sources that are seen, the rules
-- are those that linking gives, outputs are owned by their rules, and no other path has a maker
pub record FitsTogether (language : Language) (known : List Content) (g : GraphState) : Type 0 where
  pub created : g.created ≡ finite.empty
  pub stand : AreReadingsOf known (source g) g.readings
  pub owners : HasMakers g
  pub linked : language.linked (finite.entries g.readings) ≡ Some g.rules
