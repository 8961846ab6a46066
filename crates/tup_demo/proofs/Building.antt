-- The clean build of the project: its rule copies `a`, and is Good.
use Rattle.std.proofs.Common.{◌≡◌, [], ◌∷◌, codes, Option, None, Some, refl, ap, ◌∙◌}
use Rattle.std.specs.FinMap as finite
use Rattle.tup_path.specs.Name.{Content}
use Rattle.tup_path.specs.Order.{by_names-total}
use Rattle.tup_runner.specs.declared.step.Answer.{Answer}
use Rattle.tup_runner.specs.declared.step.Answer.TheVariants.{Content as Holds, Absent}
use Rattle.tup_mini.specs.Means.{mini_next}
use Rattle.tup_access.specs.declared.verdict.Verdict.TheVariants.{Good}
use Rattle.tup_access.specs.Judge.{Judged, good}
use Rattle.tup_access.specs.Verdict.{follow, verdict}
use Rattle.tup_clean.specs.Clean.{Build, clean, with_files}
use Rattle.tup_clean.specs.Taken.{takes}
use Rattle.tup_demo.specs.Project.{demo_files, demo_source, demo_tree}
use Rattle.tup_demo.specs.Build.{demo_build, demo_rule, demo_rules}

pub source_there : finite.get demo_tree (codes "a" ∷ []) ≡ Some demo_source
source_there = finite.get-from_entries by_names-total demo_files (codes "a" ∷ [])

-- what a command is told where this was found
abbrev told : Option Content → Answer
told found = elim found as (λ _. Answer) [ Some content ↦ Holds content | None ↦ Absent ]

-- what becomes of its command once it was told that
abbrev goes_on : Option Content → Judged
goes_on found = follow mini_next demo_rules demo_rule demo_tree 65535 ((codes "a", told found) ∷ [])

asks_once : verdict mini_next demo_rules demo_rule demo_tree ≡ goes_on (finite.get demo_tree (codes "a" ∷ []))
unfolding verdict follow mini_next
asks_once = refl

ends : goes_on (Some demo_source) ≡ good ((codes "b" ∷ [], demo_source) ∷ [])
unfolding follow mini_next
ends = refl

judged : verdict mini_next demo_rules demo_rule demo_tree ≡ good ((codes "b" ∷ [], demo_source) ∷ [])
judged = asks_once ∙ ap goes_on source_there ∙ ends

-- the build once its rule was judged so
abbrev made : Judged → Build
made one = record { tree = with_files demo_tree one.files; verdicts = Some one.verdict ∷ [] }

takes_it : clean mini_next demo_rules demo_tree ≡ made (verdict mini_next demo_rules demo_rule demo_tree)
unfolding clean
takes_it = refl

pub builds : clean mini_next demo_rules demo_tree ≡ demo_build
builds = takes_it ∙ ap made judged

takes_one : takes mini_next demo_rules demo_tree ≡ (0, (verdict mini_next demo_rules demo_rule demo_tree).verdict) ∷ []
unfolding takes
takes_one = refl

-- the rule is the one that is taken
pub taken : takes mini_next demo_rules demo_tree ≡ (0, Good) ∷ []
taken = takes_one ∙ ap (λ (one : Judged). (0, one.verdict) ∷ []) judged
