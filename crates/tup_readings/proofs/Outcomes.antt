-- Two outcomes of one project.
use Rattle.std.proofs.Common.{◌≡◌, ◌⊎◌, inl, inr, List, Result, Ok, Err, IsTrue, refl, sym, ap, ◌∙◌, subst}
use Rattle.std.specs.Bool.{passes}
use Rattle.std.specs.FinMap as finite
use Rattle.tup_path.specs.Name.{Names}
use Rattle.tup_path.specs.Order.{by_names}
use Rattle.tup_path.specs.Tree.{Tree}
use Rattle.tup_rule.specs.declared.question.Reading.{Reading}
use Rattle.tup_vars.specs.Table.{Entries}
use Rattle.tup_vars.specs.declared.fault.ConfigFault.{ConfigFault}
use Rattle.tup_vars.specs.declared.fault.ConfigFault.TheVariants as config
use Rattle.tup_readings.specs.declared.fault.FoldersFault.{FoldersFault}
use Rattle.tup_readings.specs.declared.fault.FoldersFault.TheVariants.{Parse, Circular, Memory}
use Rattle.tup_readings.specs.Readings.{AreRead, AreReadWith, IsConfig, config_fault, IsOutcome}
use Rattle.tup_readings.specs.Sources.{settings_of}
use Rattle.tup_readings.specs.Laws.{AreAlike}
use Rattle.tup_readings.proofs.One.{all_readings_are_one}
use Rattle.tup_readings.proofs.Leading.{not_all, one_fault, fault_met, circle_met, no_fault_beside, one_circle}

alike_itself : (fault : ConfigFault) → AreAlike (Err (config_fault fault)) (Err (config_fault fault))
alike_itself (config.At line kind) = refl
alike_itself config.Memory = tt

memory_last : (one : Result (List (Names × Reading)) FoldersFault) → AreAlike one (Err Memory)
memory_last (Ok list) = tt
memory_last (Err (Parse fault)) = tt
memory_last (Err (Circular dirs)) = tt
memory_last (Err Memory) = tt

-- where tup.config has a fault
told_of_config : (fault : ConfigFault) (one other : Result (List (Names × Reading)) FoldersFault) → (one ≡ Err Memory) ⊎ (one ≡ Err (config_fault fault)) → (other ≡ Err Memory) ⊎ (other ≡ Err (config_fault fault))
    → AreAlike one other
told_of_config fault one other (inl is) also = subst (λ (r : Result (List (Names × Reading)) FoldersFault). AreAlike r other) (sym is) tt
told_of_config fault one other (inr is) (inl also) = subst (AreAlike one) (sym also) (memory_last one)
told_of_config fault one other (inr is) (inr also) =
    subst (λ (r : Result (List (Names × Reading)) FoldersFault). AreAlike r other) (sym is) (subst (AreAlike (Err (config_fault fault))) (sym also) (alike_itself fault))

same_list : (list more : List (Names × Reading)) → IsTrue (finite.is_sorted by_names list) → IsTrue (finite.is_sorted by_names more) → finite.from_sorted {R = by_names} list ≡ finite.from_sorted more → list ≡ more
same_list list more up also same = sym (finite.entries-from_sorted by_names list (passes _ up)) ∙ ap finite.entries same ∙ finite.entries-from_sorted by_names more (passes _ also)

-- where it has none
read_alike : (sources : Tree) (settings : Entries) (one other : Result (List (Names × Reading)) FoldersFault) → AreRead sources settings one → AreRead sources settings other → AreAlike one other
read_alike sources settings (Err Memory) other is also = tt
read_alike sources settings (Ok list) (Ok more) is also = same_list list more is.0 also.0 (all_readings_are_one sources settings (finite.from_sorted list) (finite.from_sorted more) is.1 also.1)
read_alike sources settings (Ok list) (Err Memory) is also = tt
read_alike sources settings (Ok list) (Err (Parse fault)) is also = not_all sources settings also.readings (finite.from_sorted list) also.front also.dir (fault_met sources settings fault also) is.1
read_alike sources settings (Ok list) (Err (Circular dirs)) is also =
    not_all sources settings also.readings (finite.from_sorted list) _ also.last (circle_met sources settings dirs also) is.1
read_alike sources settings (Err (Parse fault)) (Err (Parse more)) is also = one_fault sources settings fault more is also
read_alike sources settings (Err (Parse fault)) (Err Memory) is also = tt
read_alike sources settings (Err (Parse fault)) (Ok list) is also = not_all sources settings is.readings (finite.from_sorted list) is.front is.dir (fault_met sources settings fault is) also.1
read_alike sources settings (Err (Parse fault)) (Err (Circular dirs)) is also = no_fault_beside sources settings fault dirs is also
read_alike sources settings (Err (Circular dirs)) (Err (Circular others)) is also = one_circle sources settings dirs others is also
read_alike sources settings (Err (Circular dirs)) (Err Memory) is also = tt
read_alike sources settings (Err (Circular dirs)) (Ok list) is also =
    not_all sources settings is.readings (finite.from_sorted list) _ is.last (circle_met sources settings dirs is) also.1
read_alike sources settings (Err (Circular dirs)) (Err (Parse fault)) is also = no_fault_beside sources settings fault dirs also is

pub outcomes_alike : (sources : Tree) (one other : Result (List (Names × Reading)) FoldersFault) → IsOutcome sources one → IsOutcome sources other → AreAlike one other
outcomes_alike sources one other is also = by (settings_of sources) is also
  where
    by : (found : Result Entries ConfigFault) → AreReadWith sources found one → AreReadWith sources found other → AreAlike one other
    by (Ok settings) is also = read_alike sources settings one other is also
    by (Err fault) is also = told_of_config fault one other is also

-- ---- what the whole comes to

pub outcome_ok : (tree sources : Tree) (settings : Entries) (result : Result (List (Names × Reading)) FoldersFault) → sources ≡ tree → settings_of sources ≡ Ok settings → AreRead sources settings result → IsOutcome tree result
outcome_ok tree sources settings result is set read =
    subst (λ (t : Tree). IsOutcome t result) is (subst (λ (found : Result Entries ConfigFault). AreReadWith sources found result) (sym set) read)

pub outcome_memory : (tree : Tree) → IsOutcome tree (Err Memory)
outcome_memory tree = by (settings_of tree)
  where
    by : (found : Result Entries ConfigFault) → AreReadWith tree found (Err Memory)
    by (Ok settings) = tt
    by (Err fault) = inl refl

pub outcome_err : (tree sources : Tree) (fault : FoldersFault) → sources ≡ tree → IsConfig (settings_of sources) (Err fault) → IsOutcome tree (Err fault)
outcome_err tree sources fault is (inl e) = subst (λ (f : FoldersFault). IsOutcome tree (Err f)) (sym e) (outcome_memory tree)
outcome_err tree sources fault is (inr told) =
    subst (λ (t : Tree). IsOutcome t (Err fault)) is
    (subst (λ (found : Result Entries ConfigFault). AreReadWith sources found (Err fault)) (sym told.1) (inr (ap (λ (f : FoldersFault). Err f) told.2)))
