-- Two things to which the sources of one project come.
use Rattle.std.proofs.Common.{◌≡◌, ◌⊎◌, inl, inr, List, Some, None, Result, Ok, Err, refl, sym, ap, ◌∙◌, subst}
use Rattle.tup_path.specs.Name.{Names}
use Rattle.tup_path.specs.Tree.{Tree}
use Rattle.tup_lex.specs.declared.kind.ParseKind.{ParseKind}
use Rattle.tup_lex.specs.declared.kind.ParseKind.TheVariants.{DuplicateCommand}
use Rattle.tup_rule.specs.declared.question.Reading.{Reading}
use Rattle.tup_rule.specs.declared.rule.Rule.{Rule}
use Rattle.tup_query.specs.declared.fault.ParseFault.{ParseFault}
use Rattle.tup_readings.specs.declared.fault.FoldersFault.{FoldersFault}
use Rattle.tup_readings.specs.declared.fault.FoldersFault.TheVariants as folders
use Rattle.tup_readings.specs.Laws.{AreAlike as AreFoldersAlike}
use Rattle.tup_readings.specs.Readings.{IsOutcome}
use Rattle.tup_readings.proofs.Outcomes.{outcomes_alike}
use Rattle.tup_link.specs.declared.fault.LinkFault.{LinkFault}
use Rattle.tup_link.specs.declared.fault.LinkFault.TheVariants as linking
use Rattle.tup_link.specs.Circle.{NoneWaitsForItself, names_at}
use Rattle.tup_link.specs.Faults.{HasCause}
use Rattle.tup_link.specs.Linked.{rules_of}
use Rattle.tup_project.specs.declared.fault.ProjectFault.{ProjectFault}
use Rattle.tup_project.specs.declared.fault.ProjectFault.TheVariants.{Parse, CircularDirs, CircularCommands, NoSuchGroup, TooMany, Memory}
use Rattle.tup_project.specs.Fault.{of_folders, of_linking}
use Rattle.tup_project.specs.Laws.{AreAlike}
use Rattle.tup_project.specs.Project.{AreLinked, IsUnlinked, ComeTo}
use Rattle.tup_project.proofs.Circling.{no_circle}

abbrev Found : Type 0
Found = Result (List Rule) ProjectFault

alike_itself : (fault : ProjectFault) → AreAlike (Err fault) (Err fault)
alike_itself (Parse fault) = refl
alike_itself (CircularDirs dirs) = refl
alike_itself (CircularCommands names) = tt
alike_itself (NoSuchGroup group) = refl
alike_itself (TooMany what number) = refl
alike_itself Memory = tt

memory_last : (one : Found) → AreAlike one (Err Memory)
memory_last (Ok rules) = tt
memory_last (Err (Parse fault)) = tt
memory_last (Err (CircularDirs dirs)) = tt
memory_last (Err (CircularCommands names)) = tt
memory_last (Err (NoSuchGroup group)) = tt
memory_last (Err (TooMany what number)) = tt
memory_last (Err Memory) = tt

-- a fault that is one for want of memory
alike_first : (one other : ProjectFault) (more : Found) → one ≡ other → AreAlike (Err other) more → AreAlike (Err one) more
alike_first one other more is alike = subst (λ (f : ProjectFault). AreAlike (Err f) more) (sym is) alike

alike_second : (one : Found) (fault other : ProjectFault) → fault ≡ other → AreAlike one (Err other) → AreAlike one (Err fault)
alike_second one fault other is alike = subst (λ (f : ProjectFault). AreAlike one (Err f)) (sym is) alike

-- ---- linking

-- what linking comes to, as what the project comes to
abbrev of_link : Result (List Rule) LinkFault → Found
of_link (Ok rules) = Ok rules
of_link (Err fault) = Err (of_linking fault)

abbrev LinkTo : List (Names × Reading) → Result (List Rule) LinkFault → Type 0
LinkTo readings (Ok rules) = AreLinked readings rules
LinkTo readings (Err fault) = HasCause readings fault

module _ (readings : List (Names × Reading)) where
  rules_beside_fault : (rules : List Rule) (fault : LinkFault) → AreLinked readings rules → HasCause readings fault → fault ≡ linking.Memory
  rules_beside_fault rules fault linked (inl memory) = memory
  rules_beside_fault rules fault linked (inr (inl early)) = let e : None ≡ Some fault = sym linked.early ∙ early in cc
  rules_beside_fault rules fault linked (inr (inr (none, (places, circle, is)))) = absurd (no_circle (rules_of readings) places circle (subst NoneWaitsForItself linked.are linked.order))

  faults_alike : (one other : LinkFault) → HasCause readings one → HasCause readings other → AreAlike (Err (of_linking one)) (Err (of_linking other))
  faults_alike one other (inl memory) also = alike_first (of_linking one) Memory (Err (of_linking other)) (ap of_linking memory) tt
  faults_alike one other is (inl memory) = alike_second (Err (of_linking one)) (of_linking other) Memory (ap of_linking memory) (memory_last (Err (of_linking one)))
  faults_alike one other (inr (inl early)) (inr (inl also)) =
      let e : Some one ≡ Some other = sym early ∙ also in
      let same : one ≡ other = cc in
      alike_first (of_linking one) (of_linking other) (Err (of_linking other)) (ap of_linking same) (alike_itself (of_linking other))
  faults_alike one other (inr (inl early)) (inr (inr (none, circular))) = let e : None ≡ Some one = sym none ∙ early in cc
  faults_alike one other (inr (inr (none, circular))) (inr (inl also)) = let e : None ≡ Some other = sym none ∙ also in cc
  faults_alike one other (inr (inr (none, (places, circle, is)))) (inr (inr (none_too, (others, round, also)))) =
      alike_first (of_linking one) (CircularCommands (names_at (rules_of readings) places)) (Err (of_linking other)) (ap of_linking is)
      (alike_second (Err (CircularCommands (names_at (rules_of readings) places))) (of_linking other) (CircularCommands (names_at (rules_of readings) others)) (ap of_linking also) tt)

  links_alike : (one other : Result (List Rule) LinkFault) → LinkTo readings one → LinkTo readings other → AreAlike (of_link one) (of_link other)
  links_alike (Ok rules) (Ok others) is also = is.are ∙ sym also.are
  links_alike (Ok rules) (Err fault) is also = alike_second (Ok rules) (of_linking fault) Memory (ap of_linking (rules_beside_fault rules fault is also)) tt
  links_alike (Err fault) (Ok others) is also = alike_first (of_linking fault) Memory (Ok others) (ap of_linking (rules_beside_fault others fault also is)) tt
  links_alike (Err fault) (Err other) is also = faults_alike fault other is also

-- ---- the whole

module _ (sources : Tree) where
  -- the readings are linked, or folders aren't read, or memory was wanting
  abbrev IsLinking : Found → Type 0
  IsLinking found = (readings : List (Names × Reading)) × (link : Result (List Rule) LinkFault) × IsOutcome sources (Ok readings) × LinkTo readings link × (found ≡ of_link link)

  abbrev IsUnread : Found → Type 0
  IsUnread found = (fault : FoldersFault) × IsOutcome sources (Err fault) × (found ≡ Err (of_folders fault))

  abbrev CameTo : Found → Type 0
  CameTo found = (found ≡ Err Memory) ⊎ IsUnread found ⊎ IsLinking found

  unlinked : (fault : LinkFault) (found : Found) → IsUnlinked sources fault → found ≡ Err (of_linking fault) → CameTo found
  unlinked fault found (readings, read, cause) is = inr (inr (readings, Err fault, read, cause, is))

  twice_told : (fault : ParseFault) → fault.kind ≡ DuplicateCommand → ◌≡◌ {A = Found} (Err (Parse fault)) (Err (of_linking (linking.DuplicateCommand fault.dir fault.file fault.line)))
  twice_told fault kind = ap (λ (k : ParseKind). Err (Parse (record { dir = fault.dir; file = fault.file; line = fault.line; kind = k }))) kind

  came : (found : Found) → ComeTo sources found → CameTo found
  came (Ok rules) (readings, read, linked) = inr (inr (readings, Ok rules, read, linked, refl))
  came (Err (Parse fault)) (inl read) = inr (inl (folders.Parse fault, read, refl))
  came (Err (Parse fault)) (inr (kind, is)) = unlinked (linking.DuplicateCommand fault.dir fault.file fault.line) (Err (Parse fault)) is (twice_told fault kind)
  came (Err (CircularDirs dirs)) read = inr (inl (folders.Circular dirs, read, refl))
  came (Err (CircularCommands names)) is = unlinked (linking.CircularCommands names) (Err (CircularCommands names)) is refl
  came (Err (NoSuchGroup group)) is = unlinked (linking.NoSuchGroup group) (Err (NoSuchGroup group)) is refl
  came (Err (TooMany what number)) is = unlinked (linking.TooMany what number) (Err (TooMany what number)) is refl
  came (Err Memory) is = inl refl

  -- ---- two of these

  unread_alike : (one other : FoldersFault) → AreFoldersAlike (Err one) (Err other) → AreAlike (Err (of_folders one)) (Err (of_folders other))
  unread_alike (folders.Parse fault) (folders.Parse more) same = ap (λ (f : ParseFault). Parse f) same
  unread_alike (folders.Parse fault) (folders.Circular dirs) never = absurd never
  unread_alike (folders.Parse fault) folders.Memory is = tt
  unread_alike (folders.Circular dirs) (folders.Circular others) same = ap (λ (d : List Names). CircularDirs d) same
  unread_alike (folders.Circular dirs) (folders.Parse fault) never = absurd never
  unread_alike (folders.Circular dirs) folders.Memory is = tt
  unread_alike folders.Memory other is = tt

  read_or_memory : (readings : List (Names × Reading)) (fault : FoldersFault) → AreFoldersAlike (Ok readings) (Err fault) → of_folders fault ≡ Memory
  read_or_memory readings (folders.Parse fault) never = absurd never
  read_or_memory readings (folders.Circular dirs) never = absurd never
  read_or_memory readings folders.Memory is = refl

  linked_alike : (one other : Found) → IsLinking one → IsLinking other → AreAlike one other
  linked_alike one other (readings, link, read, links, is) (more, other_link, also_read, also_links, also) =
      let same : readings ≡ more = outcomes_alike sources (Ok readings) (Ok more) read also_read in
      subst (λ (f : Found). AreAlike f other) (sym is) (subst (AreAlike (of_link link)) (sym also)
      (links_alike more link other_link (subst (λ (r : List (Names × Reading)). LinkTo r link) same links) also_links))

  mixed_first : (one other : Found) → IsUnread one → IsLinking other → AreAlike one other
  mixed_first one other (fault, unread, is) (readings, link, read, links, also) =
      let memory = read_or_memory readings fault (outcomes_alike sources (Ok readings) (Err fault) read unread) in
      subst (λ (f : Found). AreAlike f other) (sym (is ∙ ap (λ (f : ProjectFault). Err f) memory)) tt

  mixed_second : (one other : Found) → IsLinking one → IsUnread other → AreAlike one other
  mixed_second one other (readings, link, read, links, is) (fault, unread, also) =
      let memory = read_or_memory readings fault (outcomes_alike sources (Ok readings) (Err fault) read unread) in
      subst (AreAlike one) (sym (also ∙ ap (λ (f : ProjectFault). Err f) memory)) (memory_last one)

  both_unread : (one other : Found) → IsUnread one → IsUnread other → AreAlike one other
  both_unread one other (fault, unread, is) (more, unread_too, also) =
      subst (λ (f : Found). AreAlike f other) (sym is) (subst (AreAlike (Err (of_folders fault))) (sym also)
      (unread_alike fault more (outcomes_alike sources (Err fault) (Err more) unread unread_too)))

  by_case : (one other : Found) → CameTo one → CameTo other → AreAlike one other
  by_case one other (inl memory) also = subst (λ (f : Found). AreAlike f other) (sym memory) tt
  by_case one other is (inl memory) = subst (AreAlike one) (sym memory) (memory_last one)
  by_case one other (inr (inl is)) (inr (inl also)) = both_unread one other is also
  by_case one other (inr (inl is)) (inr (inr also)) = mixed_first one other is also
  by_case one other (inr (inr is)) (inr (inl also)) = mixed_second one other is also
  by_case one other (inr (inr is)) (inr (inr also)) = linked_alike one other is also

pub projects_alike : (sources : Tree) (one other : Found) → ComeTo sources one → ComeTo sources other → AreAlike one other
projects_alike sources one other is also = by_case sources one other (came sources one is) (came sources other also)
