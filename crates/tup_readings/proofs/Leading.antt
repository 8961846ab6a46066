-- That what is met first is one thing: the readings themselves lead from one folder under way to the next, and none of these has a
-- reading, over whichever readings of other folders.
use Rattle.std.proofs.Common.{◌≡◌, inl, inr, Bool, true, false, cond, ◌||◌, List, [], ◌∷◌, ◌++◌, Option, Some, None, Ok, Err, IsTrue, IsSome, is_some, refl, sym, ap, ◌∙◌, subst, append_assoc}
use Rattle.std.specs.FinMap as finite
use Rattle.std.specs.List.{IsDistinct}
use Rattle.std.specs.Ordering.{ordering_reverse}
use Rattle.std.specs.declared.cmp.Ordering.{Ordering}
use Rattle.std.specs.declared.cmp.Ordering.TheVariants.{Less, Equal, Greater}
use Rattle.std.proofs.lemmas.Bool.{or_cases, or_left, or_right}
use Rattle.std.proofs.lemmas.List.Folds.{list_any-append}
use Rattle.tup_path.specs.Name.{Names}
use Rattle.tup_path.specs.Order.{by_names, by_names-total, by_names-antisymmetric, same_path}
use Rattle.tup_path.specs.Tree.{Tree}
use Rattle.tup_path.proofs.Same.{same_path-decides}
use Rattle.tup_rule.specs.Rule.{among}
use Rattle.tup_rule.specs.declared.question.Reading.{Reading}
use Rattle.tup_vars.specs.Table.{Entries}
use Rattle.tup_query.specs.declared.fault.ParseFault.{ParseFault}
use Rattle.tup_tupfile.specs.Reading.{reading}
use Rattle.tup_readings.specs.Sources.{has_tupfile}
use Rattle.tup_readings.specs.Answers.{Readings, awaited}
use Rattle.tup_readings.specs.Readings.{IsReadingOver, IsFaultOver, WaitsFor, AreReadings, AreSomeReadings, AreAllReadings, IsLine, IsTurn, IsFirstFault, IsFirstCircle}
use Rattle.tup_readings.proofs.Alike.{runs_alike, run_tells, halts_alike}
use Rattle.tup_readings.proofs.Lines.{among_push, among_last, not_behind, one_back}
use Rattle.tup_readings.proofs.More.{get_more}
use Rattle.tup_readings.proofs.One.{told_alike, reading_in}
use Rattle.tup_readings.proofs.Waits.{awaited_elsewhere}

nothing : {A : Type 0} → true ≡ false → A
nothing wrong = cc

module _ (sources : Tree) (settings : Entries) where
  -- a folder that has no reading, over whichever readings
  abbrev Unreadable : Names → Type 0
  Unreadable dir = (readings : Readings) → AreSomeReadings sources settings readings → finite.get readings dir ≡ None

  unless_read : (dir : Names) (readings : Readings) → ((x : Reading) → finite.get readings dir ≡ Some x → ⊥) → finite.get readings dir ≡ None
  unless_read dir readings wrong = by (finite.get readings dir) refl
    where
      by : (x : Option Reading) → finite.get readings dir ≡ x → finite.get readings dir ≡ None
      by None e = e
      by (Some x) e = absurd (wrong x e)

  -- one that ends with a fault
  fault_unreadable : (readings : Readings) (dir : Names) (fault : ParseFault) → AreSomeReadings sources settings readings → IsFaultOver sources settings readings dir fault → Unreadable dir
  fault_unreadable readings dir fault some is others also = unless_read dir others (λ x e.
      let there = reading_in sources settings others also dir x e in
      let both = runs_alike [] is.log there.over.log (reading dir) (Err fault) (Ok x.drafts)
      (told_alike sources settings readings there.before some (there.order, there.are) dir is.log there.over.log is.answered there.over.answered) is.ran there.over.ran in
      let ends = both.1 in
      cc)

  -- a folder that waits over some readings for one that isn't read over others has no reading over these
  waits_unread : (readings before : Readings) (dir next : Names) (x : Reading) → AreSomeReadings sources settings readings → AreSomeReadings sources settings before → WaitsFor sources settings readings dir next
      → finite.get before next ≡ None → IsReadingOver sources settings before dir x → ⊥
  waits_unread readings before dir next x some also waits none over =
      let told = run_tells [] over.log waits.log (reading dir) (Ok x.drafts) waits.question (told_alike sources settings before readings also some dir over.log waits.log over.answered waits.answered) over.ran waits.halts in
      let ready : awaited sources before dir waits.question ≡ None = (over.answered waits.question told.0 told.1).0 in
      let wait : awaited sources before dir waits.question ≡ Some next = awaited_elsewhere sources readings before dir next waits.question waits.waits none in
      let e : Some next ≡ None = sym wait ∙ ready in
      cc

  waits_unreadable : (readings : Readings) (dir next : Names) → AreSomeReadings sources settings readings → WaitsFor sources settings readings dir next → Unreadable next → Unreadable dir
  waits_unreadable readings dir next some waits none others also = unless_read dir others (λ x e.
      let there = reading_in sources settings others also dir x e in
      waits_unread readings there.before dir next x some (there.order, there.are) waits (none there.before (there.order, there.are)) there.over)

  -- all in a line whose last one has none
  line_unreadable : (readings : Readings) (front : List Names) (last : Names) → AreSomeReadings sources settings readings → IsLine sources settings readings (front ++ last ∷ []) → Unreadable last
      → (dir : Names) → among dir (front ++ last ∷ []) ≡ true → Unreadable dir
  line_unreadable readings [] last some line none dir there =
      let is : dir ≡ last = (same_path-decides dir last).0 (alone (same_path dir last) there) in
      subst Unreadable (sym is) none
    where
      alone : (a : Bool) → (a || false) ≡ true → a ≡ true
      alone true e = refl
      alone false e = e
  line_unreadable readings (first ∷ []) last some line none dir there = elim (or_cases (same_path dir first) (among dir (last ∷ [])) there) [
    | inl is ↦ subst Unreadable (sym ((same_path-decides dir first).0 is)) (waits_unreadable readings first last some line.0 none)
    | inr more ↦ line_unreadable readings [] last some line.1 none dir more
  ]
  line_unreadable readings (first ∷ next ∷ front) last some line none dir there = elim (or_cases (same_path dir first) (among dir ((next ∷ front) ++ last ∷ [])) there) [
    | inl is ↦ subst Unreadable (sym ((same_path-decides dir first).0 is))
        (waits_unreadable readings first next some line.0 (line_unreadable readings (next ∷ front) last some line.1 none next (or_left (same_path next next) (among next (front ++ last ∷ [])) ((same_path-decides next next).1 refl))))
    | inr more ↦ line_unreadable readings (next ∷ front) last some line.1 none dir more
  ]

  -- ---- folders that lead on

  -- each of some folders waits for one of them
  abbrev LeadOn : Readings → List Names → Type 0
  LeadOn readings dirs = (dir : Names) → among dir dirs ≡ true → (next : Names) × (among next dirs ≡ true) × WaitsFor sources settings readings dir next

  leading_unread : (readings : Readings) (dirs : List Names) → AreSomeReadings sources settings readings → LeadOn readings dirs → (order : List Names) (others : Readings) → AreReadings sources settings order others
      → (dir : Names) → among dir dirs ≡ true → finite.get others dir ≡ None
  leading_unread readings dirs some leads [] others is dir there = ap (λ r. finite.get r dir) is ∙ finite.get-empty by_names dir
  leading_unread readings dirs some leads (new ∷ earlier) others (before, left, are, has, is_new, over, is) dir there =
      ap (λ r. finite.get r dir) is ∙ get_more before new left dir ∙ by (leading_unread readings dirs some leads earlier before are) (same_path dir new) refl
    where
      by : ((other : Names) → among other dirs ≡ true → finite.get before other ≡ None) → (b : Bool) → same_path dir new ≡ b → cond b (Some left) (finite.get before dir) ≡ None
      by none false at = none dir there
      by none true at =
          let on = leads dir there in
          absurd (waits_unread readings before dir on.0 left some (earlier, are) on.2 (none on.0 on.1) (subst (λ d. IsReadingOver sources settings before d left) (sym ((same_path-decides dir new).0 at)) over))

  leading_unreadable : (readings : Readings) (dirs : List Names) → AreSomeReadings sources settings readings → LeadOn readings dirs → (dir : Names) → among dir dirs ≡ true → Unreadable dir
  leading_unreadable readings dirs some leads dir there others also = leading_unread readings dirs some leads also.0 others also.1 dir there

  -- a line whose last one waits for one of it leads on
  line_leads : (readings : Readings) (front : List Names) (last : Names) (all : List Names) → ((dir : Names) → among dir (front ++ last ∷ []) ≡ true → among dir all ≡ true)
      → IsLine sources settings readings (front ++ last ∷ []) → (first : Names) → among first all ≡ true → WaitsFor sources settings readings last first
      → (dir : Names) → among dir (front ++ last ∷ []) ≡ true → (next : Names) × (among next all ≡ true) × WaitsFor sources settings readings dir next
  line_leads readings [] last all within line first there closes dir at =
      (first, there, subst (λ d. WaitsFor sources settings readings d first) (sym ((same_path-decides dir last).0 (alone (same_path dir last) at))) closes)
    where
      alone : (a : Bool) → (a || false) ≡ true → a ≡ true
      alone true e = refl
      alone false e = e
  line_leads readings (one ∷ []) last all within line first there closes dir at = elim (or_cases (same_path dir one) (among dir (last ∷ [])) at) [
    | inl is ↦ (last, within last (or_right (same_path last one) (among last (last ∷ [])) (among_last last [])), subst (λ d. WaitsFor sources settings readings d last) (sym ((same_path-decides dir one).0 is)) line.0)
    | inr more ↦ line_leads readings [] last all (λ d e. within d (or_right (same_path d one) (among d (last ∷ [])) e)) line.1 first there closes dir more
  ]
  line_leads readings (one ∷ two ∷ front) last all within line first there closes dir at = elim (or_cases (same_path dir one) (among dir ((two ∷ front) ++ last ∷ [])) at) [
    | inl is ↦ (
      two,
      within two (or_right (same_path two one) (among two ((two ∷ front) ++ last ∷ [])) (or_left (same_path two two) (among two (front ++ last ∷ [])) ((same_path-decides two two).1 refl))),
      subst (λ d. WaitsFor sources settings readings d two) (sym ((same_path-decides dir one).0 is)) line.0,
    )
    | inr more ↦ line_leads readings (two ∷ front) last all (λ d e. within d (or_right (same_path d one) (among d ((two ∷ front) ++ last ∷ [])) e)) line.1 first there closes dir more
  ]

  -- ---- one step

  -- a folder waits for one that has no reading, over whichever readings for the same
  same_next : (one other : Readings) (dir next after : Names) → AreSomeReadings sources settings one → AreSomeReadings sources settings other → WaitsFor sources settings one dir next → Unreadable next
      → WaitsFor sources settings other dir after → Unreadable after → next ≡ after
  same_next one other dir next after p q here none there also = elim (halts_alike [] here.log there.log (reading dir) here.question there.question
      (told_alike sources settings one other p q dir here.log there.log here.answered there.answered) here.halts there.halts) [
        | inl same ↦
            let mine : awaited sources other dir here.question ≡ Some next = awaited_elsewhere sources one other dir next here.question here.waits (none other q) in
            let e : Some next ≡ Some after = sym mine ∙ ap (awaited sources other dir) same ∙ there.waits in
            cc
        | inr (inl told) ↦
            let ready : awaited sources other dir here.question ≡ None = (there.answered here.question told.0 told.1).0 in
            let e : Some next ≡ None = sym (awaited_elsewhere sources one other dir next here.question here.waits (none other q)) ∙ ready in
            cc
        | inr (inr told) ↦
            let ready : awaited sources one dir there.question ≡ None = (here.answered there.question told.0 told.1).0 in
            let e : Some after ≡ None = sym (awaited_elsewhere sources other one dir after there.question there.waits (also one p)) ∙ ready in
            cc
      ]

  -- it doesn't end with a fault besides
  not_both : (one other : Readings) (dir next : Names) (fault : ParseFault) → AreSomeReadings sources settings one → AreSomeReadings sources settings other → WaitsFor sources settings one dir next → Unreadable next
      → IsFaultOver sources settings other dir fault → ⊥
  not_both one other dir next fault p q here none there =
      let told = run_tells [] there.log here.log (reading dir) (Err fault) here.question (told_alike sources settings other one q p dir there.log here.log there.answered here.answered) there.ran here.halts in
      let ready : awaited sources other dir here.question ≡ None = (there.answered here.question told.0 told.1).0 in
      let e : Some next ≡ None = sym (awaited_elsewhere sources one other dir next here.question here.waits (none other q)) ∙ ready in
      cc

  same_fault : (one other : Readings) (dir : Names) (fault also : ParseFault) → AreSomeReadings sources settings one → AreSomeReadings sources settings other → IsFaultOver sources settings one dir fault
      → IsFaultOver sources settings other dir also → fault ≡ also
  same_fault one other dir fault also p q here there =
      let both = runs_alike [] here.log there.log (reading dir) (Err fault) (Err also) (told_alike sources settings one other p q dir here.log there.log here.answered there.answered) here.ran there.ran in
      let ends = both.1 in
      cc

  -- ---- two lines from the same folder

  -- the first of a line with this last one
  abbrev first_of : List Names → Names → Names
  first_of [] last = last
  first_of (first ∷ front) last = first

  line_step : (readings : Readings) (dir : Names) (front : List Names) (last : Names) → IsLine sources settings readings (dir ∷ (front ++ last ∷ []))
      → WaitsFor sources settings readings dir (first_of front last) × IsLine sources settings readings (front ++ last ∷ [])
  line_step readings dir [] last line = line
  line_step readings dir (first ∷ front) last line = line

  first_there : (front : List Names) (last : Names) → among (first_of front last) (front ++ last ∷ []) ≡ true
  first_there [] last = among_last last []
  first_there (first ∷ front) last = or_left (same_path first first) (among first (front ++ last ∷ [])) ((same_path-decides first first).1 refl)

  -- none of these has a reading
  abbrev AreUnreadable : List Names → Type 0
  AreUnreadable dirs = (dir : Names) → among dir dirs ≡ true → Unreadable dir

  rest_unreadable : (dir : Names) (dirs : List Names) → AreUnreadable (dir ∷ dirs) → AreUnreadable dirs
  rest_unreadable dir dirs all other there = all other (or_right (same_path other dir) (among other dirs) there)

  faults_met : (one other : Readings) → AreSomeReadings sources settings one → AreSomeReadings sources settings other → (front back : List Names) (last end : Names) (fault also : ParseFault)
      → first_of front last ≡ first_of back end → IsLine sources settings one (front ++ last ∷ []) → IsLine sources settings other (back ++ end ∷ []) → AreUnreadable (front ++ last ∷ []) → AreUnreadable (back ++ end ∷ [])
      → IsFaultOver sources settings one last fault → IsFaultOver sources settings other end also → fault ≡ also
  faults_met one other p q [] [] last end fault also same line line' none none' is is' = same_fault one other last fault also p q is (subst (λ d. IsFaultOver sources settings other d also) (sym same) is')
  faults_met one other p q [] (y ∷ back) last end fault also same line line' none none' is is' =
      let step = line_step other y back end line' in
      absurd (not_both other one y (first_of back end) fault q p step.0 (rest_unreadable y (back ++ end ∷ []) none' (first_of back end) (first_there back end)) (subst (λ d. IsFaultOver sources settings one d fault) same is))
  faults_met one other p q (x ∷ front) [] last end fault also same line line' none none' is is' =
      let step = line_step one x front last line in
      absurd (not_both one other x (first_of front last) also p q step.0 (rest_unreadable x (front ++ last ∷ []) none (first_of front last) (first_there front last)) (subst (λ d. IsFaultOver sources settings other d also) (sym same) is'))
  faults_met one other p q (x ∷ front) (y ∷ back) last end fault also same line line' none none' is is' =
      let here = line_step one x front last line in
      let there = line_step other y back end line' in
      let more = rest_unreadable x (front ++ last ∷ []) none in
      let more' = rest_unreadable y (back ++ end ∷ []) none' in
      let next = same_next one other x (first_of front last) (first_of back end) p q here.0 (more (first_of front last) (first_there front last))
      (subst (λ d. WaitsFor sources settings other d (first_of back end)) (sym same) there.0) (more' (first_of back end) (first_there back end)) in
      faults_met one other p q front back last end fault also next here.1 there.1 more more' is is'

  -- a line that ends with a fault doesn't begin among folders that lead on
  fault_leads_not : (one other : Readings) (dirs : List Names) → AreSomeReadings sources settings one → AreSomeReadings sources settings other → LeadOn other dirs → (front : List Names) (last : Names) (fault : ParseFault)
      → among (first_of front last) dirs ≡ true → IsLine sources settings one (front ++ last ∷ []) → AreUnreadable (front ++ last ∷ []) → IsFaultOver sources settings one last fault → ⊥
  fault_leads_not one other dirs p q leads [] last fault there line none is =
      let on = leads last there in
      not_both other one last on.0 fault q p on.2 (leading_unreadable other dirs q leads on.0 on.1) is
  fault_leads_not one other dirs p q leads (x ∷ front) last fault there line none is =
      let step = line_step one x front last line in
      let on = leads x there in
      let more = rest_unreadable x (front ++ last ∷ []) none in
      let next = same_next one other x (first_of front last) on.0 p q step.0 (more (first_of front last) (first_there front last)) on.2 (leading_unreadable other dirs q leads on.0 on.1) in
      fault_leads_not one other dirs p q leads front last fault (ap (λ d. among d dirs) next ∙ on.1) step.1 more is

  -- lines that close close alike
  behind : (before : List Names) (x dir : Names) (rest : List Names) → among dir rest ≡ true → among dir (before ++ (x ∷ rest)) ≡ true
  behind before x dir rest there = list_any-append (same_path dir) before (x ∷ rest) ∙ or_right (among dir before) (among dir (x ∷ rest)) (or_right (same_path dir x) (among dir rest) there)

  moved : (before : List Names) (x : Names) (rest : List Names) → before ++ (x ∷ rest) ≡ (before ++ x ∷ []) ++ rest
  moved before x rest = sym (append_assoc before (x ∷ []) rest)

  circles_met : (one other : Readings) (all alls : List Names) (first second : Names) → AreSomeReadings sources settings one → AreSomeReadings sources settings other → AreUnreadable all → AreUnreadable alls
      → IsDistinct same_path all → IsDistinct same_path alls → among first all ≡ true → among second alls ≡ true → (before front back : List Names) (last end : Names)
      → all ≡ before ++ (front ++ last ∷ []) → alls ≡ before ++ (back ++ end ∷ []) → first_of front last ≡ first_of back end
      → IsLine sources settings one (front ++ last ∷ []) → IsLine sources settings other (back ++ end ∷ []) → WaitsFor sources settings one last first → WaitsFor sources settings other end second
      → (all ≡ alls) × (first ≡ second)
  circles_met one other all alls first second p q none none' once once' there there' before [] [] last end whole whole' same line line' closes closes' = (
    whole ∙ ap (λ d. before ++ d ∷ []) same ∙ sym whole',
    same_next one other last first second p q closes (none first there) (subst (λ d. WaitsFor sources settings other d second) (sym same) closes') (none' second there'),
  )
  circles_met one other all alls first second p q none none' once once' there there' before [] (y ∷ back) last end whole whole' same line line' closes closes' =
      let step = line_step other y back end line' in
      let after = first_of back end in
      let at = first_there back end in
      let in_all : among after alls ≡ true = ap (among after) whole' ∙ behind before y after (back ++ end ∷ []) at in
      let next = same_next one other y first after p q (subst (λ d. WaitsFor sources settings one d first) same closes) (none first there) step.0 (none' after in_all) in
      let twice : among after (before ++ y ∷ []) ≡ true = ap (λ d. among d (before ++ y ∷ [])) (sym next) ∙ ap (λ d. among first (before ++ d ∷ [])) (sym same) ∙ sym (ap (among first) whole) ∙ there in
      absurd (not_behind (before ++ y ∷ []) (back ++ end ∷ []) after (subst (IsDistinct same_path) (whole' ∙ moved before y (back ++ end ∷ [])) once') twice at)
  circles_met one other all alls first second p q none none' once once' there there' before (x ∷ front) [] last end whole whole' same line line' closes closes' =
      let step = line_step one x front last line in
      let after = first_of front last in
      let at = first_there front last in
      let in_all : among after all ≡ true = ap (among after) whole ∙ behind before x after (front ++ last ∷ []) at in
      let next = same_next one other x after second p q step.0 (none after in_all) (subst (λ d. WaitsFor sources settings other d second) (sym same) closes') (none' second there') in
      let twice : among after (before ++ x ∷ []) ≡ true = ap (λ d. among d (before ++ x ∷ [])) next ∙ ap (λ d. among second (before ++ d ∷ [])) same ∙ sym (ap (among second) whole') ∙ there' in
      absurd (not_behind (before ++ x ∷ []) (front ++ last ∷ []) after (subst (IsDistinct same_path) (whole ∙ moved before x (front ++ last ∷ [])) once) twice at)
  circles_met one other all alls first second p q none none' once once' there there' before (x ∷ front) (y ∷ back) last end whole whole' same line line' closes closes' =
      let here = line_step one x front last line in
      let also = line_step other y back end line' in
      let in_all : among (first_of front last) all ≡ true = ap (among (first_of front last)) whole ∙ behind before x (first_of front last) (front ++ last ∷ []) (first_there front last) in
      let in_alls : among (first_of back end) alls ≡ true = ap (among (first_of back end)) whole' ∙ behind before y (first_of back end) (back ++ end ∷ []) (first_there back end) in
      let next = same_next one other x (first_of front last) (first_of back end) p q here.0 (none (first_of front last) in_all) (subst (λ d. WaitsFor sources settings other d (first_of back end)) (sym same) also.0) (none' (first_of back end) in_alls) in
      circles_met one other all alls first second p q none none' once once' there there' (before ++ x ∷ []) front back last end
      (whole ∙ moved before x (front ++ last ∷ [])) (whole' ∙ moved before y (back ++ end ∷ []) ∙ ap (λ d. (before ++ d ∷ []) ++ (back ++ end ∷ [])) (sym same)) next here.1 also.1 closes closes'

  -- ---- the first one

  turn_of : (readings : Readings) (front : List Names) (last : Names) → IsTurn sources settings readings (front ++ last ∷ []) → (dir : Names) → IsTrue (has_tupfile sources dir)
      → by_names dir (first_of front last) ≡ Less → IsSome (finite.get readings dir)
  turn_of readings [] last turn = turn
  turn_of readings (first ∷ front) last turn = turn

  unread : (readings : Readings) (dir : Names) → finite.get readings dir ≡ None → IsSome (finite.get readings dir) → ⊥
  unread readings dir none some = nothing (sym some ∙ ap (λ (r : Option Reading). is_some r) none)

  -- folders under way, the last one aside, none of which has a reading
  pub record IsLed (readings : Readings) (front : List Names) (last : Names) : Type 0 where
    pub some : AreSomeReadings sources settings readings
    pub turn : IsTurn sources settings readings (front ++ last ∷ [])
    pub line : IsLine sources settings readings (front ++ last ∷ [])
    pub has : IsTrue (has_tupfile sources (first_of front last))
    pub none : AreUnreadable (front ++ last ∷ [])

  same_first : (one other : Readings) (front back : List Names) (last end : Names) → IsLed one front last → IsLed other back end → first_of front last ≡ first_of back end
  same_first one other front back last end p q = by (by_names first second) refl
    where
      first : Names
      first = first_of front last

      second : Names
      second = first_of back end

      by : (o : Ordering) → by_names first second ≡ o → first_of front last ≡ first_of back end
      by Equal e = by_names-antisymmetric first second e
      by Less e = absurd (unread other first (p.none first (first_there front last) other q.some) (turn_of other back end q.turn first p.has e))
      by Greater e = absurd (unread one second (q.none second (first_there back end) one p.some) (turn_of one front last p.turn second q.has (by_names-total.antisymm second first ∙ ap ordering_reverse e)))

  -- not all folders are read then
  pub not_all : (readings all : Readings) (front : List Names) (last : Names) → IsLed readings front last → AreAllReadings sources settings all → ⊥
  not_all readings all front last met is = unread all (first_of front last) (met.none (first_of front last) (first_there front last) all is.some) (is.all (first_of front last) met.has)

  first_has : (readings : Readings) (front : List Names) (last : Names) → IsLine sources settings readings (front ++ last ∷ []) → IsTrue (has_tupfile sources last) → IsTrue (has_tupfile sources (first_of front last))
  first_has readings [] last line has = has
  first_has readings (first ∷ front) last line has = (line_step readings first front last line).0.has

  -- a fault that is met
  pub fault_met : (fault : ParseFault) (is : IsFirstFault sources settings fault) → IsLed is.readings is.front is.dir
  fault_met fault is = record {
    some = is.under_way.some;
    turn = is.under_way.turn;
    line = is.under_way.line;
    has = first_has is.readings is.front is.dir is.under_way.line is.ends.has;
    none = line_unreadable is.readings is.front is.dir is.under_way.some is.under_way.line (fault_unreadable is.readings is.dir fault is.under_way.some is.ends);
  }

  pub one_fault : (fault also : ParseFault) → IsFirstFault sources settings fault → IsFirstFault sources settings also → fault ≡ also
  one_fault fault also p q =
      let here = fault_met fault p in
      let there = fault_met also q in
      faults_met p.readings q.readings here.some there.some p.front q.front p.dir q.dir fault also (same_first p.readings q.readings p.front q.front p.dir q.dir here there) here.line there.line here.none there.none p.ends q.ends

  -- a circle that is met
  record Closing (dirs : List Names) (is : IsFirstCircle sources settings dirs) : Type 0 where
    met : IsLed is.readings (is.front ++ (is.first ∷ is.inner)) is.last
    leads : LeadOn is.readings ((is.front ++ (is.first ∷ is.inner)) ++ is.last ∷ [])
    whole : is.front ++ dirs ≡ (is.front ++ (is.first ∷ is.inner)) ++ is.last ∷ []
    there : among is.first ((is.front ++ (is.first ∷ is.inner)) ++ is.last ∷ []) ≡ true

  closing : (dirs : List Names) (is : IsFirstCircle sources settings dirs) → Closing dirs is
  closing dirs is = record {
    met = record {
      some = is.under_way.some;
      turn = subst (IsTurn sources settings is.readings) whole is.under_way.turn;
      line = line;
      has = first_has is.readings front is.last line is.closes.has;
      none = leading_unreadable is.readings (front ++ is.last ∷ []) is.under_way.some leads;
    };
    leads = leads;
    whole = whole;
    there = there;
  }
    where
      front : List Names
      front = is.front ++ (is.first ∷ is.inner)

      whole : is.front ++ dirs ≡ (is.front ++ (is.first ∷ is.inner)) ++ is.last ∷ []
      whole = ap (λ (d : List Names). is.front ++ d) is.are ∙ sym (append_assoc is.front (is.first ∷ is.inner) (is.last ∷ []))

      line : IsLine sources settings is.readings ((is.front ++ (is.first ∷ is.inner)) ++ is.last ∷ [])
      line = subst (IsLine sources settings is.readings) whole is.under_way.line

      there : among is.first ((is.front ++ (is.first ∷ is.inner)) ++ is.last ∷ []) ≡ true
      there = among_push is.first is.last (is.front ++ (is.first ∷ is.inner))
          ∙ or_left (among is.first (is.front ++ (is.first ∷ is.inner))) (same_path is.first is.last)
          (list_any-append (same_path is.first) is.front (is.first ∷ is.inner)
          ∙ or_right (among is.first is.front) (among is.first (is.first ∷ is.inner)) (or_left (same_path is.first is.first) (among is.first is.inner) ((same_path-decides is.first is.first).1 refl)))

      leads : LeadOn is.readings ((is.front ++ (is.first ∷ is.inner)) ++ is.last ∷ [])
      leads = line_leads is.readings (is.front ++ (is.first ∷ is.inner)) is.last ((is.front ++ (is.first ∷ is.inner)) ++ is.last ∷ []) (λ d e. e) line is.first there is.closes

  pub circle_met : (dirs : List Names) (is : IsFirstCircle sources settings dirs) → IsLed is.readings (is.front ++ (is.first ∷ is.inner)) is.last
  circle_met dirs is = (closing dirs is).met

  -- no fault is met where a circle is
  pub no_fault_beside : (fault : ParseFault) (dirs : List Names) → IsFirstFault sources settings fault → IsFirstCircle sources settings dirs → ⊥
  no_fault_beside fault dirs p q =
      let here = fault_met fault p in
      let there = closing dirs q in
      let front = q.front ++ (q.first ∷ q.inner) in
      let first = same_first p.readings q.readings p.front front p.dir q.last here there.met in
      fault_leads_not p.readings q.readings (front ++ q.last ∷ []) here.some there.met.some there.leads p.front p.dir fault
      (ap (λ d. among d (front ++ q.last ∷ [])) first ∙ first_there front q.last) here.line here.none p.ends

  pub one_circle : (dirs others : List Names) → IsFirstCircle sources settings dirs → IsFirstCircle sources settings others → dirs ≡ others
  one_circle dirs others p q =
      let here = closing dirs p in
      let there = closing others q in
      let front = p.front ++ (p.first ∷ p.inner) in
      let back = q.front ++ (q.first ∷ q.inner) in
      let once = subst (IsDistinct same_path) here.whole p.once in
      let once' = subst (IsDistinct same_path) there.whole q.once in
      let met = circles_met p.readings q.readings (front ++ p.last ∷ []) (back ++ q.last ∷ []) p.first q.first here.met.some there.met.some here.met.none there.met.none once once' here.there there.there
      [] front back p.last q.last refl refl (same_first p.readings q.readings front back p.last q.last here.met there.met) here.met.line there.met.line p.closes q.closes in
      let all : p.front ++ dirs ≡ q.front ++ others = here.whole ∙ met.0 ∙ sym there.whole in
      let mine : p.front ++ (p.first ∷ (p.inner ++ p.last ∷ [])) ≡ q.front ++ (p.first ∷ (q.inner ++ q.last ∷ [])) =
      ap (λ (d : List Names). p.front ++ d) (sym p.are) ∙ all ∙ ap (λ (d : List Names). q.front ++ d) (q.are ∙ ap (λ f. f ∷ (q.inner ++ q.last ∷ [])) (sym met.1)) in
      let rest = one_back p.front q.front p.first (p.inner ++ p.last ∷ []) (q.inner ++ q.last ∷ []) (subst (λ (d : List Names). IsDistinct same_path (p.front ++ d)) p.are p.once) mine in
      p.are ∙ ap (λ (r : List Names). p.first ∷ r) rest ∙ ap (λ f. f ∷ (q.inner ++ q.last ∷ [])) met.1 ∙ sym q.are
