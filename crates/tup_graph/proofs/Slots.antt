-- An edit and a record that is put: at two keys they may come in either order, at one key the edit alone stands.
use Rattle.std.proofs.Common.{◌≡◌, ◌≢◌, ℕ, ◌∷◌, refl, sym, ap, ◌∙◌, arith}
use Rattle.std.specs.Ordering.{nat_cmp}
use Rattle.std.specs.Cmp.{nat_cmp_total}
use Rattle.std.specs.FinMap.{FinMap, nat_cmp-IsAntisymmetric}
use Rattle.tup_path.specs.Name.{Names}
use Rattle.tup_path.specs.Order.{by_names, by_names-total, by_names-antisymmetric}
use Rattle.tup_stamp.specs.declared.Stamp.{Stamp}
use Rattle.tup_rule.specs.declared.question.Reading.{Reading as ReadingValue}
use Rattle.tup_field.specs.Parts.{number}
use Rattle.tup_field.specs.Values.{path}
use Rattle.tup_record.specs.declared.run.RunRecord.{RunRecord}
use Rattle.tup_record.specs.declared.record.Record.{Record}
use Rattle.tup_record.specs.declared.record.Record.TheVariants.{Seen, Reading, Rule, Run, Owned, Create, Modify}
use Rattle.tup_record.specs.Spelling.{key_of, KeyFits}
use Rattle.tup_graph.specs.declared.edit.Edit.{Edit}
use Rattle.tup_graph.specs.declared.edit.Edit.TheVariants.{Put, Remove}
use Rattle.tup_graph.specs.declared.owned.Owned.{Owned as OwnedValue}
use Rattle.tup_graph.specs.Graph.{GraphState}
use Rattle.tup_graph.specs.Opening.{put}
use Rattle.tup_graph.specs.Edits.{without, edited, IsBesideRules}
use Rattle.tup_graph.proofs.Maps.{insert-insert, insert-over, remove-insert, remove-over}
use Rattle.tup_graph.proofs.Marks.{one_mark, one_path, one_number}

-- the record that an edit is about
abbrev pub record_of : Edit → Record
record_of (Put r) = r
record_of (Remove r) = r

-- keys of one kind differ where their paths or numbers do
path_apart : (mark : ℕ) (p q : Names) → mark ∷ path.spelling p ≢ mark ∷ path.spelling q → q ≢ p
path_apart mark p q differ same = differ (ap (λ (t : Names). mark ∷ path.spelling t) (sym same))

number_apart : (mark n m : ℕ) → mark ∷ number.spelling n ≢ mark ∷ number.spelling m → m ≢ n
number_apart mark n m differ same = differ (ap (λ (t : ℕ). mark ∷ number.spelling t) (sym same))

module _ (g : GraphState) where
  abbrev seen_as : FinMap by_names Stamp → GraphState
  seen_as m = record g { seen = m }

  abbrev read_as : FinMap by_names ReadingValue → GraphState
  read_as m = record g { readings = m }

  abbrev run_as : FinMap nat_cmp RunRecord → GraphState
  run_as m = record g { runs = m }

  abbrev owned_as : FinMap by_names OwnedValue → GraphState
  owned_as m = record g { owned = m }

  abbrev created_as : FinMap by_names (Unit {0}) → GraphState
  created_as m = record g { created = m }

  abbrev flagged_as : FinMap nat_cmp (Unit {0}) → GraphState
  flagged_as m = record g { flags = m }

  put_away : (r s : Record) → IsBesideRules r → key_of r ≢ key_of s → put (put g s) r ≡ put (put g r) s
  put_away (Seen p a) (Seen q b) beside differ = ap seen_as (insert-insert by_names-total by_names-antisymmetric g.seen q p b a (path_apart 1 p q differ))
  put_away (Seen p a) s beside differ = refl
  put_away (Reading p a) (Reading q b) beside differ = ap read_as (insert-insert by_names-total by_names-antisymmetric g.readings q p b a (path_apart 2 p q differ))
  put_away (Reading p a) s beside differ = refl
  put_away (Rule n place a) s beside differ = absurd beside
  put_away (Run n a) (Run m b) beside differ = ap run_as (insert-insert nat_cmp_total nat_cmp-IsAntisymmetric g.runs m n b a (number_apart 4 n m differ))
  put_away (Run n a) s beside differ = refl
  put_away (Owned p maker state) (Owned q other status) beside differ =
      ap owned_as (insert-insert by_names-total by_names-antisymmetric g.owned q p (record { maker = other; state = status }) (record { maker = maker; state = state }) (path_apart 5 p q differ))
  put_away (Owned p maker state) s beside differ = refl
  put_away (Create p) (Create q) beside differ = ap created_as (insert-insert by_names-total by_names-antisymmetric g.created q p tt tt (path_apart 6 p q differ))
  put_away (Create p) s beside differ = refl
  put_away (Modify n) (Modify m) beside differ = ap flagged_as (insert-insert nat_cmp_total nat_cmp-IsAntisymmetric g.flags m n tt tt (number_apart 7 n m differ))
  put_away (Modify n) s beside differ = refl

  without_away : (r s : Record) → IsBesideRules r → key_of r ≢ key_of s → without (put g s) r ≡ put (without g r) s
  without_away (Seen p a) (Seen q b) beside differ = ap seen_as (remove-insert by_names-total by_names-antisymmetric g.seen q p b (path_apart 1 p q differ))
  without_away (Seen p a) s beside differ = refl
  without_away (Reading p a) (Reading q b) beside differ = ap read_as (remove-insert by_names-total by_names-antisymmetric g.readings q p b (path_apart 2 p q differ))
  without_away (Reading p a) s beside differ = refl
  without_away (Rule n place a) s beside differ = absurd beside
  without_away (Run n a) (Run m b) beside differ = ap run_as (remove-insert nat_cmp_total nat_cmp-IsAntisymmetric g.runs m n b (number_apart 4 n m differ))
  without_away (Run n a) s beside differ = refl
  without_away (Owned p maker state) (Owned q other status) beside differ =
      ap owned_as (remove-insert by_names-total by_names-antisymmetric g.owned q p (record { maker = other; state = status }) (path_apart 5 p q differ))
  without_away (Owned p maker state) s beside differ = refl
  without_away (Create p) (Create q) beside differ = ap created_as (remove-insert by_names-total by_names-antisymmetric g.created q p tt (path_apart 6 p q differ))
  without_away (Create p) s beside differ = refl
  without_away (Modify n) (Modify m) beside differ = ap flagged_as (remove-insert nat_cmp_total nat_cmp-IsAntisymmetric g.flags m n tt (number_apart 7 n m differ))
  without_away (Modify n) s beside differ = refl

  -- at another key an edit may come first
  pub away : (e : Edit) (s : Record) → IsBesideRules (record_of e) → key_of (record_of e) ≢ key_of s → edited (put g s) e ≡ put (edited g e) s
  away (Put r) s beside differ = put_away r s beside differ
  away (Remove r) s beside differ = without_away r s beside differ

  put_over : (r s : Record) → IsBesideRules r → KeyFits r → KeyFits s → key_of r ≡ key_of s → put (put g s) r ≡ put g r
  put_over (Seen p a) (Seen q b) beside fr fs same =
      ap (λ (t : Names). put (put g (Seen t b)) (Seen p a)) (sym (one_path 1 p q fr fs same)) ∙ ap seen_as (insert-over by_names-total by_names-antisymmetric g.seen p b a)
  put_over (Seen p a) s beside fr fs same = absurd (omega (arith, one_mark (Seen p a) s same))
  put_over (Reading p a) (Reading q b) beside fr fs same =
      ap (λ (t : Names). put (put g (Reading t b)) (Reading p a)) (sym (one_path 2 p q fr fs same)) ∙ ap read_as (insert-over by_names-total by_names-antisymmetric g.readings p b a)
  put_over (Reading p a) s beside fr fs same = absurd (omega (arith, one_mark (Reading p a) s same))
  put_over (Rule n place a) s beside fr fs same = absurd beside
  put_over (Run n a) (Run m b) beside fr fs same =
      ap (λ (t : ℕ). put (put g (Run t b)) (Run n a)) (sym (one_number 4 n m fr fs same)) ∙ ap run_as (insert-over nat_cmp_total nat_cmp-IsAntisymmetric g.runs n b a)
  put_over (Run n a) s beside fr fs same = absurd (omega (arith, one_mark (Run n a) s same))
  put_over (Owned p maker state) (Owned q other status) beside fr fs same =
      ap (λ (t : Names). put (put g (Owned t other status)) (Owned p maker state)) (sym (one_path 5 p q fr fs same))
      ∙ ap owned_as (insert-over by_names-total by_names-antisymmetric g.owned p (record { maker = other; state = status }) (record { maker = maker; state = state }))
  put_over (Owned p maker state) s beside fr fs same = absurd (omega (arith, one_mark (Owned p maker state) s same))
  put_over (Create p) (Create q) beside fr fs same =
      ap (λ (t : Names). put (put g (Create t)) (Create p)) (sym (one_path 6 p q fr fs same)) ∙ ap created_as (insert-over by_names-total by_names-antisymmetric g.created p tt tt)
  put_over (Create p) s beside fr fs same = absurd (omega (arith, one_mark (Create p) s same))
  put_over (Modify n) (Modify m) beside fr fs same =
      ap (λ (t : ℕ). put (put g (Modify t)) (Modify n)) (sym (one_number 7 n m fr fs same)) ∙ ap flagged_as (insert-over nat_cmp_total nat_cmp-IsAntisymmetric g.flags n tt tt)
  put_over (Modify n) s beside fr fs same = absurd (omega (arith, one_mark (Modify n) s same))

  without_over : (r s : Record) → IsBesideRules r → KeyFits r → KeyFits s → key_of r ≡ key_of s → without (put g s) r ≡ without g r
  without_over (Seen p a) (Seen q b) beside fr fs same =
      ap (λ (t : Names). without (put g (Seen t b)) (Seen p a)) (sym (one_path 1 p q fr fs same)) ∙ ap seen_as (remove-over by_names-total by_names-antisymmetric g.seen p b)
  without_over (Seen p a) s beside fr fs same = absurd (omega (arith, one_mark (Seen p a) s same))
  without_over (Reading p a) (Reading q b) beside fr fs same =
      ap (λ (t : Names). without (put g (Reading t b)) (Reading p a)) (sym (one_path 2 p q fr fs same)) ∙ ap read_as (remove-over by_names-total by_names-antisymmetric g.readings p b)
  without_over (Reading p a) s beside fr fs same = absurd (omega (arith, one_mark (Reading p a) s same))
  without_over (Rule n place a) s beside fr fs same = absurd beside
  without_over (Run n a) (Run m b) beside fr fs same =
      ap (λ (t : ℕ). without (put g (Run t b)) (Run n a)) (sym (one_number 4 n m fr fs same)) ∙ ap run_as (remove-over nat_cmp_total nat_cmp-IsAntisymmetric g.runs n b)
  without_over (Run n a) s beside fr fs same = absurd (omega (arith, one_mark (Run n a) s same))
  without_over (Owned p maker state) (Owned q other status) beside fr fs same =
      ap (λ (t : Names). without (put g (Owned t other status)) (Owned p maker state)) (sym (one_path 5 p q fr fs same))
      ∙ ap owned_as (remove-over by_names-total by_names-antisymmetric g.owned p (record { maker = other; state = status }))
  without_over (Owned p maker state) s beside fr fs same = absurd (omega (arith, one_mark (Owned p maker state) s same))
  without_over (Create p) (Create q) beside fr fs same =
      ap (λ (t : Names). without (put g (Create t)) (Create p)) (sym (one_path 6 p q fr fs same)) ∙ ap created_as (remove-over by_names-total by_names-antisymmetric g.created p tt)
  without_over (Create p) s beside fr fs same = absurd (omega (arith, one_mark (Create p) s same))
  without_over (Modify n) (Modify m) beside fr fs same =
      ap (λ (t : ℕ). without (put g (Modify t)) (Modify n)) (sym (one_number 7 n m fr fs same)) ∙ ap flagged_as (remove-over nat_cmp_total nat_cmp-IsAntisymmetric g.flags n tt)
  without_over (Modify n) s beside fr fs same = absurd (omega (arith, one_mark (Modify n) s same))

  -- at its own key an edit alone stands
  pub over : (e : Edit) (s : Record) → IsBesideRules (record_of e) → KeyFits (record_of e) → KeyFits s → key_of (record_of e) ≡ key_of s → edited (put g s) e ≡ edited g e
  over (Put r) s beside fr fs same = put_over r s beside fr fs same
  over (Remove r) s beside fr fs same = without_over r s beside fr fs same

  put_rules : (r : Record) → IsBesideRules r → ((put g r).rules ≡ g.rules) × ((put g r).places ≡ g.places)
  put_rules (Rule n place a) beside = absurd beside
  put_rules r beside = (refl, refl)

  without_rules : (r : Record) → IsBesideRules r → ((without g r).rules ≡ g.rules) × ((without g r).places ≡ g.places)
  without_rules (Rule n place a) beside = absurd beside
  without_rules r beside = (refl, refl)

  -- an edit leaves rules and places
  pub same_rules : (e : Edit) → IsBesideRules (record_of e) → ((edited g e).rules ≡ g.rules) × ((edited g e).places ≡ g.places)
  same_rules (Put r) beside = put_rules r beside
  same_rules (Remove r) beside = without_rules r beside
