-- What a site in memory keeps true of itself when a change is noted.
use Rattle.std.proofs.Common.{◌≡◌, ◌⊎◌, inl, inr, ℕ, ◌+◌, ◌≤◌, ◌-◌, ◌^◌, min, Bool, true, false, cond, not, List, [], ◌∷◌, ◌++◌, None, Some, IsSome, is_some, length, take, refl, sym, ap, subst, ◌∙◌, arith}
use Rattle.std.specs.BTreeMap.{is_at}
use Rattle.std.specs.FinMap as finite
use Rattle.tup_path.specs.Name.{Names, Content, IsPath}
use Rattle.tup_path.specs.Tree.{Tree, IsTree, tree_of_files}
use Rattle.tup_stamp.specs.Stamp.{stamp}
use Rattle.tup_stamp.specs.declared.Stamp.{Stamp}
use Rattle.tup_site.specs.Cause.{IsPlace}
use Rattle.tup_site.specs.Store.{Holds}
use Rattle.tup_site.specs.Choice.{chosen, known_after}
use Rattle.tup_site.specs.declared.choice.Choice.{Choice}
use Rattle.tup_site.specs.Known.{IsKnown, MayJoin}
use Rattle.tup_site.specs.State.{State}
use Rattle.tup_site.specs.History.{at_first, contents_of, after, after_all, failures, failures_in}
use Rattle.tup_site.specs.Sound.{IsSound, IsNow}
use Rattle.tup_site.specs.Held.{by_stamp, under, IsHeld}
use Rattle.tup_site.specs.Memory.{tree_in, store_in, first_of, changes_of, state_of, known_in, faults_of, one_more}
use Rattle.tup_site.specs.declared.change.Change.{Change}
use Rattle.tup_site.specs.declared.change.Change.TheVariants.{Put, Removed, Settled, Written, Cut, Synced, Edited, Crashed, Failed}
use Rattle.tup_site.specs.declared.memory.MemSite.{MemSite}
use Rattle.tup_site.proofs.Sound.{Fits, MaySet, first_sound}
use Rattle.tup_site.proofs.Going.{after_all-append, now_after}
use Rattle.tup_site.proofs.Held.{held_more, held_same, given_up, taken_again}

module _ (site : MemSite) (changes : List Change) where
  state_by : (change : Change) → changes ≡ changes_of site ++ change ∷ [] → after_all (at_first (first_of site)) changes ≡ after (state_of site) change
  state_by change noted = ap (after_all (at_first (first_of site))) noted ∙ after_all-append (at_first (first_of site)) (changes_of site) (change ∷ [])

  now_by : (change : Change) (files : Tree) (store : List ℕ) (faults : ℕ) → Fits (state_of site) change → changes ≡ changes_of site ++ change ∷ [] → files ≡ (after (state_of site) change).world.tree → store ≡ (after (state_of site) change).world.store → faults ≡ min (faults_of site + failures_in change) (2 ^ 64 - 1) → IsNow (first_of site) changes files store faults
  now_by change files store faults fits noted tree bytes count =
      now_after (first_of site) (changes_of site) changes change (tree_in site) files (store_in site) store (faults_of site) faults site.is_now fits noted tree bytes count

  held_by : (change : Change) → (after (state_of site) change).known ≡ known_in site → changes ≡ changes_of site ++ change ∷ [] → IsHeld site.known.contents.entries (after_all (at_first (first_of site)) changes).known
  held_by change same noted = subst (IsHeld site.known.contents.entries) (sym same ∙ sym (ap (λ (s : State). s.known) (state_by change noted))) site.is_held

  steady : faults_of site ≡ min (faults_of site + 0) (2 ^ 64 - 1)
  steady = let is = site.is_now.faults in omega (arith, is)

  -- ---- a file set

  may_set : (path : Names) (content : Content) → IsPath path → IsPlace (tree_in site) path → MayJoin (known_in site) content → MaySet (state_of site) path content
  may_set path content is place joins = record { visible = is; place = subst (λ (t : Tree). IsPlace t path) site.is_now.tree place; joins = joins }

  pub set_now : (path : Names) (content : Content) (change : Change) (files : Tree) → IsPath path → IsPlace (tree_in site) path → MayJoin (known_in site) content → (change ≡ Put path content) ⊎ (change ≡ Edited path (Some content)) → files ≡ finite.insert (tree_in site) path content → changes ≡ changes_of site ++ change ∷ [] → IsNow (first_of site) changes files (store_in site) (faults_of site)
  set_now path content change files is place joins (inl put) tree noted =
      now_by (Put path content) files (store_in site) (faults_of site) (may_set path content is place joins) (noted ∙ ap (λ (c : Change). changes_of site ++ c ∷ []) put) (tree ∙ ap (λ (t : Tree). finite.insert t path content) site.is_now.tree) site.is_now.store steady
  set_now path content change files is place joins (inr edited) tree noted =
      now_by (Edited path (Some content)) files (store_in site) (faults_of site) (may_set path content is place joins) (noted ∙ ap (λ (c : Change). changes_of site ++ c ∷ []) edited) (tree ∙ ap (λ (t : Tree). finite.insert t path content) site.is_now.tree) site.is_now.store steady

  set_known : (path : Names) (content : Content) (change : Change) → (change ≡ Put path content) ⊎ (change ≡ Edited path (Some content)) → changes ≡ changes_of site ++ change ∷ [] → (after_all (at_first (first_of site)) changes).known ≡ content ∷ known_in site
  set_known path content change (inl put) noted = ap (λ (s : State). s.known) (state_by change noted ∙ ap (after (state_of site)) put)
  set_known path content change (inr edited) noted = ap (λ (s : State). s.known) (state_by change noted ∙ ap (after (state_of site)) edited)

  pub set_held : (path : Names) (content : Content) (change : Change) (entries : List (Stamp × Content)) → MayJoin (known_in site) content → (change ≡ Put path content) ⊎ (change ≡ Edited path (Some content)) → ((key : Stamp) → under entries key ≡ cond (is_at (by_stamp (stamp content)) key) (Some content) (under site.known.contents.entries key)) → changes ≡ changes_of site ++ change ∷ [] → IsHeld entries (after_all (at_first (first_of site)) changes).known
  set_held path content change entries joins what taken noted =
      subst (IsHeld entries) (sym (set_known path content change what noted)) (held_more site.known.contents.entries entries (known_in site) content site.is_held joins taken)

  -- ---- a file taken away

  pub unset_now : (path : Names) (change : Change) (files : Tree) → ((change ≡ Removed path) × IsSome (finite.get (tree_in site) path)) ⊎ (change ≡ Edited path None) → files ≡ finite.remove (tree_in site) path → changes ≡ changes_of site ++ change ∷ [] → IsNow (first_of site) changes files (store_in site) (faults_of site)
  unset_now path change files (inl removed) tree noted =
      now_by (Removed path) files (store_in site) (faults_of site) (subst (λ (t : Tree). IsSome (finite.get t path)) site.is_now.tree removed.1) (noted ∙ ap (λ (c : Change). changes_of site ++ c ∷ []) removed.0) (tree ∙ ap (λ (t : Tree). finite.remove t path) site.is_now.tree) site.is_now.store steady
  unset_now path change files (inr edited) tree noted =
      now_by (Edited path None) files (store_in site) (faults_of site) tt (noted ∙ ap (λ (c : Change). changes_of site ++ c ∷ []) edited) (tree ∙ ap (λ (t : Tree). finite.remove t path) site.is_now.tree) site.is_now.store steady

  pub unset_held : (path : Names) (change : Change) → ((change ≡ Removed path) × IsSome (finite.get (tree_in site) path)) ⊎ (change ≡ Edited path None) → changes ≡ changes_of site ++ change ∷ [] → IsHeld site.known.contents.entries (after_all (at_first (first_of site)) changes).known
  unset_held path change (inl removed) noted = held_by (Removed path) refl (noted ∙ ap (λ (c : Change). changes_of site ++ c ∷ []) removed.0)
  unset_held path change (inr edited) noted = held_by (Edited path None) refl (noted ∙ ap (λ (c : Change). changes_of site ++ c ∷ []) edited)

  -- ---- the store

  pub write_now : (at : ℕ) (bytes : List ℕ) (change : Change) (store : List ℕ) → at ≤ length (store_in site) → change ≡ Written at bytes → Holds (store_in site) at bytes store → changes ≡ changes_of site ++ change ∷ [] → IsNow (first_of site) changes (tree_in site) store (faults_of site)
  write_now at bytes change store le is holds noted =
      now_by (Written at bytes) (tree_in site) store (faults_of site) (subst (λ (l : List ℕ). at ≤ length l) site.is_now.store le) (noted ∙ ap (λ (c : Change). changes_of site ++ c ∷ []) is) site.is_now.tree
      (subst (λ (l : List ℕ). Holds l at bytes store) site.is_now.store holds) steady

  pub write_held : (at : ℕ) (bytes : List ℕ) (change : Change) → change ≡ Written at bytes → changes ≡ changes_of site ++ change ∷ [] → IsHeld site.known.contents.entries (after_all (at_first (first_of site)) changes).known
  write_held at bytes change is noted = held_by (Written at bytes) refl (noted ∙ ap (λ (c : Change). changes_of site ++ c ∷ []) is)

  pub cut_now : (len : ℕ) (store : List ℕ) → store ≡ take len (store_in site) → changes ≡ changes_of site ++ Cut len ∷ [] → IsNow (first_of site) changes (tree_in site) store (faults_of site)
  cut_now len store cut noted = now_by (Cut len) (tree_in site) store (faults_of site) tt noted site.is_now.tree (cut ∙ ap (take len) site.is_now.store) steady

  pub cut_held : (len : ℕ) → changes ≡ changes_of site ++ Cut len ∷ [] → IsHeld site.known.contents.entries (after_all (at_first (first_of site)) changes).known
  cut_held len noted = held_by (Cut len) refl noted

  -- ---- a crash

  pub crash_now : (choice : Choice) (files : Tree) (store : List ℕ) → files ≡ chosen (tree_in site) choice.tree → IsTree files → IsKnown (known_after (known_in site) choice.tree) → store ≡ choice.db → changes ≡ changes_of site ++ Crashed choice ∷ [] → IsNow (first_of site) changes files store (faults_of site)
  crash_now choice files store is tree known bytes noted =
      let chosen_so : files ≡ chosen (state_of site).world.tree choice.tree = is ∙ ap (λ (t : Tree). chosen t choice.tree) site.is_now.tree in
      now_by (Crashed choice) files store (faults_of site) (subst IsTree chosen_so tree, known) noted chosen_so bytes steady

  pub crash_held : (choice : Choice) (entries : List (Stamp × Content)) → IsHeld entries (known_after (known_in site) choice.tree) → changes ≡ changes_of site ++ Crashed choice ∷ [] → IsHeld entries (after_all (at_first (first_of site)) changes).known
  crash_held choice entries held noted = subst (IsHeld entries) (sym (ap (λ (s : State). s.known) (state_by (Crashed choice) noted))) held

  -- ---- what is durable, and a failure

  pub mark_now : (change : Change) → (change ≡ Settled) ⊎ (change ≡ Synced) → changes ≡ changes_of site ++ change ∷ [] → IsNow (first_of site) changes (tree_in site) (store_in site) (faults_of site)
  mark_now change (inl is) noted = now_by Settled (tree_in site) (store_in site) (faults_of site) tt (noted ∙ ap (λ (c : Change). changes_of site ++ c ∷ []) is) site.is_now.tree site.is_now.store steady
  mark_now change (inr is) noted = now_by Synced (tree_in site) (store_in site) (faults_of site) tt (noted ∙ ap (λ (c : Change). changes_of site ++ c ∷ []) is) site.is_now.tree site.is_now.store steady

  pub mark_held : (change : Change) → (change ≡ Settled) ⊎ (change ≡ Synced) → changes ≡ changes_of site ++ change ∷ [] → IsHeld site.known.contents.entries (after_all (at_first (first_of site)) changes).known
  mark_held change (inl is) noted = held_by Settled refl (noted ∙ ap (λ (c : Change). changes_of site ++ c ∷ []) is)
  mark_held change (inr is) noted = held_by Synced refl (noted ∙ ap (λ (c : Change). changes_of site ++ c ∷ []) is)

  pub fail_now : (faults : ℕ) → faults ≡ one_more (faults_of site) → changes ≡ changes_of site ++ Failed ∷ [] → IsNow (first_of site) changes (tree_in site) (store_in site) faults
  fail_now faults count noted = now_by Failed (tree_in site) (store_in site) faults tt noted site.is_now.tree site.is_now.store count

  pub fail_held : changes ≡ changes_of site ++ Failed ∷ [] → IsHeld site.known.contents.entries (after_all (at_first (first_of site)) changes).known
  fail_held noted = held_by Failed refl noted

-- ---- the first state

pub new_now : (first : List (Names × Content)) (changes : List Change) (files : Tree) (store : List ℕ) → changes ≡ [] → store ≡ [] → files ≡ tree_of_files first → IsTree (tree_of_files first) → IsKnown (contents_of first) → IsNow first changes files store 0
new_now first changes files store none empty tree is known = record {
  tree = tree ∙ sym (ap (λ (cs : List Change). (after_all (at_first first) cs).world.tree) none);
  store = empty ∙ sym (ap (λ (cs : List Change). (after_all (at_first first) cs).world.store) none);
  faults = omega (arith, ap failures none);
  sound = subst (λ (cs : List Change). IsSound (after_all (at_first first) cs)) (sym none) (first_sound first is known);
}

pub new_held : (first : List (Names × Content)) (changes : List Change) (entries : List (Stamp × Content)) → changes ≡ [] → IsHeld entries (contents_of first) → IsHeld entries (after_all (at_first first) changes).known
new_held first changes entries none held = subst (λ (cs : List Change). IsHeld entries (after_all (at_first first) cs).known) (sym none) held

-- a file set: what the map of known contents takes up is a copy of the content, under its stamp
pub taken_so : (entries entries' : List (Stamp × Content)) (key : Stamp) (copy content : Content) → key ≡ stamp content → copy ≡ content → ((q : Stamp) → under entries' q ≡ cond (is_at (by_stamp key) q) (Some copy) (under entries q)) → (q : Stamp) → under entries' q ≡ cond (is_at (by_stamp (stamp content)) q) (Some content) (under entries q)
taken_so entries entries' key copy content is_key is_copy taken q =
    taken q ∙ ap (λ (k : Stamp). cond (is_at (by_stamp k) q) (Some copy) (under entries q)) is_key ∙ ap (λ (c : Content). cond (is_at (by_stamp (stamp content)) q) (Some c) (under entries q)) is_copy

-- a file that couldn't be set: the map of known contents finds what it found
pub unset_again : (site : MemSite) (entries entries' : List (Stamp × Content)) (key : Stamp) (copy content : Content) (is_new : Bool) → MayJoin (known_in site) content → key ≡ stamp content → copy ≡ content → is_new ≡ not (is_some (under site.known.contents.entries key)) → ((q : Stamp) → under entries q ≡ cond (is_at (by_stamp key) q) (Some copy) (under site.known.contents.entries q)) → ((q : Stamp) → under entries' q ≡ cond is_new (cond (is_at (by_stamp key) q) None (under entries q)) (under entries q)) → IsHeld entries' (known_in site)
unset_again site entries entries' key copy content true joins is_key is_copy new taken undone =
    held_same site.known.contents.entries entries' (known_in site) (known_in site) (given_up site.known.contents.entries entries entries' key copy (sym new) taken undone) (λ c. refl) site.is_held
unset_again site entries entries' key copy content false joins is_key is_copy old taken undone =
    held_same site.known.contents.entries entries' (known_in site) (known_in site)
    (λ q. undone q ∙ taken_again site.known.contents.entries entries (known_in site) content site.is_held joins (ap (λ (k : Stamp). not (is_some (under site.known.contents.entries k))) (sym is_key) ∙ sym old) (taken_so site.known.contents.entries entries key copy content is_key is_copy taken) q)
    (λ c. refl) site.is_held
