-- The site of a board with the graph of its store, and what making the files of a rule leaves of them (own). It commits that
-- a run of the rule begins, puts the files, settles, and commits the run.
use Rattle.std.specs.Prelude.{◌≡◌, ◌⊎◌, ℕ, true, List, Option, None, Some, Result, Ok, Err, All, Contains, map, IsTrue, is_none}
use Rattle.std.specs.FinMap as finite
use Rattle.tup_path.specs.Name.{Names, Content}
use Rattle.tup_path.specs.Tree.{Tree}
use Rattle.tup_rule.specs.Rule.{among}
use Rattle.tup_site.specs.Cause.{IsPlace, TellsLarge, TellsLength}
use Rattle.tup_site.specs.Crash.{Follows, GoesOn, NoStep}
use Rattle.tup_site.specs.Known.{Keeps}
use Rattle.tup_site.specs.World.{World, StoreStays, TreeStays}
use Rattle.tup_site.specs.declared.site.Site.{Ghosts as Site}
use Rattle.tup_record.specs.declared.run.RunRecord.{RunRecord}
use Rattle.tup_graph.specs.Graph.{GraphState, is_rule, outputs_of}
use Rattle.tup_graph.specs.Transactions.{begin_edits, begun, finish_edits, finished}
use Rattle.tup_graph.specs.declared.edit.Edit.{Edit}
use Rattle.tup_stored_graph.specs.Crash.{IsStoreOf, LeavesEither}
use Rattle.tup_stored_graph.specs.Held.{Held, is_fresh, StandsFor}
use Rattle.tup_stored_graph.specs.Transaction.{IsFull, after}
use Rattle.tup_stale.specs.Files.{SameBeside}
use Rattle.tup_rule_outputs.specs.declared.fault.BoardFault.{BoardFault}
use Rattle.tup_rule_outputs.specs.declared.fault.BoardFault.TheVariants.{TooLarge, Full}
use Rattle.tup_rule_outputs.specs.declared.ground.Ground.{Ground}
use Rattle.tup_rule_outputs.specs.Fault.{lost_fault}
use Rattle.tup_rule_outputs.specs.Lost.{Lost}

-- the graph stands for the store, unless a commit was lost
pub record IsGround {S : Type 0} (site : Site S) (ground : Ground S) : Type 0 where
  pub fresh : is_fresh ground.graph ≡ is_none ground.lost
  pub stands : IsTrue site.tells → ground.lost ≡ None → StandsFor site.world site.moment site.left_since ground.graph ground.site

-- a call that only reads the tree
pub record ReadsSite {S : Type 0} (site : Site S) (old new : Ground S) : Type 0 where
  pub graph : new.graph ≡ old.graph
  pub lost : new.lost ≡ old.lost
  pub world : IsTrue site.tells → site.world new.site ≡ site.world old.site
  pub crash : IsTrue site.tells → GoesOn site.moment site.left_since old.site new.site NoStep
  pub known : IsTrue site.tells → site.known new.site ≡ site.known old.site

-- only a file that is longer than a file may be is too large
abbrev pub OnlyLarge : {T : Type 0} → Result T BoardFault → Type 0
OnlyLarge result = TellsLarge TooLarge result

-- and it is the one at this path, of the length that the answer names
abbrev pub NamesLength : {T : Type 0} → Tree → Names → Result T BoardFault → Type 0
NamesLength tree path result = TellsLength TooLarge tree path result

-- ---- files

-- the paths of files
abbrev pub paths_of : List (Names × Content) → List Names
paths_of files = map (λ (file : Names × Content). file.0) files

-- files that can all stand at once: a path that is named twice has one content
abbrev pub AreAtOnce : List (Names × Content) → Type 0
AreAtOnce files = (one other : Names × Content) → Contains files one → Contains files other → one.0 ≡ other.0 → one.1 ≡ other.1

-- a tree holds these files
abbrev pub HoldsFiles : List (Names × Content) → Tree → Type 0
HoldsFiles files tree = All (λ (file : Names × Content). finite.get tree file.0 ≡ Some file.1) files

-- each of some paths has its place in a tree, whatever stands at the others
abbrev pub HavePlaces : List Names → Tree → Type 0
HavePlaces paths tree = (other : Tree) (path : Names) → SameBeside paths tree other → among path paths ≡ true → IsPlace other path

-- these files can be made for a rule: they are its outputs, and each has its place
pub record CanMake {S : Type 0} (site : Site S) (ground : Ground S) (number : ℕ) (files : List (Names × Content)) : Type 0 where
  pub is_ground : IsGround site ground
  pub rule : is_rule ground.graph.nodes number ≡ true
  pub outputs : paths_of files ≡ outputs_of ground.graph.nodes number
  pub at_once : AreAtOnce files
  pub places : IsTrue site.tells → HavePlaces (paths_of files) (site.world ground.site).tree

-- ---- one commit

-- A commit of a rule was made or not, by the answer: with these edits, which leave these nodes, and this run to keep. No
-- commit was lost before; if this one is, its site or want of memory was the cause. Refused and not lost it did nothing;
-- lost to the site it left the graph its nodes.
pub record Commits {S : Type 0} (site : Site S) (number : ℕ) (run : Option RunRecord) (edits : List Edit) (nodes : GraphState) (old : Ground S) (result : Result (Unit {0}) BoardFault) (new : Ground S) : Type 0 where
  pub is_ground : IsGround site new
  pub ok : (done : Unit {0}) → result ≡ Ok done → (new.lost ≡ None) × (new.graph ≡ after old.graph edits nodes)
  pub err : (fault : BoardFault) → result ≡ Err fault → new.lost ≡ None → new ≡ old
  pub lost : (commit : Lost) → new.lost ≡ Some commit → (commit.rule ≡ number) × (commit.run ≡ run) × (result ≡ Err (lost_fault commit))
  pub still : (commit : Lost) → new.lost ≡ Some commit → IsTrue commit.by_site → new.graph.nodes ≡ old.graph.nodes
  pub full : result ≡ Err Full → IsFull old.graph edits
  pub room : (done : Unit {0}) → result ≡ Ok done → IsFull old.graph edits → ⊥
  pub small : (bytes : ℕ) → result ≡ Err (TooLarge bytes) → ⊥
  pub tree : IsTrue site.tells → TreeStays (site.world old.site) (site.world new.site)
  pub crash : IsTrue site.tells → LeavesEither site.moment site.left_since old.site new.site old.graph.nodes nodes
  pub known : IsTrue site.tells → site.known new.site ≡ site.known old.site

-- ---- the files of a rule

-- the end of a run was kept, or the commit that was to keep it is lost
abbrev pub WasTried : {T : Type 0} → RunRecord → Result T BoardFault → Option Lost → Type 0
WasTried {T} run result lost = ((done : T) × (result ≡ Ok done)) ⊎ ((commit : Lost) × (lost ≡ Some commit) × (commit.run ≡ Some run))

-- How far making the files of a rule came in a world.
module _ (g : GraphState) (number : ℕ) (run : RunRecord) (files : List (Names × Content)) (v w : World) where
  -- nothing is done yet
  abbrev pub IsNotBegun : Type 0
  IsNotBegun = (StoreStays v w ⊎ IsStoreOf g w.store) × TreeStays v w

  -- the run has begun in the store, and what stands at the rule's outputs is open
  abbrev pub IsBegun : Type 0
  IsBegun = IsStoreOf (begun g number) w.store × SameBeside (outputs_of g number) v.tree w.tree

  -- the run is kept there, and the files stand
  abbrev pub IsEnded : Type 0
  IsEnded = IsStoreOf (finished (begun g number) number run) w.store × HoldsFiles files w.tree × SameBeside (outputs_of g number) v.tree w.tree

-- what making the files of a rule does to a world, and to what a crash may leave: the last only if that was tried
abbrev pub MakeStep : Type 0 → GraphState → ℕ → RunRecord → List (Names × Content) → World → World → Type 0
MakeStep tried g number run files v w = IsNotBegun g number run files v w ⊎ IsBegun g number run files v w ⊎ (tried × IsEnded g number run files v w)

-- what a crash may leave once a commit was lost, of what one right before the call might have left: nothing may be done yet only
-- where the present tree is still the one before
abbrev pub LostStep : Type 0 → GraphState → ℕ → RunRecord → List (Names × Content) → World → World → World → World → Type 0
LostStep tried g number run files before now v w =
    (TreeStays before now × IsNotBegun g number run files v w) ⊎ IsBegun g number run files v w ⊎ (tried × IsEnded g number run files v w)

-- the graph after a run began
abbrev pub after_begin : Held → ℕ → Held
after_begin graph number = after graph (begin_edits graph.nodes number) (begun graph.nodes number)

-- and after it ended
abbrev pub after_end : Held → ℕ → RunRecord → Held
after_end graph number run = after (after_begin graph number) (finish_edits (begun graph.nodes number) number run) (finished (begun graph.nodes number) number run)

-- there is no room to begin a run, or to keep it
abbrev pub LacksRoomFor : Held → ℕ → RunRecord → Type 0
LacksRoomFor graph number run =
    IsFull graph (begin_edits graph.nodes number)
    ⊎ IsFull (after_begin graph number) (finish_edits (begun graph.nodes number) number run)

-- which of the two had no room: the graph is as it was, or the run has begun, and its files stand
abbrev pub WasFull : Held → ℕ → RunRecord → Held → Type 0 → Type 0
WasFull graph number run new stand =
    (IsFull graph (begin_edits graph.nodes number) × (new ≡ graph))
    ⊎ (IsFull (after_begin graph number) (finish_edits (begun graph.nodes number) number run) × (new ≡ after_begin graph number) × stand)

-- a commit of this rule was lost, by which the call is refused
pub record Loses {T : Type 0} (number : ℕ) (run : RunRecord) (result : Result T BoardFault) (commit : Lost) : Type 0 where
  pub rule : commit.rule ≡ number
  pub kept : (commit.run ≡ None) ⊎ (commit.run ≡ Some run)
  pub fault : result ≡ Err (lost_fault commit)

-- the files of a rule were made, or not, by the answer, where no commit was lost before
pub record MakesFiles {S : Type 0} (site : Site S) (number : ℕ) (run : RunRecord) (files : List (Names × Content)) (old : Ground S) (result : Result (Unit {0}) BoardFault) (new : Ground S) : Type 0 where
  pub is_ground : IsGround site new
  -- after Ok the graph has the run; then the files stand, and also where the commit that was to keep it is lost
  pub ok : (done : Unit {0}) → result ≡ Ok done → (new.lost ≡ None) × (new.graph ≡ after_end old.graph number run)
  pub made : WasTried run result new.lost → IsTrue site.tells → HoldsFiles files (site.world new.site).tree
  -- else a commit is lost, or all is as it was, or the run began
  pub lost : (commit : Lost) → new.lost ≡ Some commit → Loses number run result commit
  pub err : (fault : BoardFault) → result ≡ Err fault → new.lost ≡ None → (new ≡ old) ⊎ (new.graph ≡ after_begin old.graph number)
  -- a commit that is lost to the site leaves what the graph has seen
  pub still : (commit : Lost) → new.lost ≡ Some commit → IsTrue commit.by_site → new.graph.nodes.seen ≡ old.graph.nodes.seen
  pub full : result ≡ Err Full → WasFull old.graph number run new.graph (IsTrue site.tells → HoldsFiles files (site.world new.site).tree)
  pub room : (done : Unit {0}) → result ≡ Ok done → LacksRoomFor old.graph number run → ⊥
  pub small : (bytes : ℕ) → result ≡ Err (TooLarge bytes) → ⊥
  -- what became of the tree and the store, and what a crash may leave meanwhile
  pub now : IsTrue site.tells → MakeStep (WasTried run result new.lost) old.graph.nodes number run files (site.world old.site) (site.world new.site)
  pub crash : IsTrue site.tells → GoesOn site.moment site.left_since old.site new.site (MakeStep (WasTried run result new.lost) old.graph.nodes number run files)
  pub known : IsTrue site.tells → Keeps (site.known old.site) (site.known new.site)
  -- and from then on, where a commit is lost
  pub torn : (commit : Lost) → new.lost ≡ Some commit → IsTrue site.tells → (w : World) → site.left_since new.site (site.moment new.site) w
      → Follows (LostStep (WasTried run result new.lost) old.graph.nodes number run files (site.world old.site) (site.world new.site)) (site.left_since old.site (site.moment old.site)) w

-- the same, whether or not a commit was lost before: then nothing is done, and the answer is that of the lost commit
pub record Makes {S : Type 0} (site : Site S) (number : ℕ) (run : RunRecord) (files : List (Names × Content)) (old : Ground S) (result : Result (Unit {0}) BoardFault) (new : Ground S) : Type 0 where
  pub idle : (commit : Lost) → old.lost ≡ Some commit → (new ≡ old) × (result ≡ Err (lost_fault commit))
  pub makes : old.lost ≡ None → MakesFiles site number run files old result new
