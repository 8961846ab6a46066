-- How the walk goes on.
use Rattle.std.proofs.Common.{◌≡◌, true, Option, Some, None, Ok, Err, IsTrue, sym, ap, ◌∙◌, subst}
use Rattle.std.specs.BTreeSet.{contains}
use Rattle.std.specs.FinMap as finite
use Rattle.tup_path.specs.Name.{Names}
use Rattle.tup_path.specs.Order.{by_names}
use Rattle.tup_path.specs.Tree.{Tree}
use Rattle.tup_rule.specs.Rule.{among}
use Rattle.tup_rule.specs.declared.question.Reading.{Reading}
use Rattle.tup_vars.specs.Table.{Entries}
use Rattle.tup_readings.specs.Readings.{AreRead, WaitsFor}
use Rattle.tup_readings.specs.Sources.{has_tupfile}
use Rattle.tup_readings.specs.State.{IsLast, IsNext, IsStart as IsWorkStart, Notes, Begins, Closes}
use Rattle.tup_readings.specs.declared.fault.FoldersFault.{FoldersFault}
use Rattle.tup_readings.specs.declared.work.Work.{Work}
use Rattle.tup_readings.proofs.Lines.{among_last}
use Rattle.tup_readings.proofs.Working.{started, last_has, noted, goes_on, first_fault, closes_circle}
use Rattle.tup_graph.specs.Graph.{GraphState}
use Rattle.tup_refresh.specs.declared.fetched.Fetched.{Fetched}
use Rattle.tup_refresh.specs.declared.walk.Walk.{Walk}
use Rattle.tup_refresh.specs.declared.found.Found.TheVariants.{Stands, Read}
use Rattle.tup_refresh.specs.Found.{HasFound, IsFault}
use Rattle.tup_refresh.specs.Part.{AreFetched, HasPaths, IsOutlined, IsPartOf}
use Rattle.tup_refresh.specs.Refresh.{kept_reading}
use Rattle.tup_refresh.specs.Walk.{AreParted, HasGone, IsWalk, IsStart, NotesFresh}
use Rattle.tup_refresh.proofs.Finding.{fault_come}
use Rattle.tup_refresh.proofs.Outlined.{tupfile_alike}
use Rattle.tup_refresh.proofs.Parting.{part_none, part_fresh, part_kept}

-- a content that is needed is missing
pub lacks_one : (old new : Walk) (path : Names) → HasGone old new (Some path) → contains by_names new.fetched.missing path ≡ true
lacks_one old new path gone = ap (λ (walk : Walk). contains by_names walk.fetched.missing path) gone.0 ∙ gone.1

module _ (g : GraphState) (sources : Tree) (settings : Entries) where
  pub walk_started : (outline : Tree) (fetched : Fetched) (walk : Walk) → HasPaths sources outline → AreFetched sources fetched → IsStart outline fetched walk → IsWalk g sources settings walk
  walk_started outline fetched walk paths are start = record {
    work = started sources settings walk.work work;
    parted = part_none g sources settings walk.work.readings walk.fresh start.work.readings start.fresh;
    fetched = subst (AreFetched sources) (sym start.contents) are;
  }
    where
      work : IsWorkStart sources walk.work
      work = record {
        waiting = λ dir. start.work.waiting dir ∙ tupfile_alike sources outline paths dir;
        under_way = start.work.under_way;
        readings = start.work.readings;
      }

  -- the next folder is begun
  pub walk_next : (old : Walk) (new : Work) (dir : Option Names) → IsWalk g sources settings old → IsNext dir old.work new → IsWalk g sources settings (record old { work = new })
  walk_next old new dir is next = record {
    work = next.work sources settings is.work;
    parted = subst (λ r. AreParted g sources settings r old.fresh) (sym next.readings) is.parted;
    fetched = is.fetched;
  }

  -- what is known of the sources while they are read
  pub part_of : (outline : Tree) (walk : Walk) → IsOutlined sources outline g → IsWalk g sources settings walk → IsPartOf sources outline g walk.fetched
  part_of outline walk outlined is = record {
    paths = outlined.paths;
    stamps = outlined.stamps;
    contents = is.fetched;
  }

  -- a content is fetched
  pub walk_fetched : (old : Walk) (new : Fetched) → IsWalk g sources settings old → (AreFetched sources old.fetched → AreFetched sources new) → IsWalk g sources settings (record old { fetched = new })
  walk_fetched old new is more = record {
    work = is.work;
    parted = is.parted;
    fetched = more is.fetched;
  }

  module _ (old : Walk) (dir : Names) (is : IsWalk g sources settings old) (last : IsLast (Some dir) old.work) where
    is_new : finite.get old.work.readings dir ≡ None
    is_new = is.work.not_read dir (ap (among dir) last.1 ∙ among_last dir last.0)

    pub has_tup : IsTrue (has_tupfile sources dir)
    has_tup = last_has sources settings old.work dir is.work last

    -- the kept reading stands
    pub walk_kept : (new : Work) (left : Reading) → HasFound sources settings old.work.readings dir (kept_reading g dir) (Ok (Stands left)) → Notes dir left old.work new
        → IsWalk g sources settings (record old { work = new })
    walk_kept new left found notes = record {
      work = noted sources settings old.work new dir left is.work notes found.2;
      parted = subst (λ r. AreParted g sources settings r old.fresh) (sym notes.readings)
          (part_kept sources settings old.work.readings dir left is_new has_tup g old.fresh is.parted found.0 found.1);
      fetched = is.fetched;
    }

    -- the folder was read
    pub walk_read : (new : Walk) (left : Reading) → HasFound sources settings old.work.readings dir (kept_reading g dir) (Ok (Read left)) → NotesFresh dir left old new → IsWalk g sources settings new
    walk_read new left found notes = record {
      work = noted sources settings old.work new.work dir left is.work notes.work found.1;
      parted = subst (λ r. AreParted g sources settings r new.fresh) (sym notes.work.readings)
          (subst (AreParted g sources settings (finite.insert old.work.readings dir left)) (sym notes.fresh)
          (part_fresh sources settings old.work.readings dir left is_new has_tup g old.fresh is.parted found.0));
      fetched = subst (AreFetched sources) (sym notes.fetched) is.fetched;
    }

    -- it waits for another one
    pub walk_on : (new : Work) (next : Names) → WaitsFor sources settings old.work.readings dir next → Begins next old.work new → IsWalk g sources settings (record old { work = new })
    walk_on new next waits begins = record {
      work = goes_on sources settings old.work new dir next is.work last waits begins;
      parted = subst (λ r. AreParted g sources settings r old.fresh) (sym begins.readings) is.parted;
      fetched = is.fetched;
    }

    -- it can't be read, or waits for itself
    pub walk_ends : (end : FoldersFault) → IsFault sources settings old.work.readings dir end → AreRead sources settings (Err end)
    walk_ends end fault = first_fault sources settings old.work dir end is.work last (fault_come sources settings old.work.readings dir end fault)

    pub walk_closes : (end : FoldersFault) (next : Names) → WaitsFor sources settings old.work.readings dir next → Closes next old.work end → AreRead sources settings (Err end)
    walk_closes end next waits closes = closes_circle sources settings old.work dir next end is.work last waits closes
