-- A project stays kept, turn after turn.
use Rattle.std.proofs.Common.{ℕ, Bool, List, [], ◌∷◌, length, take, Option, Ok, Err, sym, subst}
use Rattle.tup_site.specs.Memory.{world_in}
use Rattle.tup_site.specs.World.{World}
use Rattle.tup_site.specs.declared.choice.Deed.TheVariants.{Edit, Crash}
use Rattle.tup_site.specs.declared.memory.MemSite.{MemSite}
use Rattle.tup_site.specs.declared.refused.MemRefused.{MemRefused}
use Rattle.tup_runner.specs.Next.{Next}
use Rattle.tup_top.specs.Order.{Wanted, order}
use Rattle.tup_top.specs.declared.order.Order.TheVariants.{Init, Upd, Todo, Verify, Demo}
use Rattle.tup_history.specs.History.{Standing, Takes, IsHistory, AreLived}
use Rattle.tup_history.specs.Kept.{Stage, Unbegun, Begun, Stands}
use Rattle.tup_history.specs.Stays.{BehindRun, Behind, StaysKept, AreKept}
use Rattle.tup_history.specs.declared.turn.End.{End}
use Rattle.tup_history.specs.declared.turn.Turn.{Turn}
use Rattle.tup_history.specs.declared.turn.Turn.TheVariants.{Deed, Run}
use Rattle.tup_history.proofs.Deeds.{stands_still, edit_keeps, crash_keeps}
use Rattle.tup_history.proofs.Runs.{run_keeps}

-- a larger promise
run_on : (tells : Bool) (next : Next) (wanted : Wanted) (old new : World) (end : End) (stage : Stage) (P Q : Stage → Type 0) → ((later : Stage) → P later → Q later) → BehindRun tells next wanted old new end stage P → BehindRun tells next wanted old new end stage Q
run_on tells next (Ok (Upd program keep_going quiet verbose explain jobs log)) old new end Unbegun P Q on p = on Unbegun p
run_on tells next (Ok (Upd program keep_going quiet verbose explain jobs log)) old new end Begun P Q on p = λ means. let is = p means in (is.0, on Begun is.1)
run_on tells next (Ok Todo) old new end Unbegun P Q on p = on Unbegun p
run_on tells next (Ok Todo) old new end Begun P Q on p = λ means. on Begun (p means)
run_on tells next (Ok Init) old new end Unbegun P Q on p = λ done. on Begun (p done)
run_on tells next (Ok Init) old new end Begun P Q on p = on Begun p
run_on tells next (Ok Verify) old new end stage P Q on p = on stage p
run_on tells next (Ok Demo) old new end stage P Q on p = on stage p
run_on tells next (Err place) old new end stage P Q on p = on stage p

behind_on : (tells : Bool) (next : Next) (turn : Turn) (end : End) (old new : MemSite) (stage : Stage) (P Q : Stage → Type 0) → ((later : Stage) → P later → Q later) → Behind tells next turn end old new stage P → Behind tells next turn end old new stage Q
behind_on tells next (Deed (Edit path content)) end old new Unbegun P Q on p = on Unbegun p
behind_on tells next (Deed (Edit path content)) end old new Begun P Q on p = λ alike. on Begun (p alike)
behind_on tells next (Deed (Crash choice)) end old new stage P Q on p = on stage p
behind_on tells next (Run words stop_after) end old new stage P Q on p = run_on tells next (order words) (world_in old) (world_in new) end stage P Q on p

turn_keeps : (tells : Bool) (next : Next) (turn : Turn) (end : End) (from to : Standing) → Takes tells next turn end from to → (stage : Stage) → Stands next stage from.site → Behind tells next turn end from.site to.site stage (λ later. Stands next later to.site)
turn_keeps tells next (Deed (Edit path content)) end from to takes stage kept = edit_keeps path content from.site to.site takes.ends.done next stage kept
turn_keeps tells next (Deed (Crash choice)) end from to takes stage kept = crash_keeps choice from.site to.site takes.ends.done next stage kept
turn_keeps tells next (Run words stop_after) end from to takes stage kept =
    let ran : BehindRun tells next (order words) (world_in takes.begun) (world_in takes.ended) end stage (λ later. Stands next later takes.ended) =
    run_keeps tells next (length from.runners) (order words) end takes.status end.ran takes.begun takes.ended takes.answered takes.leaves takes.keeps.nothing_done takes.keeps.begins takes.updates stage
    (stands_still from.site takes.begun takes.begins.first takes.begins.changes takes.begins.world next stage kept) in
    subst (λ (w : World). BehindRun tells next (order words) w (world_in to.site) end stage (λ later. Stands next later to.site)) takes.begins.world
    (subst (λ (w : World). BehindRun tells next (order words) (world_in takes.begun) w end stage (λ later. Stands next later to.site)) (sym takes.goes_on.world)
    (run_on tells next (order words) (world_in takes.begun) (world_in takes.ended) end stage (λ later. Stands next later takes.ended) (λ later. Stands next later to.site)
    (λ later k. stands_still takes.ended to.site takes.goes_on.first takes.goes_on.changes takes.goes_on.world next later k) ran))

-- ---- turn after turn
stays : (tells : Bool) (next : Next) (turns : List Turn) (ends : List End) (from to : Standing) (history : IsHistory tells next turns ends from to) (P : Stage → Type 0) → ((later : Stage) → Stands next later to.site → P later) →
    (stage : Stage) → Stands next stage from.site → StaysKept tells next turns ends from to history stage P
stays tells next [] [] from to is P last stage kept = last stage (subst (λ (s : Standing). Stands next stage s.site) (sym is) kept)
stays tells next (turn ∷ turns) (end ∷ ends) from to (mid, takes, history) P last stage kept =
    behind_on tells next turn end from.site mid.site stage (λ later. Stands next later mid.site) _ (λ later k. (k, stays tells next turns ends mid to history P last later k)) (turn_keeps tells next turn end from mid takes stage kept)
stays tells next [] (end ∷ ends) from to none P last stage kept = absurd none
stays tells next (turn ∷ turns) [] from to none P last stage kept = absurd none

pub lived_kept : (tells : Bool) (next : Next) (turns : List Turn) (ends : List End) (refused : Option (ℕ × MemRefused)) (from to : Standing) → AreLived tells next turns ends refused from to →
    (stage : Stage) → Stands next stage from.site → AreKept tells next turns ends from to stage
lived_kept tells next turns ends refused from to lived stage kept = record {
  last = lived.last;
  history = lived.history;
  stays = stays tells next (take (length ends) turns) ends from lived.last lived.history (λ later. Stands next later to.site)
      (λ later k. stands_still lived.last.site to.site lived.stands.site.beside.first lived.stands.site.changes lived.stands.site.world next later k) stage kept;
  stands = lived.stands;
}
