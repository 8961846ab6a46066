use Rattle.std.proofs.Common.{List, length, subst, ◌∙◌, arith}
use Rattle.byteorder.specs.Endian.{big_bytes}
use Rattle.std.proofs.lemmas.Result.{on_ok_weaker}
use Rattle.tup_table.specs.Compact.{compacted}
use Rattle.tup_table.specs.Entries.{entries_of}
use Rattle.tup_table.specs.Images.{CompactStep, FinishStep}
use Rattle.tup_table.specs.Table.{Rests}
use Rattle.tup_table.specs.declared.change.Change.{Change}
use Rattle.tup_table.proofs.Compact.{compacted_again}
use Rattle.tup_table.proofs.Finish.{start_stays}
use Rattle.tup_table.proofs.Going.{as_step, then_on}
use Rattle.tup_table.proofs.Keys.{commits_ascending}
use Rattle.tup_table.proofs.Switching.{joined, switch_goes, switches, finish_keeps, ends_compact_so}
use Rattle.tup_table.proofs.finishing.write_compact.Goals as goal

pub write_through-requires : goal.write_through-requires
write_through-requires g c = λ tells. omega (arith, c.in_ok-write_high.ensures.long tells)

pub finish-requires : goal.finish-requires
finish-requires g c = record { inside = λ tells. omega (arith, c.in_ok-write_high.ensures.long tells, (c.write_through.ensures.step tells).torn.no_shorter) }

pub returns-in_err-write_high-clause-crash : goal.returns-in_err-write_high-clause-crash
returns-in_err-write_high-clause-crash g c = λ tells commits rests is small. c.write_high.ensures.crash tells commits rests

pub returns-in_err-write_through-clause-crash : goal.returns-in_err-write_through-clause-crash
returns-in_err-write_through-clause-crash g c = λ tells commits rests is small.
    let site_laws = g.met.S.Site in
    let mid = c.write_high.new.site in
    then_on g.S.Site.moment g.S.Site.left_since c.args.site.now mid c.write_through.new.site (CompactStep (entries_of commits)) (λ t u w le left. site_laws.earlier mid t u w tells le left) (joined (entries_of commits))
    (c.write_high.ensures.crash tells commits rests)
    (switch_goes g.S.Site.world g.S.Site.moment g.S.Site.left_since commits (big_bytes 8 (length (g.S.Site.world c.args.site.now).store)) c.args.area.now mid (c.in_ok-write_high.ensures.both tells commits rests) is small
    c.write_through.new.site (c.write_through.ensures.crash tells))

pub returns-clause-crash : goal.returns-clause-crash
returns-clause-crash g c = λ tells commits rests is small.
    let site_laws = g.met.S.Site in
    let world = g.S.Site.world in
    let moment = g.S.Site.moment in
    let left_since = g.S.Site.left_since in
    let eight = big_bytes 8 (length (world c.args.site.now).store) in
    let mid = c.write_high.new.site in
    let last = c.write_through.new.site in
    let both = c.in_ok-write_high.ensures.both tells commits rests in
    let step = CompactStep (entries_of commits) in
    let open_now = switches world moment left_since commits eight c.args.area.now mid both is small last (c.in_ok-write_through.ensures.written tells) (c.in_ok-write_through.ensures.durable tells) in
    then_on moment left_since c.args.site.now last c.finish.new.site step (λ t u w le left. site_laws.earlier last t u w tells le left) (joined (entries_of commits))
    (then_on moment left_since c.args.site.now mid last step (λ t u w le left. site_laws.earlier mid t u w tells le left) (joined (entries_of commits)) (c.write_high.ensures.crash tells commits rests)
    (switch_goes world moment left_since commits eight c.args.area.now mid both is small last (c.write_through.ensures.crash tells)))
    (as_step moment left_since last c.finish.new.site (FinishStep (world last).store) step (λ v w left one. finish_keeps commits (world last).store v w open_now.high one)
    (c.finish.ensures.crash tells (compacted (entries_of commits)) open_now))

pub returns-clause-rests : goal.returns-clause-rests
returns-clause-rests g c = λ tells commits rests is small.
    let world = g.S.Site.world in
    let moment = g.S.Site.moment in
    let left_since = g.S.Site.left_since in
    let open_now =
    switches world moment left_since commits (big_bytes 8 (length (world c.args.site.now).store)) c.args.area.now c.write_high.new.site (c.in_ok-write_high.ensures.both tells commits rests) is small c.write_through.new.site
    (c.in_ok-write_through.ensures.written tells) (c.in_ok-write_through.ensures.durable tells) in
    on_ok_weaker c.finish.result (λ rested. subst (λ (cs : List (List Change)). Rests world moment left_since cs c.finish.new.site) (compacted_again (entries_of commits) (commits_ascending commits)) rested)
    (c.finish.ensures.rests tells (compacted (entries_of commits)) open_now)

pub returns-clause-store : goal.returns-clause-store
returns-clause-store g c = λ tells commits rests is small.
    let world = g.S.Site.world in
    let last = c.write_through.new.site in
    let eight = big_bytes 8 (length (world c.args.site.now).store) in
    let both = c.in_ok-write_high.ensures.both tells commits rests in
    let open_now =
    switches world g.S.Site.moment g.S.Site.left_since commits eight c.args.area.now c.write_high.new.site both is small last (c.in_ok-write_through.ensures.written tells) (c.in_ok-write_through.ensures.durable tells) in
    on_ok_weaker c.finish.result
    (ends_compact_so commits eight (world c.finish.new.site).store (world last).store open_now.high.low open_now.high.head open_now.high.parts.is_head open_now.high.parts.whole
    (start_stays both.bytes.low.head both.bytes.low.is_head 1 ∙ both.bytes.start))
    (c.finish.ensures.store tells (compacted (entries_of commits)) open_now)
