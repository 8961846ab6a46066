use Rattle.std.proofs.Common.{◌≡◌, List, ℕ, length, Result, Ok, Err, OnOk, sym, ap, subst, ◌∙◌, arith}
use Rattle.std.proofs.lemmas.Result.{on_ok_weaker}
use Rattle.byteorder.specs.Endian.{big_bytes, big_number}
use Rattle.byteorder.specs.Numbers.{length-bytes_high_first}
use Rattle.tup_site.specs.Crash.{GoesOn, NoStep, WriteStep}
use Rattle.tup_site.specs.Store.{Holds}
use Rattle.tup_site.specs.World.{World}
use Rattle.tup_table.specs.Entries.{entries_of}
use Rattle.tup_table.specs.Images.{CompactStep}
use Rattle.tup_table.proofs.Going.{as_step, nothing_then}
use Rattle.tup_table.proofs.Switching.{rests_still, high_goes, start_goes, high_written, holds_both}
use Rattle.tup_table.proofs.Torn.{whole_torn}
use Rattle.tup_table.proofs.finishing.write_high.Goals as goal

both : {T E A B C : Type 0} (result : Result T E) → OnOk result A → OnOk result B → (A → B → C) → OnOk result C
both (Ok value) a b c = c a b
both (Err e) a b c = tt

pub returns-in_err-start-clause-crash : goal.returns-in_err-start-clause-crash
returns-in_err-start-clause-crash g c = λ tells commits rests.
    as_step g.S.Site.moment g.S.Site.left_since c.args.site.now c.db_len.new.self NoStep (CompactStep (entries_of commits)) (λ v w left none. absurd none) (c.db_len.ensures.crash tells)

pub db_write-requires : goal.db_write-requires
db_write-requires g c = λ tells. omega (arith, c.in_ok-start.ensures.bytes tells, ap (λ (w : World). length w.store) (c.db_len.ensures.same tells))

pub returns-in_err-db_write-clause-crash : goal.returns-in_err-db_write-clause-crash
returns-in_err-db_write-clause-crash g c = λ tells commits rests.
    let site_laws = g.met.S.Site in
    let world = g.S.Site.world in
    let moment = g.S.Site.moment in
    let left_since = g.S.Site.left_since in
    let old = c.args.site.now in
    let mid = c.db_len.new.self in
    let same = c.db_len.ensures.same tells in
    let n = length c.args.area.now in
    let still = rests_still world moment left_since commits old rests mid same (λ t u w le left. site_laws.earlier mid t u w tells le left) (c.db_len.ensures.crash tells) in
    let place = c.in_ok-start.ensures.bytes tells ∙ sym (ap (λ (w : World). length w.store) same) in
    nothing_then moment left_since old mid c.db_write.new.self (CompactStep (entries_of commits)) (λ t u w le left. site_laws.earlier mid t u w tells le left) (c.db_len.ensures.crash tells)
    (high_goes world moment left_since commits mid still n c.db_write.new.self
    (subst (λ (at : ℕ). GoesOn moment left_since mid c.db_write.new.self (WriteStep at n)) place (c.db_write.ensures.crash tells)))

pub write_through-requires : goal.write_through-requires
write_through-requires g c = λ tells.
    let same = ap (λ (w : World). length w.store) (c.db_len.ensures.same tells) in
    let place = c.in_ok-start.ensures.bytes tells in
    let torn = whole_torn c.in_ok-start.start (g.S.Site.world c.db_len.new.self).store c.args.area.now (g.S.Site.world c.db_write.new.self).store (omega (arith, same, place)) (c.in_ok-db_write.ensures.written tells) in
    omega (arith, c.requires.inside tells, same, torn.no_shorter)

pub returns-clause-crash : goal.returns-clause-crash
returns-clause-crash g c = λ tells commits rests.
    let site_laws = g.met.S.Site in
    let world = g.S.Site.world in
    let moment = g.S.Site.moment in
    let left_since = g.S.Site.left_since in
    let old = c.args.site.now in
    let mid = c.db_len.new.self in
    let next = c.db_write.new.self in
    let same = c.db_len.ensures.same tells in
    let n = length c.args.area.now in
    let still = rests_still world moment left_since commits old rests mid same (λ t u w le left. site_laws.earlier mid t u w tells le left) (c.db_len.ensures.crash tells) in
    let place = c.in_ok-start.ensures.bytes tells ∙ sym (ap (λ (w : World). length w.store) same) in
    let long : length c.place_bytes-eight.result ≡ 8 = ap length c.place_bytes-eight.ensures.bytes ∙ length-bytes_high_first 8 c.in_ok-start.start in
    nothing_then moment left_since old mid c.write_through.new.site (CompactStep (entries_of commits)) (λ t u w le left. site_laws.earlier mid t u w tells le left) (c.db_len.ensures.crash tells)
    (start_goes world moment left_since commits mid still n next c.write_through.new.site (λ t u w le left. site_laws.earlier next t u w tells le left)
    (subst (λ (at : ℕ). GoesOn moment left_since mid next (WriteStep at n)) place (c.db_write.ensures.crash tells))
    (subst (λ (k : ℕ). GoesOn moment left_since next c.write_through.new.site (WriteStep 9 k)) long (c.write_through.ensures.crash tells)))

pub returns-clause-both : goal.returns-clause-both
returns-clause-both g c = λ tells commits rests.
    let world = g.S.Site.world in
    let old = c.args.site.now in
    let mid = (world c.db_write.new.self).store in
    let start = c.in_ok-start.start in
    let same = ap (λ (w : World). w.store) (c.db_len.ensures.same tells) in
    let place : start ≡ length (world old).store = c.in_ok-start.ensures.bytes tells in
    let eight_is : c.place_bytes-eight.result ≡ big_bytes 8 (length (world old).store) = c.place_bytes-eight.ensures.bytes ∙ ap (big_bytes 8) place in
    let eight = big_bytes 8 (length (world old).store) in
    let says : big_number 8 eight ≡ length (world old).store = ap (big_number 8) (sym eight_is) ∙ c.place_bytes-eight.ensures.says ∙ place in
    let held : Holds (world old).store (length (world old).store) c.args.area.now mid =
    subst (λ (at : ℕ). Holds (world old).store at c.args.area.now mid) place (subst (λ (s : List ℕ). Holds s start c.args.area.now mid) same (c.in_ok-db_write.ensures.written tells)) in
    both c.write_through.result (c.write_through.ensures.written tells) (c.write_through.ensures.durable tells)
    (λ holds pins. record {
      bytes =
          holds_both commits (world old).store rests.bytes c.args.area.now eight (length-bytes_high_first 8 (length (world old).store)) says mid
          (high_written commits (world old).store rests.bytes c.args.area.now eight (length-bytes_high_first 8 (length (world old).store)) says mid held) (world c.write_through.new.site).store
          (subst (λ (e : List ℕ). Holds mid 9 e (world c.write_through.new.site).store) eight_is holds);
      durable = pins;
    })

pub returns-clause-long : goal.returns-clause-long
returns-clause-long g c = λ tells.
    let same = ap (λ (w : World). length w.store) (c.db_len.ensures.same tells) in
    let place = c.in_ok-start.ensures.bytes tells in
    let torn = whole_torn c.in_ok-start.start (g.S.Site.world c.db_len.new.self).store c.args.area.now (g.S.Site.world c.db_write.new.self).store (omega (arith, same, place)) (c.in_ok-db_write.ensures.written tells) in
    on_ok_weaker c.write_through.result (λ written. omega (arith, c.requires.inside tells, same, torn.no_shorter, (c.write_through.ensures.step tells).torn.no_shorter)) (c.write_through.ensures.written tells)
