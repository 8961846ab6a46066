use Rattle.tup_db.proofs.own.Own.new.Goals as goal

pub returns : goal.returns
returns c = (c.in_ok-format.ensures.ok, c.in_ok-format-2.ensures.ok, c.in_ok-format-3.ensures.ok, c.in_ok-format-4.ensures.ok, c.in_ok-format-5.ensures.ok)
