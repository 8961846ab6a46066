use Rattle.tup_clean.proofs.queue.readers.Goals as goal

pub returns : goal.returns
returns c = record {
  many = c.in_ok-new.ensures.many;
  each = c.in_ok-new.ensures.readers;
  within = c.in_ok-new.ensures.within;
}
