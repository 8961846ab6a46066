use Rattle.std.proofs.Common.{◌≡◌, List, ℕ, [], ◌∷◌, ◌++◌, take, drop, refl, ap, ◌∙◌, arith}
use Rattle.tup_site.specs.Store.{Holds}
use Rattle.tup_table.specs.Store.{header}
use Rattle.tup_table.specs.Table.{IsAtRest}
use Rattle.tup_table.proofs.table.Table.make.Goals as goal

-- what is written where nothing stood
made_bytes : (old new : List ℕ) → old ≡ [] → Holds old 0 (header ++ 0 ∷ []) new → new ≡ header ++ 0 ∷ []
made_bytes old new none holds = holds ∙ ap (λ (s : List ℕ). take 0 s ++ ((header ++ 0 ∷ []) ++ drop 18 s)) none

at_rest : (new : List ℕ) → new ≡ header ++ 0 ∷ [] → IsAtRest [] new
at_rest new is = record {
  fits = tt;
  head = header;
  is_head = record { long = refl; first = refl };
  unswitched = λ e. (let no : 0 ≡ 1 = e in omega (arith, no));
  gate = 0;
  rest = [];
  closed = λ e. omega (arith, e);
  whole = is;
}

pub returns-clause-stands : goal.returns-clause-stands
returns-clause-stands g c = λ tells. record {
  commits = [];
  rests = record {
    bytes = at_rest (g.S.Site.world c.write_through.new.site).store (made_bytes (g.S.Site.world c.args.site.now).store (g.S.Site.world c.write_through.new.site).store (c.requires tells) (c.in_ok-write_through.ensures.written tells));
    durable = c.in_ok-write_through.ensures.durable tells;
  };
  entries = c.new.ensures;
  gate = refl;
}
