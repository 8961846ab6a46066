-- What holds of a board holds once its site was read: the world stays, and a crash leaves no more than before.
use Rattle.std.proofs.Common.{◌≡◌, ℕ, ◌≤◌, None, sym, ap, ◌∙◌, subst, ⊎_elim, inl, inr, arith}
use Rattle.std.specs.Prelude.{IsTrue, List}
use Rattle.std.specs.FinMap as finite
use Rattle.std.specs.Option.{option_map}
use Rattle.std.proofs.lemmas.Bool.{cases_lt}
use Rattle.tup_path.specs.Count.{Rose}
use Rattle.tup_path.specs.Name.{Content}
use Rattle.tup_stamp.specs.Stamp.{stamp}
use Rattle.tup_site.specs.Crash.{GoesOn, NoStep}
use Rattle.tup_site.specs.Known.{knows}
use Rattle.tup_site.specs.World.{World}
use Rattle.tup_site.specs.declared.site.Site.{Ghosts as Site}
use Rattle.tup_runner.specs.declared.runner.Runner.{Ghosts as Runner}
use Rattle.tup_table.proofs.Stands.{stands_on}
use Rattle.tup_access.specs.declared.verdict.Verdict.TheVariants.{Good}
use Rattle.tup_graph.specs.Graph.{GraphState}
use Rattle.tup_core.specs.declared.event.Cause.{Cause}
use Rattle.tup_core.specs.declared.event.Cause.TheVariants as causes
use Rattle.tup_core.specs.Honest.{IsHonest, EndsHonestly}
use Rattle.tup_board.specs.Board.{BoardState, plan_of, start}
use Rattle.tup_board.specs.Come.{HasComeTo}
use Rattle.tup_board.specs.Images.{IsImageOver, StandsUnmade}
use Rattle.tup_board.specs.Sound.{IsSound, IsTrueNow, Since}

-- a count that rose has risen over an earlier one, and goes on so
pub rose_since : (first before now : ℕ) → first ≤ before → Rose before now → Rose first now
rose_since first before now earlier (inl more) = inl (omega (arith, earlier, more))
rose_since first before now earlier (inr end) = inr end

pub rose_on : (first mid now : ℕ) → first ≤ mid → mid ≤ now → Rose first mid → Rose first now
rose_on first mid now early later (inl more) = inl (omega (arith, later, more))
rose_on first mid now early later (inr end) = ⊎_elim (λ more. inl (omega (arith, early, more))) (λ same. inr (omega (arith, later, same, end))) (cases_lt mid now)

module _ {S R : Type 0} (site : Site S) (runner : Runner R) (b : BoardState S) (sound : IsSound site runner b) (new : S)
    (earlier : (t u : ℕ) (w : World) → IsTrue site.tells → t ≤ u → site.left_since new u w → site.left_since new t w)
    (same : IsTrue site.tells → site.world new ≡ site.world b.site)
    (on : IsTrue site.tells → GoesOn site.moment site.left_since b.site new NoStep)
    (known : IsTrue site.tells → site.known new ≡ site.known b.site)
    (counted : site.faults b.site ≤ site.faults new) where
  -- the board whose site was read
  abbrev read : BoardState S
  read = record b { site = new }

  rose : Rose (site.faults b.opening.site) (site.faults b.site) → Rose (site.faults b.opening.site) (site.faults new)
  rose it = rose_on (site.faults b.opening.site) (site.faults b.site) (site.faults new) sound.counted counted it

  come_read : (g : GraphState) → HasComeTo b g → HasComeTo read g
  come_read g come = record { beside = come.beside; each = come.each; producers = come.producers }

  image_read : (v w : World) (g : GraphState) → IsImageOver b v w g → IsImageOver read v w g
  image_read v w g image = record { store = image.store; come = come_read g image.come; others = image.others; made = image.made; unmade = image.unmade }

  -- a crash leaves no more than before
  left_before : IsTrue site.tells → (t : ℕ) (w : World) → t ≤ site.moment b.opening.site → site.left_since new t w → site.left_since b.site t w
  left_before told t w before left = ⊎_elim (λ was. was) (λ more. absurd more.2) ((on told).since t w (let later = sound.later told in omega (arith, before, later)) left)

  back : IsTrue site.tells → (w : World) → Since site read w → Since site b w
  back told w = left_before told (site.moment b.opening.site) w (omega arith)

  now_before : IsTrue site.tells → (w : World) → site.left_since new (site.moment new) w → site.left_since b.site (site.moment b.site) w
  now_before told w left =
      ⊎_elim (λ was. was) (λ more. absurd more.2) ((on told).since (site.moment b.site) w (omega arith) (earlier (site.moment b.site) (site.moment new) w told (on told).later left))

  cause_read : (cause : Cause) → IsTrueNow site runner b cause → IsTrueNow site runner read cause
  cause_read causes.Site it = rose it
  cause_read (causes.TooLarge bytes) it = (
    it.0,
    λ told. let large = it.1 told in record {
      path = large.path;
      content = large.content;
      here = ap (λ (w : World). finite.get w.tree large.path) (same told) ∙ large.here;
      long = large.long;
      stands = large.stands;
    },
  )
  cause_read causes.Full it = λ told. let full = it told in (
    full.0,
    (on told).kept (site.moment b.opening.site) full.0 (sound.later told) full.1,
    record {
      graph = full.2.graph;
      stands = full.2.stands;
      before = full.2.before;
      after = full.2.after;
      seat = full.2.seat;
      number = full.2.number;
      run = full.2.run;
      whole = full.2.whole;
      kept = full.2.kept;
      full = ⊎_elim inl
          (λ end. inr (end.0, λ both. subst (λ (k : List Content). EndsHonestly runner.next k full.2.kept.rule full.2.kept.running None Good full.2.run.writes) (sym (known both.0)) (end.1 both)))
          full.2.full;
    },
  )
  cause_read causes.Bad it = it
  cause_read causes.Run it = it
  cause_read causes.Memory it = it

  pub sound_read : IsSound site runner read
  sound_read = record {
    opening = record { fresh = sound.opening.fresh; stands = sound.opening.stands; seen = sound.opening.seen; plan = sound.opening.plan; apart = sound.opening.apart };
    run = sound.run;
    honest = λ told means. subst (λ (k : List Content). IsHonest runner.next k (plan_of b) (start b) b.history) (sym (known told)) (sound.honest told means);
    files = λ told path free. ap (λ (w : World). option_map stamp (finite.get w.tree path)) (same told) ∙ sound.files told path free;
    fresh = sound.fresh;
    stands = λ told none.
        stands_on site.world site.moment site.left_since b.graph.table b.site new NoStep (λ v w none. absurd none) (λ t u w le left. earlier t u w told le left) (on told)
        (ap (λ (w : World). w.store) (same told)) (sound.stands told none);
    present = λ none. let present = sound.present none in record { come = come_read b.graph.nodes present.come; flags = present.flags };
    lost = λ commit here. let was = sound.lost commit here in record {
      cause = λ by. rose (was.cause by);
      pending = was.pending;
      run = λ run kept. let could = was.run run kept in record {
        before = could.before;
        after = could.after;
        seat = could.seat;
        whole = could.whole;
        kept = could.kept;
        ended = λ told. subst (λ (k : List Content). EndsHonestly runner.next k could.kept.rule could.kept.running None Good run.writes) (sym (known told.0)) (could.ended told);
      };
      torn = λ told w left.
          let image = was.torn told w (now_before told w left) in (
            image.0,
            image.1,
            image.2,
            image_read image.0 w image.2 image.3,
            subst (λ (present : World). StandsUnmade read (site.world b.opening.site) present image.2) (sym (same told)) image.4,
            image.5,
          );
    };
    now = λ told. let image = sound.now told in (image.0, image_read _ _ image.0 (subst (λ (w : World). IsImageOver b (site.world b.opening.site) w image.0) (sym (same told)) image.1));
    images = λ told w left. let image = sound.images told w (back told w left) in (image.0, image.1, image.2, image_read image.0 w image.2 image.3);
    since = λ told t w before left.
        ⊎_elim inl (λ image. inr (image.0, image.1, image.2, image_read image.0 w image.2 image.3)) (sound.since told t w before (left_before told t w before left));
    cause = λ cause stopped. cause_read cause (sound.cause cause stopped);
    later = λ told. let first = sound.later told in let more = (on told).later in omega (arith, first, more);
    known = λ told content had. subst (λ (k : List Content). IsTrue (knows k content)) (sym (known told)) (sound.known told content had);
    counted = let first = sound.counted in omega (arith, first, counted);
  }
