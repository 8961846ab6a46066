-- What holds of a board that was just made.
use Rattle.std.proofs.Common.{◌≡◌, List, [], None, refl, sym, ap, ◌∙◌, subst, ⊎_elim, inl, inr, arith}
use Rattle.std.specs.Prelude.{IsTrue}
use Rattle.std.specs.FinMap as finite
use Rattle.std.proofs.lemmas.Bool.{true≢false}
use Rattle.tup_site.specs.World.{World}
use Rattle.tup_site.specs.declared.site.Site.{Ghosts as Site}
use Rattle.tup_runner.specs.declared.runner.Runner.{Ghosts as Runner}
use Rattle.tup_table.specs.Table.{entries_in}
use Rattle.tup_graph.specs.Opening.{IsGraphOf}
use Rattle.tup_stored_graph.specs.Crash.{IsStoreOf}
use Rattle.tup_stored_graph.specs.Held.{Held}
use Rattle.tup_stored_graph.proofs.Crashes.{as_it_was}
use Rattle.tup_core.specs.declared.event.CoreEvent.{CoreEvent}
use Rattle.tup_core.specs.declared.plan.Plan.{Plan}
use Rattle.tup_core.proofs.Entries.{stamps_of_entries}
use Rattle.tup_schedule.specs.Course.{CourseState}
use Rattle.tup_board.specs.Board.{BoardState}
use Rattle.tup_board.specs.Calls.{opened_as}
use Rattle.tup_board.specs.Come.{HasComeTo}
use Rattle.tup_board.specs.Images.{IsImageOver}
use Rattle.tup_board.specs.Sound.{IsOpening, IsSound}

-- ---- a board at its opening
module _ {S R : Type 0} (site : Site S) (runner : Runner R) (plan : Plan) (graph : Held) (s : S) (opening : IsOpening site (opened_as plan graph s)) (is : IsGraphOf (entries_in graph.table) graph.nodes)
    (present : IsTrue site.tells → site.left_since s (site.moment s) (site.world s)) where
  abbrev board : BoardState S
  board = opened_as plan graph s

  -- each world that a crash now may leave has the graph
  store_in : IsTrue site.tells → (w : World) → site.left_since s (site.moment s) w → IsStoreOf graph.nodes w.store
  store_in told w left = ⊎_elim (λ one. one) (λ one. one) ((as_it_was site.world site.moment site.left_since graph.table graph.nodes s (opening.stands told) is graph.nodes).only.each w left)

  come : HasComeTo board graph.nodes
  come = record {
    beside = record { readings = refl; rules = refl; places = refl; created = refl; owned = λ path other. refl; seen = λ path other. refl; runs = λ number none. refl; flags = λ number none. refl };
    each = λ number rule here. inl (record { run = refl; flag = refl; owned = λ path writes. refl; seen = λ path writes. refl });
    producers = λ number other rule here reached unflagged produced. absurd (true≢false (sym reached ∙ opening.plan.reach number ∙ unflagged));
  }

  image : IsTrue site.tells → (w : World) → site.left_since s (site.moment s) w → IsImageOver board w w graph.nodes
  image told w left = record {
    store = store_in told w left;
    come = come;
    others = λ path free. refl;
    made = λ number path makes reached unflagged. absurd (true≢false (sym reached ∙ opening.plan.reach number ∙ unflagged));
    unmade = λ number path makes flagged. inr refl;
  }

  pub sound_opened : IsSound site runner (opened_as plan graph s)
  sound_opened = record {
    opening = opening;
    run = tt;
    honest = λ told means. tt;
    files = λ told path free. sym (opening.seen told path) ∙ sym (stamps_of_entries graph.nodes.seen path);
    fresh = opening.fresh;
    stands = λ told none. opening.stands told;
    present = λ none. record { come = come; flags = λ number. sym (opening.plan.reach number) };
    lost = λ commit here. cc;
    now = λ told. (graph.nodes, image told (site.world s) (present told));
    images = λ told w left. (w, left, graph.nodes, image told w left);
    since = λ told t w before left. inl left;
    cause = λ cause stopped. cc;
    counted = omega arith;
    later = λ told. omega arith;
    known = λ told content knows. knows;
  }

-- ---- the same of what was remembered of graph and site, and of a course that begins
module _ {S R : Type 0} (site : Site S) (runner : Runner R) (course : CourseState) (graph first_graph : Held) (s first_site : S)
    (graph_is : first_graph ≡ graph) (site_is : first_site ≡ s) (none : course.history ≡ []) where
  abbrev pub made : BoardState S
  made = record { opening = record { plan = course.plan; graph = first_graph; site = first_site }; history = course.history; site = s; graph = graph; lost = None }

  pub made_as : made ≡ opened_as course.plan graph s
  made_as =
      ap (λ (g : Held). record made { opening = record { plan = course.plan; graph = g; site = first_site } }) graph_is
      ∙ ap (λ (t : S). record made { opening = record { plan = course.plan; graph = graph; site = t } }) site_is
      ∙ ap (λ (h : List CoreEvent). record (opened_as course.plan graph s) { history = h }) none

  pub made_files : course.files ≡ finite.entries graph.nodes.seen → course.files ≡ finite.entries first_graph.nodes.seen
  made_files files = files ∙ sym (ap (λ (g : Held). finite.entries g.nodes.seen) graph_is)

  pub made_sound : IsOpening site (opened_as course.plan graph s) → IsGraphOf (entries_in graph.table) graph.nodes → (IsTrue site.tells → site.left_since s (site.moment s) (site.world s)) → IsSound site runner made
  made_sound opening is present = subst (IsSound site runner) (sym made_as) (sound_opened site runner course.plan graph s opening is present)
