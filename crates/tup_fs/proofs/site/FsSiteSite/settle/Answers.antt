use Rattle.std.proofs.Common.{◌≡◌, OnErr, subst}
use Rattle.tup_fs.proofs.Telling.{refused_as_told}
use Rattle.tup_fs.proofs.site.FsSiteSite.settle.Goals as goal

pub returns-clause-kept : goal.returns-clause-kept
returns-clause-kept g c =
    refused_as_told (c.settle-done.new.self.places ≡ c.args.self.now.touched.places) c.settle-done.result c.told_of_sync.result c.told_of_sync.ensures.error
    (subst (λ t. OnErr c.settle-done.result (c.settle-done.new.self.places ≡ t.places)) c.begin.ensures.touched c.settle-done.ensures.kept)
