use Rattle.std.proofs.Common.{subst}
use Rattle.sqlite.specs.Files.{HoldsDatabase}
use Rattle.mls_fragments.proofs.AgainLemmas.{clean_store, holds_commit}
use Rattle.mls_fragments.proofs.again.let_go.Goals as goal

pub returns : goal.returns
returns g c clean =
    let last = c.into_store.result in
    let shut = clean_store last c.close.result c.close.ensures clean in
    record {
      last = last;
      files_are = c.close.ensures;
      closed = record { quiet = c.into_store.ensures.quiet; sound = c.into_store.ensures.sound };
      holds = λ on image may.
          subst (λ trees. ∥ HoldsDatabase image trees ∥₁) ((c.into_store.ensures.undone.kept shut).committed on)
          (holds_commit last g.met.D.Disk.seen_may_stay on (c.into_store.ensures.numbered shut)
          (c.into_store.ensures.sound shut) c.close.result c.close.ensures clean image may);
    }
