use Rattle.std.proofs.Common.{[], refl, sym, subst}
use Rattle.std.proofs.KnownBytes.{Appends-nil}
use Rattle.mls_runs.specs.declared.shell_session.Fate.{Fate}
use Rattle.mls_runs.specs.Marks.{mark_of, IsMarked}
use Rattle.mls_runs.proofs.marks.write_mark.Goals as goal

pub returns-in-TooLong : goal.returns-in-TooLong
returns-in-TooLong g c =
    subst (λ (f : Fate). IsMarked (mark_of f) (g.W.Write.contents c.args.out.now)
    (g.W.Write.contents c.write_bytes.new.out) c.write_bytes.result) (sym c.in-TooLong.is) c.write_bytes.ensures

pub returns-in-Err : goal.returns-in-Err
returns-in-Err g c = record {
  cut = record { part = []; rest = mark_of c.args.fate.now; appends = Appends-nil _; whole = refl };
  none = λ n. refl;
  no_store = λ is. cc;
}
