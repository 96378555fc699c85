use Rattle.std.proofs.Common.{◌≡◌, ◌≤◌, true, drop}
use Rattle.mls_filterview.specs.Calls.{ChangesAt}
use Rattle.mls_filterview.specs.Content.{with_relation}
use Rattle.mls_updates.specs.Steps.{set_each}
use Rattle.mls_updates.proofs.setting.set_each.Given as goal

abbrev pub invariant-loop-left : goal.invariant-loop-left
invariant-loop-left g l =
    let s = (g.B.Base.seen l.fn.base).state in
    let t = (g.B.Base.seen l.base).state in
    record {
      clean : (g.B.Base.seen l.base).is_clean → (g.B.Base.seen l.fn.base).is_clean;
      about : (g.B.Base.seen l.base).is_clean → (g.B.Base.seen l.base).about ≡ (g.B.Base.seen l.fn.base).about;
      access : ChangesAt g.B.Base.seen l.place.class l.fn.base l.base;
      count : (g.B.Base.seen l.fn.base).failures ≤ (g.B.Base.seen l.base).failures;
      begun : t.begun ≡ true;
      way : (g.B.Base.seen l.base).is_clean → t ≡ with_relation s l.relation (set_each l.place (drop l.left l.sets)
          (s.now.db l.relation));
    }
