use Rattle.std.proofs.Common.{◌≡◌, ◌≤◌, true, drop}
use Rattle.mls_filterview.specs.Calls.{ChangesAmong}
use Rattle.mls_filterview.specs.Content.{with_relation}
use Rattle.mls_updates.specs.Steps.{drop_each, AreAlone}
use Rattle.mls_updates.proofs.dropping.drop_each.Given as goal

abbrev pub invariant-loop-class : goal.invariant-loop-class
invariant-loop-class g l =
    let s = (g.B.Base.seen l.fn.base).state in
    let t = (g.B.Base.seen l.base).state in
    record {
      clean : (g.B.Base.seen l.base).is_clean → (g.B.Base.seen l.fn.base).is_clean;
      about : (g.B.Base.seen l.base).is_clean → (g.B.Base.seen l.base).about ≡ (g.B.Base.seen l.fn.base).about;
      access : ChangesAmong g.B.Base.seen l.classes l.fn.base l.base;
      count : (g.B.Base.seen l.fn.base).failures ≤ (g.B.Base.seen l.base).failures;
      begun : t.begun ≡ true;
      key : l.place.key ≡ l.fn.place.key;
      key_class : l.place.key_class ≡ l.fn.place.key_class;
      alone : (g.B.Base.seen l.base).is_clean → AreAlone l.fn.place (drop l.class-index l.classes)
          (t.now.db l.relation);
      way : (g.B.Base.seen l.base).is_clean
          → with_relation t l.relation (drop_each l.fn.place (drop l.class-index l.classes) (t.now.db l.relation))
          ≡ with_relation s l.relation (drop_each l.fn.place l.classes (s.now.db l.relation));
    }
