use Rattle.std.proofs.Common.{List, sym, ap, ◌∙◌, subst}
use Rattle.mls_scheme.specs.Scheme.{Scheme, AreSchemes}
use Rattle.mls_scheme.specs.Extending.{schemes_before, AtMost}
use Rattle.mls_scheme.proofs.OlderLemmas.{counts_few, before_are}
use Rattle.mls_scheme.proofs.scheme.Schemes.before.Goals as goal

pub new-requires : goal.new-requires
new-requires c =
    let valid = before_are c.args.counts.now c.args.self.now c.requires.some
    (counts_few AtMost c.args.counts.now c.args.self.now c.requires.first) c.use_invariant.ensures in
    subst AreSchemes (sym (c.in_ok-older.ensures
    ∙ ap (λ (xs : List Scheme). schemes_before c.args.counts.now xs) c.relations.ensures)) valid
