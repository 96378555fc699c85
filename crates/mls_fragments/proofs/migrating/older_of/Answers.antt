use Rattle.std.proofs.Common.{◌∙◌, sym, subst}
use Rattle.mls_lattice.specs.Extending as older_lattice
use Rattle.mls_scheme.specs.Extending as older_schemes
use Rattle.mls_fragments.proofs.migrating.older_of.Goals as goal

pub returns-in_default-clause-none : goal.returns-in_default-clause-none
returns-in_default-clause-none c none labels counts lattice schemes =
    c.in_ok-labels.ensures.none c.in_default.is labels
    (subst (λ text. older_lattice.Extends c.args.design.now.policy.now text labels)
    (sym (c.as_bytes.ensures.value ∙ c.as_str.ensures)) lattice)

pub returns-in_default-2-clause-none : goal.returns-in_default-2-clause-none
returns-in_default-2-clause-none c none labels counts lattice schemes =
    c.in_ok-counts.ensures.none c.in_default-2.is counts
    (subst (λ text. older_schemes.Extends c.args.design.now.policy.now c.args.design.now.file.now.schemes text counts)
    (sym (c.as_bytes-2.ensures.value ∙ c.as_str-2.ensures)) schemes)
