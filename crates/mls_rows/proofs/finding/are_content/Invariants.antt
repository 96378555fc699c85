use Rattle.std.proofs.Common.{ℕ, ◌<◌, map}
use Rattle.mls_lattice.specs.Policy.{labels_of}
use Rattle.mls_scheme.specs.Scheme.{scheme_of}
use Rattle.mls_filterview.specs.Stored.{IsContent}
use Rattle.mls_rows.specs.Changes.{table_in}
use Rattle.mls_rows.proofs.finding.are_content.Given as goal

abbrev pub invariant-loop-relation : goal.invariant-loop-relation
invariant-loop-relation l = (relation : ℕ) → relation < l.relation → IsContent (labels_of l.policy)
    (scheme_of l.schemes relation) (table_in (map (λ t. t.entries) l.tables) relation)
