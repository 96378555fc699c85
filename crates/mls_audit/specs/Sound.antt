-- Sound content.
use Rattle.std.specs.Prelude.{length}
use Rattle.std.specs.List.{AllByRecursion}
use Rattle.mls_lattice.specs.Policy.{Policy, labels_of}
use Rattle.mls_scheme.specs.Scheme.{Schemes}
use Rattle.mls_filterview.specs.Content.{Content}
use Rattle.mls_filterview.specs.Stored.{AreContent}
use Rattle.mls_audit.specs.Spelling.{IsEntryOf}

-- relations of the stored form under their schemes, and an audit list of entries of declared labels
pub record IsSoundContent (policy : Policy) (schemes : Schemes) (c : Content) : Type 0 where
  pub content : AreContent (labels_of policy) schemes c.db
  pub entries : AllByRecursion (IsEntryOf (length policy.labels)) c.audit
