-- What may be asked for what a query finds.
use Rattle.std.specs.Prelude.{ℕ, ◌<◌, length}
use Rattle.mls_lattice.specs.Policy.{Policy, labels_of}
use Rattle.mls_scheme.specs.Scheme.{Scheme}
use Rattle.mls_filterview.specs.Content.{Seen}
use Rattle.mls_filterview.specs.Stored.{IsContent}
use Rattle.mls_queries.specs.Views.{Kept, AreViews}

-- a declared label looks at the content of a relation, with views that are kept of it
pub record CanFind {Self : Type 0} (seen : Self → Seen) (base : Self) (policy : Policy) (scheme : Scheme)
    (relation c : ℕ) (kept : Kept) : Type 0 where
  pub label : c < length policy.labels
  pub content : (seen base).is_clean → IsContent (labels_of policy) scheme ((seen base).state.now.db relation)
  pub views : AreViews policy seen base kept
