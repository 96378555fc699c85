-- What is kept of views after what an event changes.
use Rattle.std.proofs.Common.{ℕ, ◌<◌, length, Result, Ok, Err, IfOk, OnOk, ap}
use Rattle.mls_lattice.specs.Policy.{Policy, labels_of}
use Rattle.mls_scheme.specs.Scheme.{Scheme, Schemes, scheme_of, AreUnder}
use Rattle.mls_scheme.specs.Writes.{key_class_of}
use Rattle.mls_filterview.specs.declared.base.BaseFault.{BaseFault}
use Rattle.mls_filterview.specs.Content.{Seen}
use Rattle.mls_filterview.specs.Stored.{IsContent}
use Rattle.mls_updates.specs.Writes.{Write, Insert, Update, Delete}
use Rattle.mls_updates.specs.Calls.{CanWrite}
use Rattle.mls_queries.specs.Views.{Kept, AreViews}
use Rattle.mls_queries.proofs.WrittenLemmas.{kept_same}
use Rattle.mls_translang.specs.declared.event.Event.{Event}
use Rattle.mls_translang.specs.Event.{IsWriteOf}
use Rattle.mls_machine.specs.declared.reply.Denial.{Denial}
use Rattle.mls_machine.specs.declared.reply.Reply.{Reply}
use Rattle.mls_certcheck.specs.Site.{Site}
use Rattle.mls_machine.specs.Machine.{World, no_sessions, denied}
use Rattle.mls_sessions.specs.Turns.{IsStepOver}

module _ {B : Type 0} (seen : B → Seen) where
  -- a denial leaves the database
  pub denied_views : (site : Site) (event : Event) (user : ℕ) (denial : Denial) (a c : B) (es : Kept)
      (r : Result Reply BaseFault) → ((seen c).is_clean → (seen a).is_clean)
      → ((seen c).is_clean → IfOk r (IsStepOver site (λ w. denied site w event user denial) (seen a).state.now
      (seen c).state.now))
      → AreViews site.policy seen a es → OnOk r (AreViews site.policy seen c es)
  denied_views site event user denial a c es (Ok r) back done views = kept_same site.policy seen a c es back
      (λ k. ap (λ (w : World). w.db) ((done k).world no_sessions)) views
  denied_views site event user denial a c es (Err e) back done views = tt

-- ---- a write that fits its scheme

-- the class of its key is declared
pub key_class_within : (policy : Policy) (scheme : Scheme) (level : ℕ) → level < length policy.labels → (wr : Write)
    → IsWriteOf policy scheme wr → key_class_of level wr < length policy.labels
key_class_within policy scheme level within (Insert key values) fits = within
key_class_within policy scheme level within (Update key key_class from sets) fits = fits.1
key_class_within policy scheme level within (Delete key key_class) fits = fits.1

-- it may be made, over content of the stored form
module _ {B : Type 0} (seen : B → Seen) (base : B) (policy : Policy) (schemes : Schemes) (relation level : ℕ)
    (within : level < length policy.labels) (declared : relation < length schemes)
    (under : AreUnder (length policy.labels) schemes) (stored : (seen base).is_clean → IsContent (labels_of policy)
    (scheme_of schemes relation) ((seen base).state.now.db relation)) where
  pub can_write : (wr : Write) → IsWriteOf policy (scheme_of schemes relation) wr
      → CanWrite seen base policy schemes relation level wr
  can_write (Insert key values) fits = record {
    label = within;
    declared = declared;
    under = under;
    kinds = fits;
    stored = stored;
  }
  can_write (Update key key_class from sets) fits = record {
    label = within;
    key_class = fits.1;
    from = fits.2;
    declared = declared;
    under = under;
    named = fits.3.some;
    fits = fits.3.known;
    key = fits.0;
    kinds = fits.3.kinds;
    stored = stored;
  }
  can_write (Delete key key_class) fits = record {
    label = within;
    key_class = fits.1;
    declared = declared;
    key = fits.0;
    stored = stored;
  }
