-- Worlds that look alike to a level, by the stored tuples of classes that it dominates.
use Rattle.std.proofs.Common.{◌≡◌, ℕ, true, refl, sym, ◌∙◌}
use Rattle.mls_lattice.specs.Labels.{Labels, below, AreDistinct}
use Rattle.mls_lattice.specs.Policy.{Name}
use Rattle.mls_filterview.specs.View.{low}
use Rattle.mls_filterview.proofs.LevelLemmas.{low_from_views, views_from_low}
use Rattle.mls_audit.specs.Entry.{visible}
use Rattle.mls_certcheck.specs.Site.{Site, site_labels}
use Rattle.mls_machine.specs.Machine.{World}
use Rattle.mls_machine.specs.Observation.{AreStored, AgreeAt}

pub record LowAgree (ls : Labels) (c : ℕ) (v w : World) : Type 0 where
  pub tables : (relation : ℕ) → low ls c (v.db relation) ≡ low ls c (w.db relation)
  pub sessions : (level : ℕ) (name : Name) → below ls level c ≡ true → v.sessions level name ≡ w.sessions level name
  pub entries : visible ls c v.audit ≡ visible ls c w.audit

pub lows_same : (ls : Labels) (c : ℕ) (v : World) → LowAgree ls c v v
lows_same ls c v = record { tables = λ r. refl; sessions = λ l n b. refl; entries = refl }

pub lows_sym : {ls : Labels} {c : ℕ} {v w : World} → LowAgree ls c v w → LowAgree ls c w v
lows_sym h = record {
  tables = λ r. sym (h.tables r);
  sessions = λ l n b. sym (h.sessions l n b);
  entries =
      sym h.entries;
}

pub lows_trans : {ls : Labels} {c : ℕ} {u v w : World} → LowAgree ls c u v → LowAgree ls c v w → LowAgree ls c u w
lows_trans h k = record {
  tables = λ r. h.tables r ∙ k.tables r;
  sessions = λ l n b. h.sessions l n b
      ∙ k.sessions l n b;
  entries = h.entries ∙ k.entries;
}

-- ---- the views tell the low tuples, and these tell the views

pub to_low : (site : Site) → AreDistinct (site_labels site) → (c : ℕ) (v w : World) → AreStored site v.db
    → AreStored site w.db
    → AgreeAt (site_labels site) c v w → LowAgree (site_labels site) c v w
to_low site distinct c v w sv sw h = record {
  tables = λ relation. low_from_views (site_labels site) distinct _ _ (v.db relation) (w.db relation) (sv relation)
      (sw relation) c (h.views relation);
  sessions = h.sessions;
  entries = h.entries;
}

pub from_low : (site : Site) (c : ℕ) (v w : World) → AreStored site v.db → AreStored site w.db
    → LowAgree (site_labels site) c v w → AgreeAt (site_labels site) c v w
from_low site c v w sv sw h = record {
  views = λ relation. views_from_low (site_labels site) _ _ (v.db relation) (w.db relation) (sv relation)
      (sw relation) c (h.tables relation);
  sessions = h.sessions;
  entries = h.entries;
}
