use Rattle.std.proofs.Common.{ap, subst₂, ◌∙◌}
use Rattle.sqlite_store.specs.Listed.{catalog_rows}
use Rattle.sqlite_store.specs.Listing.{listed_from}
use Rattle.sqlite_trees.proofs.Doubt.{no_doubt}
use Rattle.sqlite.specs.WalFiles.{outcomes}
use Rattle.sqlite.specs.WalReads.{AreClean}
use Rattle.mls_fragments.proofs.CreatingLemmas.{clean_before, leaves_blank}
use Rattle.mls_fragments.proofs.connecting.made.Goals as goal

pub returns-in-Ok-create-clause-made : goal.returns-in-Ok-create-clause-made
returns-in-Ok-create-clause-made g c clean =
    let e = c.in-Ok-create.ensures in
    let fresh = c.in-Ok.ensures in
    record {
      honest = clean_before c.args.files c.in-Ok.fresh fresh.files (e.honest clean);
      fresh = record {
        sound = e.ready.sound (no_doubt _ clean);
        numbered = e.numbered;
        clean = e.ready.clean;
        unmarked = e.ready.unmarked;
      };
      is_open = e.ready.is_open (no_doubt _ clean);
      empty = (
        λ tree low. ap (λ d. d tree) e.ready.clean ∙ e.empty clean tree low,
        rw clean (catalog_rows _ _ _ ∙ ap (listed_from 0) (e.schema ∙ fresh.none)),
      );
    }

pub returns-in-Err-create-clause-left : goal.returns-in-Err-create-clause-left
returns-in-Err-create-clause-left g c clean =
    let e = c.in-Err-create.ensures in
    let fresh = c.in-Ok.ensures in
    let blank = c.requires.blank (clean_before c.args.files c.in-Ok.fresh fresh.files (e.falls clean)) in (
      blank,
      λ left may. leaves_blank c.args.files c.in-Ok.fresh fresh.files fresh.size fresh.none blank _
          (e.unharmed clean) left may,
    )

pub returns-in-Err-clause-left : goal.returns-in-Err-clause-left
returns-in-Err-clause-left g c clean =
    let back = c.in-Err.ensures.back in (
      c.requires.blank (subst₂ (λ log db. AreClean g.D.Disk log db) back.0 back.1 clean),
      λ image may. subst₂ (λ log db. outcomes g.D.Disk log db image) back.0 back.1 may,
    )
