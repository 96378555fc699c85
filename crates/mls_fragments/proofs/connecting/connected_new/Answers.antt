use Rattle.std.proofs.Common.{sym, ap, ◌∙◌, arith}
use Rattle.sqlite_trees.specs.Objects.{catalog_tree}
use Rattle.sqlite_trees.proofs.Doubt.{clean_of, no_doubt}
use Rattle.sqlite_store.specs.Laws.{settled_at}
use Rattle.sqlite.specs.FileStore.{view}
use Rattle.mls_fragments.proofs.connecting.connected_new.Goals as goal

pub over-requires : goal.over-requires
over-requires g c none = (c.in-Ok.ensures.made (clean_of _ none)).fresh

pub returns-in-Ok-over-clause-made : goal.returns-in-Ok-over-clause-made
returns-in-Ok-over-clause-made g c clean =
    let made = c.in-Ok.ensures.made (clean_of (view c.in-Ok.store).is_clean (omega (arith, c.in-Ok-over.ensures.clean)))
    in
    let opened = c.in-Ok-over.ensures.opens clean in
    let trees = c.in-Ok-over.ensures.trees clean in
    record {
      honest = made.honest;
      empty = (
        λ tree low. ap (λ d. d tree) trees ∙ made.empty.0 tree low,
        ap (λ d. d catalog_tree) trees
            ∙ made.empty.1,
      );
      sound = (opened.1 opened.0.is_open).0;
    }

pub returns-in-Err-over-clause-left : goal.returns-in-Err-over-clause-left
returns-in-Err-over-clause-left g c late =
    let quiet = c.in-Err-over.ensures.unharmed in
    let now = no_doubt _ late in
    let made = c.in-Ok.ensures.made (clean_of (view c.in-Ok.store).is_clean (omega (arith, quiet.clean))) in (
      c.requires.blank made.honest,
      λ found may.
          let is = settled_at c.in-Ok.store g.met.D.Disk.seen_may_stay found made.is_open (quiet.outcomes found may)
          ∙ sym made.fresh.clean in
          (λ tree low. ap (λ d. d tree) is ∙ made.empty.0 tree low, ap (λ d. d catalog_tree) is ∙ made.empty.1),
    )
