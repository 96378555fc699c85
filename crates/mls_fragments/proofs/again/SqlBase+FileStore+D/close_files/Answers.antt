use Rattle.std.proofs.Common.{IsTrue, subst, sym}
use Rattle.mls_fragments.specs.Based.{state_of}
use Rattle.mls_fragments.specs.Holdings.{holdings_of}
use Rattle.mls_fragments.proofs.AgainLemmas.{clean_store, closed_keep, unclosed_find}
use Rattle.mls_fragments.proofs.again.SqlBase+FileStore+D.close_files.Goals as goal

pub returns-in-Ok-clause-clean : goal.returns-in-Ok-clause-clean
returns-in-Ok-clause-clean g c clean = c.settled_files.ensures.clean (c.in-Ok.ensures.copied clean).was_clean

pub returns-in-Ok-clause-kept : goal.returns-in-Ok-clause-kept
returns-in-Ok-clause-kept g c clean =
    let row = c.settled_files.ensures.row clean in
    record {
      row = row.0;
      base = row.1;
      kept = λ closed.
          let copied = c.in-Ok.ensures.copied closed in
          let held = c.settled_files.ensures.held copied.was_clean copied.was_open row.0 row.1 in
          let settled = c.settled_files.ensures.settled copied.was_clean copied.was_open in
          closed_keep c.settled_files.result (holdings_of row.0 (state_of c.args.self).now) settled
          (c.settled_files.ensures.sound copied.was_open) held c.in-Ok.files copied;
    }

pub returns-in-Err-clause-unclosed : goal.returns-in-Err-clause-unclosed
returns-in-Err-clause-unclosed g c =
    let conn = c.settled_files.result in
    let shut = c.in-Err.ensures.unclosed in
    record {
      clean = λ closed. c.settled_files.ensures.clean (c.in-Err.ensures.was_clean closed);
      may = λ clean.
          let row = c.settled_files.ensures.row clean in (
            row.0,
            row.1,
            record {
              last = shut.0;
              files_are = shut.1;
              sound = λ closed. shut.2.sound (clean_store shut.0 c.in-Err.refused.1 shut.1 closed);
              finds = λ closed was_open trees may.
                  let on = subst IsTrue (sym c.settled_files.ensures.is_open) was_open in
                  let disk = c.in-Err.ensures.was_clean closed in
                  let held = c.settled_files.ensures.held disk on row.0 row.1 in
                  let settled = c.settled_files.ensures.settled disk on in
                  unclosed_find conn (holdings_of row.0 (state_of c.args.self).now) settled
                  (c.settled_files.ensures.sound on) held g.met.D.Disk.seen_may_stay on trees
                  (shut.2.quiet.outcomes trees may);
            },
          );
    }
