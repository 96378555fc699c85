use Rattle.std.proofs.Common.{inl, refl, sym, subst, ◌∙◌}
use Rattle.sqlite_wal.proofs.CleanLemmas.{both_clean}
use Rattle.sqlite.specs.Files.{AreFoundIn, HoldsDatabase, image_of, file_state}
use Rattle.sqlite.specs.declared.file.Leftover.TheVariants as left
use Rattle.sqlite.proofs.FileLemmas.{same_image}
use Rattle.mls_fragments.specs.Again.{unmade, unread}
use Rattle.mls_fragments.specs.Creating.{IsBlankImage}
use Rattle.mls_fragments.proofs.AgainLemmas.{clean_left}
use Rattle.mls_fragments.proofs.CreatingLemmas.{blank_before, leaves_before, never_blank}
use Rattle.mls_fragments.proofs.OpeningLemmas.{found_now}
use Rattle.mls_fragments.proofs.connecting.connected.Goals as goal

pub returns-in-Err-clause-unopened : goal.returns-in-Err-clause-unopened
returns-in-Err-clause-unopened g c =
    let read = c.are_blank.new.files in
    unread (left.Files read) refl (λ clean. leaves_before c.args.files read c.in-Err.ensures.log c.in-Err.ensures.db
    (left.Files read) (λ image may. may))

pub connected_new-requires-clause-blank : goal.connected_new-requires-clause-blank
connected_new-requires-clause-blank g c clean =
    let probe = c.in-Ok.ensures in
    subst IsBlankImage (sym (same_image probe.log probe.db)) ((probe.blank clean).0 c.if-is_new.true)

pub returns-in-Ok-connected_new-clause-found : goal.returns-in-Ok-connected_new-clause-found
returns-in-Ok-connected_new-clause-found g c clean =
    let made = c.in-Ok-connected_new.ensures.made clean in
    let blank = (c.in-Ok.ensures.blank made.honest).0 c.if-is_new.true in
    record {
      holds = λ trees held. absurd (never_blank (image_of g.D.Disk c.args.files) trees held blank);
      reads =
          inl (blank, made.empty);
      sound = made.sound;
    }

pub returns-in-Ok-connected_new-clause-clean : goal.returns-in-Ok-connected_new-clause-clean
returns-in-Ok-connected_new-clause-clean g c clean =
    both_clean _ _ _ _ c.in-Ok.ensures.log.clean c.in-Ok.ensures.db.clean
    (c.in-Ok-connected_new.ensures.made clean).honest

pub returns-in-Err-connected_new-clause-unopened : goal.returns-in-Err-connected_new-clause-unopened
returns-in-Err-connected_new-clause-unopened g c =
    let rest = c.in-Err-connected_new.left in
    let probe = c.in-Ok.ensures in
    unmade rest c.into_files.ensures (λ clean.
    let leaves = c.in-Err-connected_new.ensures.left (clean_left rest c.into_files.result c.into_files.ensures clean) in (
      subst IsBlankImage (same_image probe.log probe.db) leaves.0,
      blank_before c.args.files c.are_blank.new.files probe.log probe.db rest leaves.1,
    ))

pub returns-in-Ok-open_files-clause-found : goal.returns-in-Ok-open_files-clause-found
returns-in-Ok-open_files-clause-found g c clean =
    let opened = c.in-Ok-open_files.ensures.opened clean in
    let found = c.in-Ok-open_files.ensures.found clean in
    let probe = c.in-Ok.ensures in
    let s = file_state c.in-Ok-open_files.conn in
    let seen = same_image probe.log probe.db in
    let something : ¬ IsBlankImage (image_of g.D.Disk c.args.files) =
    λ blank. (let is = sym ((probe.blank found.honest).1 blank) ∙ c.if-is_new.false in cc) in
    found_now (image_of g.D.Disk c.args.files) s opened.0 opened.1 something
    (record {
      holds = λ trees held. found.holds trees (subst (λ i. HoldsDatabase i trees) (sym seen) held);
      reads =
          subst (λ i. AreFoundIn i s.committed.trees) seen found.reads;
    })

pub returns-in-Ok-open_files-clause-clean : goal.returns-in-Ok-open_files-clause-clean
returns-in-Ok-open_files-clause-clean g c clean =
    both_clean _ _ _ _ c.in-Ok.ensures.log.clean c.in-Ok.ensures.db.clean
    (c.in-Ok-open_files.ensures.found clean).honest

pub returns-in-Err-open_files-clause-unopened : goal.returns-in-Err-open_files-clause-unopened
returns-in-Err-open_files-clause-unopened g c =
    let rest = c.in-Err-open_files.left in
    let probe = c.in-Ok.ensures in
    let back = c.into_files-in-Err-open_files in
    unread rest back.ensures (λ clean.
    leaves_before c.args.files c.are_blank.new.files probe.log probe.db rest (c.in-Err-open_files.ensures.unharmed
    (clean_left rest back.result back.ensures clean)))
