use Rattle.mls_sessions.proofs.batch.found_by.Goals as goal

pub find-requires-clause-can : goal.find-requires-clause-can
find-requires-clause-can g c = record {
  label = c.requires.label;
  content = λ h. (c.requires.found.sound h).content c.args.relation;
  views = c.requires.found.views;
}
