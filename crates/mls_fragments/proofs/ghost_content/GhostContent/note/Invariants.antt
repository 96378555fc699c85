use Rattle.mls_fragments.proofs.ghost_content.GhostContent.note.Given as goal

abbrev pub ghost-keep : goal.ghost-keep
ghost-keep g a = g.changes
