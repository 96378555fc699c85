use Rattle.mls_fragments.proofs.noted.Noted.copy.Given as goal

abbrev pub ghost-note : goal.ghost-note
ghost-note a = a._seen.now.changes
