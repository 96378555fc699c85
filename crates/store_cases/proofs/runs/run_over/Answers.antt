use Rattle.store_cases.proofs.runs.run_over.Goals as goal

pub run_over_base-outcome-requires-clause-may : goal.run_over_base-outcome-requires-clause-may
run_over_base-outcome-requires-clause-may g c = record {
  serves = record {
    under = c.args.site.now.under;
    read = c.requires.prepared.read;
    certified =
        c.requires.prepared.certified;
  };
  fits = rw c.deref.ensures.value c.requires.prepared.fits;
  declared = tt;
}
