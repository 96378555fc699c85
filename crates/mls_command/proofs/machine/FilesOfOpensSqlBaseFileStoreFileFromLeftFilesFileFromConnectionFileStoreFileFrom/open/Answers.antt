use Rattle.sqlite.specs.WalFiles.{image_at}
use Rattle.mls_fragments.specs.Again.{FindsHoldings}
use Rattle.mls_fragments.proofs.HoldingsLemmas.{base_is_taken}
use Rattle.mls_command.proofs.machine.FilesOfOpensSqlBaseFileStoreFileFromLeftFilesFileFromConnectionFileStoreFileFrom.open.Goals as goal

pub returns-in-Ok-clause-held : goal.returns-in-Ok-clause-held
returns-in-Ok-clause-held g c clean =
    base_is_taken (FindsHoldings (image_at g.F.Start)) c.args.policy.now c.args.file.now c.in-Ok.base
    (c.in-Ok.ensures.over clean)
