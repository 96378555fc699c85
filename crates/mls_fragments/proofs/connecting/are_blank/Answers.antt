use Rattle.std.proofs.Common.{◌↔◌, IsTrue, subst}
use Rattle.sqlite_pool.specs.Opening.{IsBlankFile}
use Rattle.sqlite.specs.Files.{image_of}
use Rattle.mls_fragments.proofs.connecting.are_blank.Goals as goal

pub returns-in-Ok-clause-blank : goal.returns-in-Ok-clause-blank
returns-in-Ok-clause-blank g c clean =
    subst (λ size. IsTrue c.in-Ok.is_blank ↔ IsBlankFile size (image_of g.D.Disk c.args.files.now)) c.page_size.ensures
    (c.in-Ok.ensures.ok clean)
