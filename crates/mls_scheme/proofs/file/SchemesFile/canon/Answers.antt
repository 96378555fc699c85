use Rattle.std.proofs.Common.{Global}
use Rattle.std.proofs.lemmas.Str.{IsUtf8-string_bytes}
use Rattle.mls_scheme.proofs.file.SchemesFile.canon.Goals as goal

pub returns-clause-unicode : goal.returns-clause-unicode
returns-clause-unicode c = rw c.into_bytes.ensures.value (IsUtf8-string_bytes {Z = Global} c.relations_to.new.text)
