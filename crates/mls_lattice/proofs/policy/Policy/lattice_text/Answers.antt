use Rattle.std.proofs.Common.{Global}
use Rattle.std.proofs.lemmas.Str.{IsUtf8-string_bytes}
use Rattle.mls_lattice.proofs.policy.Policy.lattice_text.Goals as goal

pub returns-clause-unicode : goal.returns-clause-unicode
returns-clause-unicode c = rw c.into_bytes.ensures.value (IsUtf8-string_bytes {Z = Global} c.labels_to.new.text)
