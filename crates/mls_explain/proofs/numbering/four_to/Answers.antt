use Rattle.std.proofs.Common.{◌≡◌, ◌++◌, string_bytes, OnOk, subst}
use Rattle.mls_explain.proofs.TellingLemmas.{four_written}
use Rattle.mls_explain.proofs.numbering.four_to.Goals as goal

pub returns : goal.returns
returns c = subst (λ t. OnOk c.write.result (string_bytes c.write.new.self ≡ string_bytes c.args.text.now ++ t))
    (four_written c.args.number c.laid_out.ensures) c.write.ensures.bytes
