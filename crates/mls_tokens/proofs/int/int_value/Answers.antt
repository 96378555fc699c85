use Rattle.std.proofs.Common.{rules}
use Rattle.mls_tokens.proofs.IntLemmas.{int_parsed}
use Rattle.mls_tokens.proofs.int.int_value.Goals as goal

pub returns-in-Ok : goal.returns-in-Ok
returns-in-Ok c = let h = rw c.in-Ok.is at
    (int_parsed c.args.text.now c.parse.result c.requires c.parse.ensures.value.0) in search rules

pub returns-in-Err : goal.returns-in-Err
returns-in-Err c = let h = rw c.in-Err.is at
    (int_parsed c.args.text.now c.parse.result c.requires c.parse.ensures.value.0) in h
