use Rattle.std.proofs.Common.{◌≡◌, ◌++◌, take, string_bytes, flat_map}
use Rattle.mls_certcheck.specs.Spelling.{byte_text}
use Rattle.mls_certcheck.proofs.writing.cats_to.Given as goal

-- what is written of the bytes so far
abbrev pub invariant-loop-byte : goal.invariant-loop-byte
invariant-loop-byte l = string_bytes l.text ≡ string_bytes l.fn.text ++ flat_map byte_text
    (take l.byte-index l.byte-items)
