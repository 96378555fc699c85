use Rattle.std.proofs.Common.{◌≡◌, ◌++◌, IsUtf8, string_bytes}
use Rattle.std.specs.Str.Iter.{chars_rest}
use Rattle.mls_advice.specs.Excerpt.{shown}
use Rattle.mls_advice.proofs.shown.text_to.Given as goal

abbrev pub invariant-loop-character : goal.invariant-loop-character
invariant-loop-character l = IsUtf8 (chars_rest l.character-iterator)
    × (string_bytes l.text ++ shown (chars_rest l.character-iterator) ≡ string_bytes l.fn.text ++ shown l.words)
