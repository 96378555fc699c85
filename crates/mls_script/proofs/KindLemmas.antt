-- Values that stand in a text are within the bounds of their kinds.
use Rattle.std.proofs.Common.{◌≡◌, ℕ, ◌^◌, true, List, length, Option, Some, None, refl, sym, ◌∙◌, arith, lt-ltb}
use Rattle.mls_scheme.specs.declared.value.Kind.TheVariants as kinds
use Rattle.mls_scheme.specs.declared.value.Value.{Value}
use Rattle.mls_scheme.specs.declared.value.Value.TheVariants as values
use Rattle.mls_scheme.specs.Value.{is_text}
use Rattle.mls_scheme.proofs.KindLemmas.{signed-from, text-from}
use Rattle.mls_tokens.specs.Writing.{IsText}
use Rattle.mls_parser.proofs.PassedLemmas.{IsSpelled}
use Rattle.mls_translang.specs.Event.{HasSomeKind}
use Rattle.mls_script.specs.Tokens.{value_token}

text_kind : (s : List ℕ) → IsText s → is_text s ≡ true
text_kind s h = sym (text-from s h.utf8) ∙ lt-ltb (length s) (2 ^ 32) (let short = h.short in omega arith)

pub value_kind : (v : Option Value) → IsSpelled (value_token v) → HasSomeKind v
value_kind None h = (kinds.Int, refl)
value_kind (Some (values.Int n)) h = (kinds.Int, signed-from n h.1.0)
value_kind (Some (values.Text s)) h = (kinds.Text, text_kind s h.1.1)
