use Rattle.std.proofs.Common.{◌≡◌, ◌++◌, ◌∙◌, ap, sym, subst, string_bytes, Contains}
use Rattle.std.specs.Slice.{IsItemAt}
use Rattle.mls_explain.specs.Telling.{TellsOne, TellsEach}
use Rattle.mls_explain.proofs.TellingLemmas.{tells_more}
use Rattle.mls_explain.proofs.teller.Teller.each_of.Goals as goal
use Rattle.mls_explain.proofs.teller.Teller.each_of.Goals.{in-Release+in-Some+in_ok-line+in_ok-push_str, in-Release+in_default-get, in_default}

pub loop-place-preserved : goal.loop-place-preserved
loop-place-preserved c = elim c.match-statement.branch [
  | in-Release+in-Some+in_ok-line+in_ok-push_str w ↦
      (let told = c.args.told.now in
      let release = w.in-Some.release.now in
      let found = subst (IsItemAt told c.loop-place.next) w.in-Some.is w.get.ensures.lookup in
      let has : Contains told release = (c.loop-place.next, found.3.0, sym found.1) in
      let one : TellsOne release w.deref.result.now = subst (TellsOne release) (sym w.deref.ensures) w.in_ok-line.ensures in
      let new : string_bytes c.match-statement.text ≡ string_bytes c.loop-place.text ++ w.deref.result.now
      = ap string_bytes w.text-is ∙ w.in_ok-push_str.ensures.bytes in
      tells_more told release has (string_bytes c.loop-place.text) w.deref.result.now
      (string_bytes c.match-statement.text) c.loop-place.invariant one new)
  | in-Release+in_default-get w ↦ subst (λ t. TellsEach c.args.told.now (string_bytes t)) (sym w.text-is)
      c.loop-place.invariant
  | in_default w ↦ subst (λ t. TellsEach c.args.told.now (string_bytes t)) (sym w.text-is) c.loop-place.invariant
]
