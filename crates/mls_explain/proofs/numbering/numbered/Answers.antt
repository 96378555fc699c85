use Rattle.std.proofs.Common.{[], string_bytes, rules}
use Rattle.mls_explain.proofs.TellingLemmas.{listing_more}
use Rattle.mls_explain.proofs.numbering.numbered.Goals as goal

pub loop-place-preserved : goal.loop-place-preserved
loop-place-preserved c =
    listing_more c.deref-line-items.result.now c.loop-place.place (record {
      ref_ptr = (0, 0);
      now = [];
    }) c.then_some-number.result
    (string_bytes c.loop-place.text) (string_bytes c.line_to.new.text)
    (search rules) c.loop-place.invariant c.in_ok-line_to.ensures
