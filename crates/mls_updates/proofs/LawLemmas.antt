-- The laws of writes, from their lemmas.
use Rattle.std.proofs.Common.{◌≡◌, sym, ap, ◌∙◌}
use Rattle.mls_filterview.proofs.LevelLemmas.{low_from_views, views_from_low}
use Rattle.mls_updates.specs.Laws.{WritesKeepForm, WritesKeepContent, HighWritesLeaveLow, HighWritesAreUnseen, LowWritesUseLow, LowWritesSeeLow, WritesChangeOneEntity}
use Rattle.mls_updates.specs.Writes.{write}
use Rattle.mls_updates.proofs.LowWriteLemmas.{low_written, write-low, write-high}
use Rattle.mls_updates.proofs.KeptLemmas.{write-stored}
use Rattle.mls_updates.proofs.FittingLemmas.{write-content}
use Rattle.mls_updates.proofs.EntityLemmas.{other_entities}

pub keep_form : WritesKeepForm
keep_form ls distinct scheme n w T stored wr fits = write-stored ls distinct scheme n w T stored wr fits

pub keep_content : WritesKeepContent
keep_content ls distinct scheme w T content wr fits kinds = write-content ls distinct scheme w T content wr fits kinds

pub high_leave_low : HighWritesLeaveLow
high_leave_low ls scheme n c w T stored wr out = write-high ls c w out scheme n T stored wr

pub high_unseen : HighWritesAreUnseen
high_unseen ls distinct scheme n c w T stored wr fits out =
    views_from_low ls n n (write ls scheme w wr T).table T
    (write-stored ls distinct scheme n w T stored wr fits) stored c (write-high ls c w out scheme n T stored wr)

pub low_use_low : LowWritesUseLow
low_use_low ls scheme c w T wr h = let e = sym (write-low ls scheme c w h T wr)
    in (ap (λ r. r.outcome) e, ap (λ r. r.table) e)

pub low_see_low : LowWritesSeeLow
low_see_low ls distinct scheme n c w S T s t wr fits h views =
    let both : low_written ls c (write ls scheme w wr S) ≡ low_written ls c (write ls scheme w wr T) =
    sym (write-low ls scheme c w h S wr) ∙ ap (write ls scheme w wr) (low_from_views ls distinct n n S T s t c views)
    ∙ write-low ls scheme c w h T wr in (
      ap (λ r. r.outcome) both,
      views_from_low ls n n _ _ (write-stored ls distinct scheme n w S s wr fits)
          (write-stored ls distinct scheme n w T t wr fits) c (ap (λ r. r.table) both),
    )

pub change_one_entity : WritesChangeOneEntity
change_one_entity ls scheme w T wr q out = other_entities ls scheme w T wr q out
