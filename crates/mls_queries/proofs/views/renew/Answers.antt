use Rattle.std.proofs.Common.{◌≡◌, sym, ap, ◌∙◌, inl, inr, unwrap_or}
use Rattle.lru.specs.LruCache.{lru_cache, put_entries}
use Rattle.mls_queries.specs.Views.{same_key, noted, no_place}
use Rattle.mls_queries.proofs.ViewsLemmas.{Entry, the_last, popped, put_again}
use Rattle.mls_queries.proofs.views.renew.Goals as goal

pub returns : goal.returns
returns c = λ es e is.
    let cache = c.args.cache.now in
    let p = unwrap_or c.args.written.now no_place in
    let last = the_last cache es e is c.in-Some.key c.in-Some.seen (sym c.in-Some.is ∙ c.pop_lru.ensures.value) in
    let left = c.pop_lru.ensures.entries ∙ popped cache es e is in
    let view : c.in-Some-noting.seen ≡ noted p e.1 = c.in-Some-noting.ensures.noted
    ∙ ap (λ (x : Entry). noted p x.1) last in
    elim c.put.ensures [
      | inl same ↦ inr (same ∙ left)
      | inr put ↦ inl (
        c.in-Some-noting.ensures.spelled,
        put ∙ (λ i. lru_cache (put_entries same_key (left i) ((last i).0) (view i)) ((left i).cap))
            ∙ ap (λ l. lru_cache l cache.cap) (put_again cache es e is c.len-count.ensures.valid.0 c.len-count.ensures.valid.1 (noted p e.1)),
      )
    ]
