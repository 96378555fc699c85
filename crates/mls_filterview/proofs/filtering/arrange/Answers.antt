use Rattle.std.proofs.Common.{sym, ap, ◌∙◌, subst, is_eq}
use Rattle.std.specs.List.Sorted.{IsStrictlySortedBy}
use Rattle.std.proofs.lemmas.Cmp.{tied_itself}
use Rattle.std.proofs.lemmas.List.Kept.{IsStrictlySortedBy-dedup}
use Rattle.std.proofs.lemmas.List.Filters.{dedup_is}
use Rattle.mls_scheme.proofs.OrderLemmas.{is_eq-true}
use Rattle.mls_filterview.specs.View.{IsAmong}
use Rattle.mls_filterview.proofs.AmongLemmas.{among_permutation}
use Rattle.mls_filterview.proofs.ArrangeLemmas.{from_dedup, kept_by_dedup}
use Rattle.mls_filterview.proofs.filtering.arrange.Goals as goal

pub returns-clause-sorted : goal.returns-clause-sorted
returns-clause-sorted g c =
    subst (IsStrictlySortedBy g.T.Ord.cmp) (sym (dedup_is g.T.PartialEq.eq _ _ c.dedup.ensures.filtered))
    (IsStrictlySortedBy-dedup g.met.T.Ord.total g.met.T.Ord.matches_eq c.sort.new.self.items c.in_ok-sort.ensures.sorted)

pub returns-clause-from : goal.returns-clause-from
returns-clause-from g c x h =
    (among_permutation c.args.items.now.items c.sort.new.self.items c.in_ok-sort.ensures.permutation x).1
    (from_dedup g.T.PartialEq.eq c.sort.new.self.items x
    (subst (IsAmong x) (dedup_is g.T.PartialEq.eq _ _ c.dedup.ensures.filtered) h))

pub returns-clause-kept : goal.returns-clause-kept
returns-clause-kept g c x h =
    let r = kept_by_dedup g.T.PartialEq.eq (λ y. g.met.T.Ord.matches_eq y y
    ∙ ap is_eq (tied_itself g.met.T.Ord.total y)) c.sort.new.self.items x
    ((among_permutation c.args.items.now.items c.sort.new.self.items c.in_ok-sort.ensures.permutation x).0 h) in (
      r.0,
      subst (IsAmong r.0) (sym (dedup_is g.T.PartialEq.eq _ _ c.dedup.ensures.filtered)) r.1,
      is_eq-true _ (sym (g.met.T.Ord.matches_eq x r.0) ∙ r.2),
    )
