use Rattle.std.proofs.Common.{◌≡◌, ℕ, ◌<◌, ◌^◌, [], true, length, get_or, sym, subst, ap, ◌∙◌, arith, true≢false}
use Rattle.mls_lattice.specs.Lattice.{Dominates, pair_of, join}
use Rattle.mls_certcheck.specs.Rules.{slot_label}
use Rattle.mls_labeller.specs.Rising.{rows_of, claim_at, cell, Rises}
use Rattle.mls_labeller.proofs.RowLemmas.{put, there}
use Rattle.mls_labeller.proofs.RiseLemmas.{rises}
use Rattle.mls_labeller.proofs.least.Rising.raise.Goals as goal

pub put-requires : goal.put-requires
put-requires c =
    let k = c.args.self.now in
    let x = rows_of c.args.labels.now in
    subst (λ (p : ℕ × ℕ). p.1 < length (get_or x p.0 [])) (sym c.cell-row.ensures)
    (there k.labeller.tx.now k.version c.args.slot c.requires.slot x c.requires.stands.counts)

pub returns : goal.returns
returns c =
    let k = c.args.self.now in
    let t = c.args.slot in
    let x = rows_of c.args.labels.now in
    let low = pair_of c.args.low in
    let rank : c.join.result.rank < 256 = omega arith in
    let cats : c.join.result.cats < 2 ^ 32 = omega arith in
    let is : pair_of c.join.result ≡ join (slot_label (claim_at k x) t) low = c.join.ensures
    ∙ ap (λ p. join p low) c.held-here.ensures in
    let whole : rows_of c.put.new.self ≡ put x (cell k.version t).0 (cell k.version t).1 c.join.result = c.put.ensures
    ∙ (λ i. put x (c.cell-row.ensures i).0 (c.cell-row.ensures i).1 c.join.result) in
    subst (λ y. Rises k (λ a. Dominates (slot_label a t) low) x y true) (sym whole)
    (rises k x t low c.join.result c.requires.stands c.requires.slot c.requires.due rank cats is
    (λ h. true≢false (sym (c.if-dominates.ensures.1 (subst (λ p. Dominates p low) (sym c.held-here.ensures) h)))))
