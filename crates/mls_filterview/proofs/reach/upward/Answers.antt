use Rattle.std.proofs.Common.{◌≡◌, ◌∙◌, suc, ap, length, arith, flat_map}
use Rattle.std.proofs.lemmas.List.{length-map}
use Rattle.mls_lattice.specs.Policy.{labels_of}
use Rattle.mls_filterview.specs.Reach.{numbers, of_reach}
use Rattle.mls_filterview.proofs.reach.upward.Goals as goal

pub returns : goal.returns
returns c =
    let ls = labels_of c.args.policy.now in
    let all : c.loop-count.count ≡ suc (length ls) = omega (arith, length-map c.args.policy.now.labels (λ l. l.value))
    in
    c.loop-count.invariant ∙ ap (λ n. flat_map (of_reach ls) (numbers n)) all
