use Rattle.std.proofs.Common.{◌≡◌, rules, ap, ◌∙◌, ◌++◌, codes, string_bytes}
use Rattle.mls_lattice.specs.Lattice.{pair_of}
use Rattle.mls_lattice.specs.Canon.{label_name}
use Rattle.mls_explain.proofs.TellingLemmas.{name_more, no_name_more}
use Rattle.mls_explain.proofs.naming.names_of.Goals as goal

pub loop-place-preserved-then-not-is_named : goal.loop-place-preserved-then-not-is_named
loop-place-preserved-then-not-is_named c =
    no_name_more c.args.exact c.args.policy.now c.args.label c.loop-place.place (pair_of c.value.result) (search rules)
    (search rules) (string_bytes c.loop-place.text)
    (search rules) c.loop-place.invariant

pub loop-place-preserved : goal.loop-place-preserved
loop-place-preserved c =
    let name : c.name-name.result.now ≡ label_name c.args.policy.now.labels c.loop-place.place = search rules in
    c.in_ok-write.ensures.bytes ∙ ap (λ n. string_bytes c.loop-place.text ++ (codes " " ++ n)) name
    ∙ name_more c.args.exact c.args.policy.now c.args.label c.loop-place.place (pair_of c.value.result)
    (search rules) (search rules) (string_bytes c.loop-place.text)
    (search rules) c.loop-place.invariant
