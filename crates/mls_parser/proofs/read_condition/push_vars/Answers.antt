use Rattle.std.proofs.Common.{◌++◌, [], ◌∷◌, ℕ, List, map, take, string_bytes, ap, ◌∙◌}
use Rattle.mls_lattice.specs.Policy.{Name}
use Rattle.mls_scheme.specs.declared.value.Kind.{Kind}
use Rattle.mls_scheme.specs.Named.{has_name}
use Rattle.mls_parser.specs.ReadCondition.{attribute_var}
use Rattle.mls_parser.proofs.ConditionLemmas.{var_new, var_more}
use Rattle.mls_parser.proofs.read_condition.push_vars.Goals as goal

pub push-requires : goal.push-requires
push-requires c =
    let all = c.args.attributes.now in
    let front = c.args.vars.now in
    let i = c.loop-place.place in
    ap (λ (xs : List (Name × Kind)). has_name xs (string_bytes c.in_ok-name.name)) c.loop-place.invariant
    ∙ ap (λ (n : List ℕ). has_name (front ++ map attribute_var (take i all)) n) c.in_ok-name.ensures.ok
    ∙ var_new front all i c.name.result.now c.get.result.now c.name.ensures c.get.ensures c.requires

pub loop-place-preserved : goal.loop-place-preserved
loop-place-preserved c =
    let all = c.args.attributes.now in
    let front = c.args.vars.now in
    let i = c.loop-place.place in
    c.in_ok-push.ensures
    ∙ ap (λ (xs : List (Name × Kind)). xs ++ (string_bytes c.in_ok-name.name, c.get.result.now.kind)
    ∷ []) c.loop-place.invariant
    ∙ ap (λ (n : List ℕ). (front ++ map attribute_var (take i all)) ++ (n, c.get.result.now.kind)
    ∷ []) c.in_ok-name.ensures.ok
    ∙ var_more front all i c.name.result.now c.get.result.now c.name.ensures c.get.ensures
