use Rattle.std.proofs.Common.{◌≡◌, List, map, take, sym, ap, ◌∙◌, subst, arith, bytes_eq, take_all}
use Rattle.std.specs.List.{IsDistinct}
use Rattle.mls_lattice.proofs.NamedLemmas.{distinct_behind}
use Rattle.mls_scheme.specs.Scheme.{Attribute, Scheme, IsScheme}
use Rattle.mls_scheme.specs.Extending.{scheme_before}
use Rattle.mls_scheme.proofs.SchemeNameLemmas.{split_apart}
use Rattle.mls_scheme.proofs.OlderLemmas.{before_is, distinct_first}
use Rattle.mls_scheme.proofs.scheme.Scheme.before.Goals as goal

pub first_of-requires-clause-distinct : goal.first_of-requires-clause-distinct
first_of-requires-clause-distinct c =
    let s = c.args.self.now in
    subst (λ (xs : List Attribute). IsDistinct bytes_eq (map (λ (a : Attribute). a.0) xs))
    (sym c.keys-keys.ensures.keys) (distinct_first s.keys s.others c.keys-keys.ensures.valid.distinct)

pub first_of-requires-2-clause-distinct : goal.first_of-requires-2-clause-distinct
first_of-requires-2-clause-distinct c =
    let s = c.args.self.now in
    subst (λ (xs : List Attribute). IsDistinct bytes_eq (map (λ (a : Attribute). a.0) xs)) (sym c.others.ensures.others)
    (distinct_behind bytes_eq (map (λ (a : Attribute). a.0) s.keys) (map (λ (a : Attribute). a.0) s.others)
    (split_apart s c.keys-keys.ensures.valid))

pub new-requires : goal.new-requires
new-requires c =
    let s = c.args.self.now in
    let all = c.keys-keys.result.now in
    let len = c.len.ensures in
    let name = c.in_ok-name.ensures ∙ c.name.ensures in
    let keys = c.in_ok-keys.ensures ∙ take_all c.len.result all (omega (arith, len)) ∙ c.keys-keys.ensures.keys in
    let others = c.in_ok-others.ensures ∙ ap (λ (xs : List Attribute). take c.args.count xs) c.others.ensures.others in
    let same : ◌≡◌ {A = Scheme} (record {
      name = c.in_ok-name.name;
      keys = c.in_ok-keys.keys;
      others =
          c.in_ok-others.others;
    }) (scheme_before c.args.count s) =
    λ i. record { name = name i; keys = keys i; others = others i } in
    subst IsScheme (sym same) (before_is c.args.count s c.keys-keys.ensures.valid)
