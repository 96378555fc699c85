use Rattle.std.proofs.Common.{◌≡◌, List, option_map, arith, sym, ap, ◌∙◌, slice_get}
use Rattle.std.proofs.lemmas.Grind.{common_steps}
use Rattle.std.proofs.lemmas.Option.{same_Some, slice_get-get_or}
use Rattle.mls_scheme.specs.Scheme.{Attribute, other_of, no_attribute}
use Rattle.mls_translang.proofs.writing.push_set.Goals as goal

pub returns : goal.returns
returns c =
    let scheme = c.args.scheme.now in
    let i = c.args.set.now.0 in
    let name : c.name.result.now ≡ (other_of scheme i).0 =
    same_Some c.name.result.now (other_of scheme i).0
    (sym c.name.ensures ∙ ap (λ (as' : List Attribute). option_map (λ (a : Attribute). a.0)
    (slice_get as' i)) c.others.ensures.others
    ∙ ap (option_map (λ (a : Attribute). a.0)) (slice_get-get_or scheme.others i no_attribute c.requires)) in
    grind (arith, common_steps, name)
