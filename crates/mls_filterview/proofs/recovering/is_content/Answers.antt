-- proofs/recovering/is_content/Answers.antt
use Rattle.std.proofs.Common.{◌≡◌, Bool, true, false, ◌&&◌, List, Option, sym, ap, ◌∙◌, length}
use Rattle.std.specs.BTreeMap.{get}
use Rattle.std.specs.List.{list_all}
use Rattle.std.proofs.lemmas.List.{length-map}
use Rattle.mls_lattice.specs.Policy.{Policy, labels_of}
use Rattle.mls_scheme.specs.declared.tuple.Element.{Element}
use Rattle.mls_scheme.specs.declared.place.Place.{Place}
use Rattle.mls_scheme.specs.Table.{place_cmp}
use Rattle.mls_scheme.specs.Scheme.{Scheme}
use Rattle.mls_filterview.specs.Checking.{is_stored_row}
use Rattle.mls_filterview.proofs.EntryLemmas.{Entry}
use Rattle.mls_filterview.proofs.ContentLemmas.{content_told}
use Rattle.mls_filterview.proofs.recovering.is_content.Goals as goal

-- the numbers of labels, counted in either list
same_test : (policy : Policy) (scheme : Scheme) (found : Place → Option (List Element)) (es : List Entry)
    → list_all (is_stored_row (length policy.labels) (labels_of policy) scheme found) es
    ≡ list_all (is_stored_row (length (labels_of policy)) (labels_of policy) scheme found) es
same_test policy scheme found es = sym (ap (λ n. list_all (is_stored_row n (labels_of policy) scheme found) es)
    (length-map policy.labels (λ l. l.value)))

pub returns-then-not-branch : goal.returns-then-not-branch
returns-then-not-branch c =
    let policy = c.args.policy.now in
    let scheme = c.args.scheme.now in
    let found = get place_cmp c.args.rows.now in
    let es = c.args.rows.now.entries in
    let test : Entry → Bool = is_stored_row (length policy.labels) (labels_of policy) scheme found in
    let fails : test (c.in-Some.place.now, c.in-Some.elements.now) ≡ false = sym c.in_ok-is_stored_row.ensures
    ∙ c.if-not-branch.true in
    content_told (labels_of policy) c.use_invariant.ensures.distinct scheme es c.iter-place-items.ensures.ordered false
    (sym (ap (λ b. b && list_all test c.next.new.self) fails) ∙ sym (ap (list_all test) c.in-Some.ensures.steps)
    ∙ c.loop-place.invariant ∙ same_test policy scheme found es)

pub returns : goal.returns
returns c =
    let policy = c.args.policy.now in
    let scheme = c.args.scheme.now in
    let found = get place_cmp c.args.rows.now in
    let es = c.args.rows.now.entries in
    let test : Entry → Bool = is_stored_row (length policy.labels) (labels_of policy) scheme found in
    content_told (labels_of policy) c.use_invariant.ensures.distinct scheme es c.iter-place-items.ensures.ordered true
    (sym (ap (list_all test) c.in-None.ensures.steps.0) ∙ c.loop-place.invariant ∙ same_test policy scheme found es)
