-- What is told of a transaction: lines with numbers, names of labels, and lines of things in order.
use Rattle.std.proofs.Common.{◌≡◌, ℕ, ◌+◌, ◌-◌, ◌<◌, ◌≤◌, ◌^◌, Bool, true, false, List, [], ◌∷◌, ◌++◌, length, refl, sym, ap, subst, ◌∙◌, take, drop, get_or, map, arith, append-nil, append_assoc, drop-cons, add-one, Bor, Option, codes, if◌then◌else◌, flat_map, decimal}
use Rattle.std.specs.List.{concat, enumerate_from, AllZip}
use Rattle.std.specs.Prelude.{Contains}
use Rattle.std.proofs.SliceLists.{all_by_recursion_push}
use Rattle.std.specs.Fmt.{padded_integral, format_spec, styled_decimal}
use Rattle.std.proofs.lemmas.List.{drop_all, map_more, take_more, flat_map_more, get_or-map}
use Rattle.std.proofs.lemmas.List.Folds.{concat-append}
use Rattle.std.proofs.lemmas.Option.{slice_get-get_or}
use Rattle.std.proofs.lemmas.Slice.Zip.{all_zipped_more}
use Rattle.std.proofs.Padding.{padded_integral_right, styled_decimal_is}
use Rattle.mls_lattice.specs.Lattice.{Pair, bottom, pair_of}
use Rattle.mls_lattice.specs.Labels.{label_of}
use Rattle.mls_lattice.specs.Canon.{label_name}
use Rattle.mls_lattice.specs.Policy.{Named, Policy, labels_of}
use Rattle.mls_lattice.specs.declared.label.Label.{Label}
use Rattle.mls_labeller.specs.declared.told.Told.{Told}
use Rattle.mls_explain.specs.Telling.{is_named, four, shown, IsListing, TellsOne, TellsEach}

pub four_written : {s : _} (n : ℕ) → s ≡ format_spec 32 3 0 4 (2 ^ 64 - 1) → styled_decimal s n ≡ four n
unfolding four
four_written {s} n is =
    styled_decimal_is s n ∙ ap (λ t. padded_integral t false [] (decimal n)) is
    ∙ padded_integral_right (format_spec 32 3 0 4 (2 ^ 64 - 1)) (decimal n) refl refl (λ e. omega (arith, e))
    (λ e. omega (arith, e)) (omega arith)

-- one line more
pub listing_more : (lines : List (Bor (List ℕ))) (i : ℕ) (d : Bor (List ℕ)) (n : Option ℕ) (old new : List ℕ)
    → i < length lines
    → IsListing (map (λ x. x.now) (take i lines)) old → new ≡ old ++ shown n (get_or lines i d).now
    → IsListing (map (λ x. x.now) (take (i + 1) lines)) new
listing_more lines i d n old new within h is =
    let line = (get_or lines i d).now in
    let part = shown n line in
    let all = all_zipped_more (λ line part. (n : Option ℕ) × (part ≡ shown n line))
    (map (λ x. x.now) (take i lines)) h.0 line part h.1 (n, refl) in (
      h.0 ++ part ∷ [],
      subst (λ ls. AllZip (λ line part. (n : Option ℕ) × (part ≡ shown n line)) ls (h.0 ++ part ∷ []))
          (sym (map_more (λ x. x.now) lines i d within)) all,
      is ∙ ap (λ t. t ++ part) h.2 ∙ sym (concat-append h.0 (part ∷ []) ∙ ap (λ t. concat h.0 ++ t) (append-nil part)),
    )

-- one release more
pub tells_more : (told : List Told) (release : Told) → Contains told release → (old line new : List ℕ)
    → TellsEach told old → TellsOne release line → new ≡ old ++ line → TellsEach told new
tells_more told release has old line new h one is = (
  h.0 ++ line ∷ [],
  all_by_recursion_push (λ l. (r : Told) × Contains told r × TellsOne r l) h.0 line h.1 (release, has, one),
  is ∙ ap (λ t. t ++ line) h.2
      ∙ sym (concat-append h.0 (line ∷ []) ∙ ap (λ t. concat h.0 ++ t) (append-nil line)),
)

-- what is added twice
pub joined : (start a b : List ℕ) {mid end : List ℕ} → mid ≡ start ++ a → end ≡ mid ++ b → end ≡ start ++ (a ++ b)
joined start a b e f = f ∙ ap (λ t. t ++ b) e ∙ append_assoc start a b

-- one thing more, with its place; and all
module _ {X : Type 0} (f : ℕ × X → List ℕ) (xs : List X) (i : ℕ) (d : X) (all old : List ℕ) (before : old ++ flat_map f
    (enumerate_from i (drop i xs)) ≡ all) where
  pub each_more : (new : List ℕ) → i < length xs → new ≡ old ++ f (i, get_or xs i d)
      → new ++ flat_map f (enumerate_from (i + 1) (drop (i + 1) xs)) ≡ all
  each_more new within after =
      let rest = flat_map f (enumerate_from (i + 1) (drop (i + 1) xs)) in
      let split : drop i xs ≡ get_or xs i d ∷ drop (i + 1) xs = rw (add-one i, drop-cons xs i d within) refl in
      ap (λ t. t ++ rest) after ∙ append_assoc old (f (i, get_or xs i d)) rest
      ∙ sym (ap (λ ys. old ++ flat_map f (enumerate_from i ys)) split) ∙ before

  pub each_over : length xs ≤ i → old ≡ all
  each_over over = sym (append-nil old) ∙ sym (ap (λ ys. old ++ flat_map f (enumerate_from i ys)) (drop_all i xs over))
      ∙ before

-- the name of one label more, where it is told
abbrev no_label : Named
no_label = record { name = []; value = bottom }

module _ (exact : Bool) (p : Policy) (label : Label) (i : ℕ) (v : Pair) (within : i < length p.labels) (is : v
    ≡ label_of (labels_of p) i) (old : List ℕ) where
  abbrev entry : Named → List ℕ
  entry l = if is_named exact (pair_of label) l.value then codes " " ++ l.name else []

  value_at : v ≡ (get_or p.labels i no_label).value
  value_at = is ∙ get_or-map (λ (l : Named). l.value) p.labels i no_label bottom within

  more : (part : List ℕ) → entry (get_or p.labels i no_label) ≡ part → old ≡ flat_map entry (take i p.labels)
      → old ++ part ≡ flat_map entry (take (i + 1) p.labels)
  more part e before =
      ap (λ t. t ++ part) before ∙ ap (λ t. flat_map entry (take i p.labels) ++ t) (sym e) ∙ flat_map_more entry []
      (take i p.labels) (get_or p.labels i no_label)
      ∙ ap (flat_map entry) (sym (take_more p.labels i no_label within))

  pub name_more : is_named exact (pair_of label) v ≡ true → old ≡ flat_map entry (take i p.labels)
      → old ++ (codes " " ++ label_name p.labels i) ≡ flat_map entry (take (i + 1) p.labels)
  name_more h before = more (codes " " ++ label_name p.labels i)
      (rw (← value_at, h, slice_get-get_or p.labels i no_label within) refl) before

  pub no_name_more : is_named exact (pair_of label) v ≡ false → old ≡ flat_map entry (take i p.labels)
      → old ≡ flat_map entry (take (i + 1) p.labels)
  no_name_more h before = sym (append-nil old) ∙ more [] (rw (← value_at, h) refl) before
