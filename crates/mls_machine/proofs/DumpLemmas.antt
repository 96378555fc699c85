-- What makes a tuple again has known numbers, and a name is printed as it is.
use Rattle.std.proofs.Common.{◌≡◌, ℕ, suc, ◌<◌, true, false, cond, not, ◌&&◌, List, [], ◌∷◌, ◌++◌, length, map, Some, codes, refl, ap, ◌∙◌, ltb-true, arith, ◌/◌, ◌%◌, nat_eq, nat_lt, filter}
use Rattle.std.specs.List.{list_all, AllByRecursion}
use Rattle.std.proofs.lemmas.Bool.{and_parts}
use Rattle.std.proofs.lemmas.Bool.Decides.{nat_tests}
use Rattle.mls_tokens.specs.Writing.{is_control, hex_digit, printable}
use Rattle.mls_lattice.specs.Name.{is_name_byte, is_name, is_reserved}
use Rattle.mls_lattice.specs.Labels.{Labels, below}
use Rattle.mls_lattice.specs.Policy.{Name}
use Rattle.mls_scheme.specs.declared.tuple.Element.{Element}
use Rattle.mls_scheme.specs.declared.tuple.Tuple.{Tuple}
use Rattle.mls_scheme.specs.Tuple.{HasClassesBelow}
use Rattle.mls_filterview.specs.Filtering.{greatest_from, class_number}
use Rattle.mls_queries.proofs.PlaceLemmas.{all_filter}
use Rattle.mls_scheme.specs.declared.write.Write.TheVariants.{Insert, Update}
use Rattle.mls_translang.specs.declared.event.Command.TheVariants.{Write}
use Rattle.mls_translang.specs.Writing.{HasKnownNumbers, IsKnown}
use Rattle.mls_certcheck.specs.Site.{Site, site_labels, site_scheme}
use Rattle.mls_machine.specs.Dumping.{own_sets, class_below, dump_command, dump_event}

-- ---- names

plain_bytes : (text : List ℕ) → list_all is_name_byte text ≡ true → printable text ≡ text
plain_bytes [] h = refl
plain_bytes (b ∷ text) h =
    let p = and_parts (is_name_byte b) _ h in
    let plain : is_control b ≡ false = grind (arith, nat_tests) in
    ap (λ c. cond c (codes "\\x" ++ hex_digit (b / 16) ∷ hex_digit (b % 16) ∷ []) (b ∷ []) ++ printable text) plain
    ∙ ap (λ bs. b ∷ bs) (plain_bytes text p.1)

pub printable_name : (text : Name) → is_name text ≡ true → printable text ≡ text
unfolding is_name
printable_name text h = plain_bytes text (and_parts _ (list_all is_name_byte text)
    (and_parts _ (not (is_reserved text)) h).0).1

-- ---- numbers

greatest_known : (ls : Labels) (n m : ℕ) (es : List Element) → m < n → AllByRecursion (λ e. e.class < n) es
    → greatest_from ls m es < n
greatest_known ls n m [] h all = h
greatest_known ls n m (e ∷ es) h all =
    greatest_known ls n (cond (below ls m e.class) e.class m) es (elim (below ls m e.class) as (λ b. cond b e.class m
    < n) [ true ↦ all.0 | false ↦ h ]) all.1

sets_known : (m n k : ℕ) (es : List Element) → AllByRecursion (λ s. s.0 < n) (own_sets m n k es)
sets_known m n k [] = tt
sets_known m n k (e ∷ es) =
    let rest = sets_known m n (suc k) es in
    elim (nat_eq e.class m && nat_lt k n)
    as (λ b. (nat_eq e.class m && nat_lt k n) ≡ b → AllByRecursion (λ s. s.0 < n)
    (cond b ((k, e.value) ∷ own_sets m n (suc k) es) (own_sets m n (suc k) es))) [
      | true ↦ λ q. (ltb-true k n (and_parts _ _ q).1, rest)
      | false ↦ λ q. rest
    ] refl

module _ (site : Site) (relation : ℕ) (t : Tuple) (within : relation < length site.schemes) (classes : HasClassesBelow
    (length site.policy.labels) t) where
  command_known : (m : ℕ) → HasKnownNumbers site.policy site.schemes (dump_command site relation m t)
  command_known m =
      let ls = site_labels site in
      let count = length site.policy.labels in
      let other = λ (e : Element). not (nat_eq e.class m) in
      let from = greatest_known ls count t.key_class (filter other t.elements) classes.key_class
      (all_filter (λ e. e.class < count) other t.elements classes.elements) in
      let sets = own_sets m (length (site_scheme site relation).others) 0 t.elements in
      elim (nat_eq m t.key_class)
      as (λ b. HasKnownNumbers site.policy site.schemes
      (cond b (Write relation (Insert (map Some t.key) (map (λ e. e.value) t.elements)))
      (Write relation (Update (map Some t.key) t.key_class (class_below ls m t) sets)))) [
        | true ↦ within
        | false ↦ (
          within,
          classes.key_class,
          from,
          sets_known m (length (site_scheme site relation).others) 0 t.elements,
        )
      ]

  level_known : class_number (site_labels site) t < length site.policy.labels
  unfolding class_number
  level_known = greatest_known (site_labels site)
      (length site.policy.labels) t.key_class t.elements classes.key_class classes.elements

  pub made_known : (session : Name) → IsKnown site.policy site.schemes (dump_event site session relation t)
  made_known session = record { level = level_known; command = command_known (class_number (site_labels site) t) }
