-- No line feed stands in the lines of a dump, where none stands in a name.
use Rattle.std.proofs.Common.{ℕ, zero, suc, Bool, true, false, cond, List, [], ◌∷◌, ◌++◌, map, Option, Some, refl, codes, nat_eq, length, slice_index_or, flat_map}
use Rattle.std.specs.List.{AllByRecursion}
use Rattle.mls_lattice.specs.Policy.{Name}
use Rattle.mls_lattice.specs.Canon.{label_name}
use Rattle.mls_lattice.proofs.EachLemmas.{all}
use Rattle.mls_scheme.specs.declared.value.Value.{Value}
use Rattle.mls_scheme.specs.declared.tuple.Tuple.{Tuple}
use Rattle.mls_scheme.specs.Scheme.{Attribute, Scheme, no_attribute, scheme_of, other_of}
use Rattle.mls_scheme.specs.declared.write.Write.TheVariants.{Insert, Update}
use Rattle.mls_translang.specs.declared.event.Command.TheVariants.{Write}
use Rattle.mls_translang.specs.Event.{Sets}
use Rattle.mls_translang.specs.Writing.{relation_name}
use Rattle.mls_translang.specs.Writing.{cell_text, behind_comma, listed, list_text, set_text, keyed, command_text, line_text, is_writable}
use Rattle.mls_filterview.specs.Filtering.{class_number}
use Rattle.mls_certcheck.specs.Site.{Site, site_labels, site_scheme}
use Rattle.mls_machine.specs.Dumping.{own_sets, class_below, dump_command, dump_event}
use Rattle.mls_machine.specs.Output.{dump_heading, script_text}
use Rattle.mls_machine.specs.Parting.{IsOneLine, HasPlainNames, IsPlain}
use Rattle.mls_machine.proofs.OneLineLemmas.{one_line-append, one_line-flat_map}
use Rattle.mls_machine.proofs.RowLineLemmas.{cell_line, scheme_line, label_line}

pub dump_line : (s : Scheme) → HasPlainNames s → IsOneLine (dump_heading s)
dump_line s h = one_line-append (codes "dump ") (s.name ++ codes ":") refl
    (one_line-append s.name (codes ":") h.name refl)

-- ---- lists

listed_line : {X : Type 0} (text : X → List ℕ) → ((x : X) → IsOneLine (text x)) → (xs : List X)
    → IsOneLine (listed text xs)
listed_line text h [] = refl
listed_line text h (x ∷ xs) =
    one_line-append (text x) (flat_map (behind_comma text) xs) (h x)
    (one_line-flat_map (behind_comma text) xs (all (λ y. IsOneLine (behind_comma text y))
    (λ y. one_line-append (codes ", ") (text y) refl (h y)) xs))

list_line : (vs : List (Option Value)) → IsOneLine (list_text vs)
list_line vs =
    one_line-append (codes "(") (listed cell_text vs ++ codes ")") refl (one_line-append (listed cell_text vs)
    (codes ")") (listed_line cell_text cell_line vs) refl)

attribute_line : (xs : List Attribute) (i : ℕ) → AllByRecursion (λ a. IsOneLine a.0) xs
    → IsOneLine (slice_index_or xs i no_attribute).0
attribute_line [] i h = refl
attribute_line (x ∷ xs) zero h = h.0
attribute_line (x ∷ xs) (suc i) h = attribute_line xs i h.1

set_line : (s : Scheme) → HasPlainNames s → (x : ℕ × Option Value) → IsOneLine (set_text s x)
set_line s h x =
    one_line-append ((other_of s x.0).0 ++ codes " = ") (cell_text x.1)
    (one_line-append (other_of s x.0).0 (codes " = ") (attribute_line s.others x.0 h.others) refl) (cell_line x.1)

-- ---- commands

module _ (site : Site) (plain : IsPlain site) where
  keyed_line : (verb : List ℕ) (relation : ℕ) (key : List (Option Value)) → IsOneLine verb
      → IsOneLine (keyed site.schemes verb relation key)
  keyed_line verb relation key h =
      let name = relation_name site.schemes relation in
      one_line-append ((verb ++ name) ++ codes " key ") (list_text key)
      (one_line-append (verb ++ name) (codes " key ") (one_line-append verb name h
      (scheme_line site.schemes relation plain.relations).name) refl) (list_line key)

  insert_line : (relation : ℕ) (key values : List (Option Value))
      → IsOneLine (command_text site.policy site.schemes (Write relation (Insert key values)))
  insert_line relation key values =
      let start = keyed site.schemes (codes "insert ") relation key in
      one_line-append (start ++ codes " values ") (list_text values)
      (one_line-append start (codes " values ") (keyed_line (codes "insert ") relation key refl) refl)
      (list_line values)

  update_line : (relation : ℕ) (key : List (Option Value)) (key_class from : ℕ) (sets : Sets)
      → IsOneLine (command_text site.policy site.schemes (Write relation (Update key key_class from sets)))
  update_line relation key key_class from sets =
      let s = scheme_of site.schemes relation in
      let class = label_name site.policy.labels key_class in
      let origin = label_name site.policy.labels from in
      let start = keyed site.schemes (codes "update ") relation key in
      one_line-append (((((start ++ codes " class ") ++ class) ++ codes " from ") ++ origin) ++ codes " set ")
      (listed (set_text s) sets)
      (one_line-append ((((start ++ codes " class ") ++ class) ++ codes " from ") ++ origin) (codes " set ")
      (one_line-append (((start ++ codes " class ") ++ class) ++ codes " from ") origin
      (one_line-append ((start ++ codes " class ") ++ class) (codes " from ")
      (one_line-append (start ++ codes " class ") class
      (one_line-append start (codes " class ") (keyed_line (codes "update ") relation key refl) refl)
      (label_line site.policy plain.labels key_class))
      refl)
      (label_line site.policy plain.labels from))
      refl)
      (listed_line (set_text s) (set_line s (scheme_line site.schemes relation plain.relations)) sets)

  made_command_line : (relation m : ℕ) (t : Tuple)
      → IsOneLine (command_text site.policy site.schemes (dump_command site relation m t))
  made_command_line relation m t =
      let key = map Some t.key in
      let values = map (λ e. e.value) t.elements in
      let from = class_below (site_labels site) m t in
      let sets = own_sets m (length (site_scheme site relation).others) 0 t.elements in
      elim (nat_eq m t.key_class) as (λ b. IsOneLine (command_text site.policy site.schemes
      (cond b (Write relation (Insert key values)) (Write relation (Update key t.key_class from sets))))) [
        | true ↦ insert_line relation key values
        | false ↦ update_line relation key t.key_class from sets
      ]

  word_line : (b : Bool) → IsOneLine (cond b (codes "line ") (codes "unread "))
  word_line true = refl
  word_line false = refl

  -- in a session whose name has none
  pub made_line : (session : Name) → IsOneLine session → (relation : ℕ) (t : Tuple)
      → IsOneLine (script_text site (dump_event site session relation t))
  made_line session h relation t =
      let e = dump_event site session relation t in
      let name = label_name site.policy.labels e.level in
      let command = command_text site.policy site.schemes e.command in
      one_line-append (cond (is_writable e) (codes "line ") (codes "unread ")) (line_text site.policy site.schemes e)
      (word_line (is_writable e))
      (one_line-append (((name ++ codes " ") ++ session) ++ codes " ") command
      (one_line-append ((name ++ codes " ") ++ session) (codes " ")
      (one_line-append (name ++ codes " ") session
      (one_line-append name (codes " ") (label_line site.policy plain.labels e.level) refl)
      h)
      refl)
      (made_command_line relation (class_number (site_labels site) t) t))
