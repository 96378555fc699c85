-- What a level sees of the lines and the entries of a call: those of the items that it sees.
use Rattle.std.proofs.Common.{◌≡◌, ℕ, Bool, true, false, cond, List, [], ◌∷◌, ◌++◌, map, ap, refl, ◌∙◌, codes, filter}
use Rattle.std.proofs.lemmas.List.Elements.{filter-append}
use Rattle.mls_lattice.specs.Labels.{Labels, below}
use Rattle.mls_lattice.specs.Policy.{Name, Policy}
use Rattle.mls_audit.specs.declared.entry.Entry.{Entry}
use Rattle.mls_audit.specs.declared.entry.Deed.TheVariants as deeds
use Rattle.mls_audit.specs.Entry.{label_of, visible}
use Rattle.mls_certcheck.specs.Meaning.{Item}
use Rattle.mls_certcheck.specs.Secure.{seen_items}
use Rattle.mls_translang.specs.declared.event.Event.{Event}
use Rattle.mls_machine.specs.declared.reply.Reply.TheVariants.{Ran}
use Rattle.mls_certcheck.specs.Site.{Site}
use Rattle.mls_machine.specs.Machine.{entry_of, release_entry, call_entries}
use Rattle.mls_machine.specs.Output.{Line, item_line, item_lines}
use Rattle.mls_machine.specs.Observation.{out}

-- a filter of a map
pub filter-map : {A B : Type 0} (p : B → Bool) (f : A → B) (xs : List A) → filter p (map f xs)
    ≡ map f (filter (λ x. p (f x)) xs)
filter-map p f [] = refl
filter-map p f (x ∷ xs) =
    elim (p (f x)) as (λ b. cond b (f x ∷ filter p (map f xs)) (filter p (map f xs))
    ≡ map f (cond b (x ∷ filter (λ x. p (f x)) xs) (filter (λ x. p (f x)) xs))) [
      | true ↦ ap (λ ys. f x ∷ ys) (filter-map p f xs)
      | false ↦ filter-map p f xs
    ]

-- the lines of items, emitted and released
abbrev pub lines_of : Policy → Event → List Item → List Item → List Line
lines_of p e emitted released = map (item_line p e (codes "emit ")) emitted
    ++ map (item_line p e (codes "release ")) released

-- the entry of a call where its level is seen, and those of releases
abbrev pub entries_of : Site → Event → ℕ → Name → Bool → List Item → List Entry
entries_of site e user name b released =
    cond b (entry_of site e e.level user (deeds.Called name) ∷ map (release_entry site e user) released)
    (map (release_entry site e user) released)

module _ (ls : Labels) (c : ℕ) where
  pub lines_seen : (p : Policy) (e : Event) (emitted released : List Item)
      → out ls c (item_lines p e (Ran (record { emitted = emitted; released = released })))
      ≡ lines_of p e (seen_items ls c emitted) (seen_items ls c released)
  lines_seen p e emitted released =
      filter-append (λ l. below ls l.label c) (map (item_line p e (codes "emit ")) emitted)
      (map (item_line p e (codes "release ")) released)
      ∙ (λ i. filter-map (λ l. below ls l.label c) (item_line p e (codes "emit ")) emitted i ++ filter-map
      (λ l. below ls l.label c) (item_line p e (codes "release ")) released i)

  pub entries_seen : (site : Site) (e : Event) (user : ℕ) (name : Name) (released : List Item)
      → visible ls c (call_entries site e user name released) ≡ entries_of site e user name (below ls e.level c)
      (seen_items ls c released)
  entries_seen site e user name released =
      ap (λ xs. cond (below ls e.level c) (entry_of site e e.level user (deeds.Called name) ∷ xs) xs)
      (filter-map (λ x. below ls (label_of x) c) (release_entry site e user) released)
