-- Tables: cells, widths and lines, one after another.
use Rattle.std.proofs.Common.{◌≡◌, ℕ, ◌+◌, ◌<◌, ◌≤◌, Bool, false, List, [], ◌∷◌, ◌++◌, length, take, drop, get_or, map, Some, None, refl, sym, ap, ◌∙◌, append_assoc, codes, slice_get, slice_index_or, option_map, Result, Ok, Err, OnOk, flat_map}
use Rattle.std.proofs.lemmas.List.{map-append, take_more, drop_more, drop_all}
use Rattle.std.proofs.lemmas.List.Folds.{flat_map-map}
use Rattle.std.proofs.lemmas.Option.{slice_get_within, get_or_from_slice_get}
use Rattle.mls_lattice.specs.Policy.{Name, Policy}
use Rattle.mls_scheme.specs.Scheme.{Attribute, Scheme}
use Rattle.mls_scheme.specs.declared.tuple.Tuple.{Tuple}
use Rattle.mls_scheme.specs.Tuple.{no_tuple}
use Rattle.mls_translang.specs.declared.query.Query.{Query}
use Rattle.mls_translang.specs.declared.event.Event.{Event}
use Rattle.mls_translang.specs.declared.event.Command.TheVariants as commands
use Rattle.mls_tokens.specs.Table.{wider, padded}
use Rattle.mls_certcheck.specs.Site.{Site, site_scheme}
use Rattle.mls_machine.proofs.PrintingSteps.{answered}
use Rattle.mls_machine.specs.declared.form.Form.{Form}
use Rattle.mls_machine.specs.declared.form.Form.TheVariants.{Table}
use Rattle.mls_machine.specs.Output.{front, tuple_cells, name_cells, widths_with, table_widths, table_title, table_names, table_rule, table_row, table_of, rows_texts}

-- a cell more
pub cells_more : {X : Type 0} (f : X → List ℕ) (xs : List X) (k : ℕ) (x : X) (start old new : List (List ℕ))
    → k < length xs → x ≡ get_or xs k x
    → old ≡ start ++ map f (take k xs) → new ≡ old ++ f x ∷ [] → new ≡ start ++ map f (take (k + 1) xs)
cells_more f xs k x start old new within is before after =
    after ∙ ap (λ t. t ++ f x ∷ []) before ∙ append_assoc start (map f (take k xs)) (f x ∷ [])
    ∙ ap (λ t. start ++ t) (sym (map-append f (take k xs) (x ∷ [])))
    ∙ ap (λ ys. start ++ map f ys) (sym (take_more xs k x within ∙ ap (λ y. take k xs ++ y ∷ []) (sym is)))

-- the name of one attribute more
pub name_more : (attributes : List Attribute) (k : ℕ) (name : Name) (start old new : List Name)
    → option_map (λ a. a.0) (slice_get attributes k) ≡ Some name
    → old ≡ start ++ map (λ a. a.0) (take k attributes) → new ≡ old ++ name ∷ [] → new ≡ start ++ map (λ a. a.0)
    (take (k + 1) attributes)
name_more attributes k name start old new h before after =
    let Goal : Type 0 = new ≡ start ++ map (λ a. a.0) (take (k + 1) attributes) in
    elim (slice_get attributes k) as (λ o. slice_get attributes k ≡ o → option_map (λ a. a.0) o ≡ Some name → Goal) [
      | None ↦ λ e g. absurd cc
      | Some a ↦ λ e g.
          let same : name ≡ a.0 = cc in
          cells_more (λ (x : Attribute). x.0) attributes k a start old new (slice_get_within attributes k a e)
          (sym (get_or_from_slice_get attributes k a a e)) before
          (after ∙ ap (λ n. old ++ n ∷ []) same)
    ] refl h

module _ (p : Policy) (tuples : List Tuple) (k : ℕ) (widths whole : List ℕ) (so_far : widths_with p widths
    (drop k tuples) ≡ whole) where
  pub widths_more : (t : Tuple) (wide : List ℕ) → k < length tuples → t ≡ slice_index_or tuples k no_tuple
      → wide ≡ wider widths 0 (tuple_cells p t) → widths_with p wide (drop (k + 1) tuples) ≡ whole
  widths_more t wide within is pushed =
      ap (λ w. widths_with p w (drop (k + 1) tuples)) pushed
      ∙ ap (λ x. widths_with p widths (x ∷ drop (k + 1) tuples)) is
      ∙ ap (λ ts. widths_with p widths ts) (sym (drop_more tuples k no_tuple within)) ∙ so_far

  pub widths_all : length tuples ≤ k → widths ≡ whole
  widths_all over = ap (λ ts. widths_with p widths ts) (sym (drop_all k tuples over)) ∙ so_far

pub ruleset widths_steps = (widths_more, widths_all)

-- ---- lines

module _ (p : Policy) (e : Event) where
  abbrev on_line : List ℕ → List ℕ
  on_line t = front p e e.level ++ t ++ codes "\n"

  -- the lines of a table, one part after another
  abbrev lines_at : List ℕ → List (List ℕ) → List ℕ → List Tuple → List ℕ
  lines_at title names widths tuples =
      on_line title ++ (on_line (padded widths 0 names ++ codes "class") ++ (on_line (table_rule widths)
      ++ flat_map (λ t. on_line (table_row p widths t)) tuples))

  abbrev lines_of : List ℕ → Scheme → List Tuple → List ℕ
  lines_of title s tuples = lines_at title (name_cells s) (table_widths p s tuples) tuples

  parts : (old x y z w : List ℕ) → (((old ++ x) ++ y) ++ z) ++ w ≡ old ++ (x ++ (y ++ (z ++ w)))
  parts old x y z w = simp append_assoc

  pub table_parts : (title : List ℕ) (s : Scheme) (tuples : List Tuple) (names : List (List ℕ)) (widths : List ℕ)
      → names ≡ name_cells s → widths ≡ widths_with p (wider [] 0 names) tuples
      → (old a b c new : List ℕ) → a ≡ old ++ on_line title → b ≡ a ++ on_line (padded widths 0 names ++ codes "class")
      → c ≡ b ++ on_line (table_rule widths)
      → {A F : Type 0} (r : Result A F) → OnOk r (new ≡ c ++ flat_map (λ t. on_line (table_row p widths t)) tuples)
      → OnOk r (new ≡ old ++ lines_of title s tuples)
  table_parts title s tuples names widths are wide old a b c new first second third (Ok x) h =
      let all = wide ∙ ap (λ n. widths_with p (wider [] 0 n) tuples) are in
      h ∙ ap (λ t. t ++ flat_map (λ t. on_line (table_row p widths t)) tuples)
      (third ∙ ap (λ t. t ++ on_line (table_rule widths))
      (second ∙ ap (λ t. t ++ on_line (padded widths 0 names ++ codes "class")) first))
      ∙ parts old _ _ _ _ ∙ (λ i. old ++ lines_at title (are i) (all i) tuples)
  table_parts title s tuples names widths are wide old a b c new first second third (Err f) h = h

  pub same_lines : (s : Scheme) (label : ℕ) (query : Query) (tuples : List Tuple)
      → lines_of (table_title p s label query) s tuples ≡ flat_map on_line (table_of p s label query
      (table_widths p s tuples) tuples)
  same_lines s label query tuples =
      let widths = table_widths p s tuples in
      ap (λ l. on_line (table_title p s label query) ++ (on_line (table_names s widths) ++ (on_line (table_rule widths)
      ++ l))) (sym (flat_map-map on_line (table_row p widths) tuples))

module _ (site : Site) (e : Event) (relation label : ℕ) (query : Query) (counts : Bool) (tuples : List Tuple)
    (s : Scheme) (same : s ≡ site_scheme site relation) (old new : List ℕ) where
  -- of the scheme of the relation
  pub table_more : (form : Form) → form ≡ Table → counts ≡ false → {A F : Type 0} (r : Result A F)
      → OnOk r (new ≡ old ++ lines_of site.policy e (table_title site.policy s label query) s tuples)
      → OnOk r (new ≡ old ++ flat_map (on_line site.policy e)
      (rows_texts form site (commands.View relation label query counts) tuples))
  table_more form in_table not_counted (Ok x) h =
      h ∙ ap (λ l. old ++ l) (same_lines site.policy e s label query tuples
      ∙ ap (λ x. flat_map (on_line site.policy e) (table_of site.policy x label query
      (table_widths site.policy x tuples) tuples)) same
      ∙ answered site e relation label query counts tuples s same old new Table false not_counted
      ∙ ap (λ f. flat_map (on_line site.policy e)
      (rows_texts f site (commands.View relation label query counts) tuples)) (sym in_table))
  table_more form in_table not_counted (Err f) h = h
