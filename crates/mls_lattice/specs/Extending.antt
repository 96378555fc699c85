-- Older policies, of which only the lattice's text is left, and how a later policy extends them.
use Rattle.std.specs.Prelude.{◌≡◌, ◌≢◌, ℕ, ◌<◌, ◌≤◌, List, ◌∷◌, ◌++◌, length, take, drop, flat_map}
use Rattle.mls_lattice.specs.Policy.{Policy}
use Rattle.mls_lattice.specs.Canon.{level_line, category_line, label_line}

-- the lines of the first levels, categories and labels
abbrev pub lattice_before : Policy → ℕ → ℕ → ℕ → List ℕ
lattice_before p i j k =
    flat_map level_line (take i p.levels) ++ flat_map category_line (take j p.categories)
    ++ flat_map (label_line p.levels p.categories) (take k p.labels)

-- The policy extends the lattice that an old text says, of which the first labels are the old ones. Levels and
-- categories are first parts too, so an old label keeps its rank and its categories.
pub record Extends (p : Policy) (old : List ℕ) (labels : ℕ) : Type 0 where
  pub levels : ℕ
  pub categories : ℕ
  pub some_level : 0 < levels
  pub few_levels : levels ≤ length p.levels
  pub few_categories : categories ≤ length p.categories
  pub some_label : 0 < labels
  pub few_labels : labels ≤ length p.labels
  pub text : old ≡ lattice_before p levels categories labels

-- the number of old labels is one, since each line begins with a word for its kind and ends with its line feed
abbrev pub OldLabelsAreOne : Type 0
OldLabelsAreOne = (p : Policy) (old : List ℕ) (k l : ℕ) → Extends p old k → Extends p old l → k ≡ l

-- The lines of so many of these begin the text, and the line of the next does not begin the rest.
pub record BeginWith {A : Type 0} (line : A → List ℕ) (xs : List A) (text : List ℕ) (count : ℕ)
    (rest : List ℕ) : Type 0 where
  pub few : count ≤ length xs
  pub split : text ≡ flat_map line (take count xs) ++ rest
  pub most : (x : A) (after : List A) (more : List ℕ) → drop count xs ≡ x ∷ after → rest ≢ line x ++ more
