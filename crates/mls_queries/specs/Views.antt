-- Views that are kept: which, and what they stand for.
use Rattle.std.specs.Prelude.{◌≡◌, ℕ, ◌<◌, ◌≤◌, Bool, true, false, not, ◌&&◌, if◌then◌else◌, nat_eq, List, [], ◌∷◌}
use Rattle.std.specs.Prelude.{◌++◌, length, Option, Some, None, ⊤, ◌⊎◌, filter}
use Rattle.std.specs.List.{AllByRecursion, list_any}
use Rattle.mls_lattice.specs.Labels.{Labels, below}
use Rattle.mls_lattice.specs.Policy.{Policy, labels_of}
use Rattle.mls_scheme.specs.declared.place.Place.{Place}
use Rattle.mls_scheme.specs.declared.tuple.Tuple.{Tuple}
use Rattle.mls_scheme.specs.Spelling.{IsSpelledKey}
use Rattle.mls_scheme.specs.Table.{Database}
use Rattle.mls_filterview.specs.Content.{Seen}
use Rattle.mls_filterview.specs.Entities.{is_of}
use Rattle.mls_filterview.specs.Stored.{is_entity}
use Rattle.mls_filterview.specs.View.{rows}
use Rattle.mls_updates.specs.declared.outcome.Outcome.{Outcome}
use Rattle.mls_updates.specs.Outcome.{is_done}
use Rattle.lru.specs.LruCache.{LruCache, put_entries, lru_cache}
use Rattle.mls_queries.specs.declared.views.ViewKey.{ViewKey}

-- ---- one view

-- a view as it was resolved, and places of the entities that were written since
pub record KeptView : Type 0 where
  pub tuples : List Tuple
  pub written : List Place

-- nothing was written
abbrev pub fresh : List Tuple → KeptView
fresh tuples = record { tuples = tuples; written = [] }

-- a tuple is of none of these entities
abbrev pub is_outside : List Place → Tuple → Bool
is_outside ps t = not (list_any (λ p. is_of p t) ps)

-- outside of the entities that were written these are the rows
abbrev pub AgreesWith : List Tuple → KeptView → Type 0
AgreesWith rows v = filter (is_outside v.written) v.tuples ≡ filter (is_outside v.written) rows

-- a key with a spelling, and a declared key class
pub record IsNamed (count : ℕ) (p : Place) : Type 0 where
  pub key : IsSpelledKey p.key
  pub key_class : p.key_class < count

-- with one entity more among those that were written
abbrev pub noted : Place → KeptView → KeptView
noted p v = if list_any (is_entity p) v.written then v else record { tuples = v.tuples; written = v.written ++ p ∷ [] }

-- ---- views

-- views and their keys, those that were asked for last first
abbrev pub Kept : Type 0
Kept = List (ViewKey × KeptView)

-- each is the view of a database now, but for what was written
abbrev pub AreRows : Labels → Database → Kept → Type 0
AreRows ls db = AllByRecursion (λ e. AgreesWith (rows ls e.0.label (db e.0.relation)) e.1)

-- their labels are declared, and the entities that were written can be asked for
abbrev pub AreDeclared : ℕ → Kept → Type 0
AreDeclared count = AllByRecursion (λ e. (e.0.label < count) × AllByRecursion (IsNamed count) e.1.written)

-- ---- keys

abbrev pub key_of : ℕ → ℕ → ViewKey
key_of relation label = record { relation = relation; label = label }

-- the test for the key of a relation and a label
abbrev pub is_view : ℕ → ℕ → ViewKey → Bool
is_view relation label k = nat_eq relation k.relation && nat_eq label k.label

abbrev pub same_key : ViewKey → ViewKey → Bool
same_key a = is_view a.relation a.label

-- ---- caches

-- how many views are kept at most
abbrev pub most_views : ℕ
most_views = 32

-- what a cache keeps, where there is one
abbrev pub kept_in : Option (LruCache ViewKey KeptView) → Kept
kept_in None = []
kept_in (Some c) = c.entries

abbrev pub HasRoom : Option (LruCache ViewKey KeptView) → Type 0
HasRoom None = ⊤
HasRoom (Some c) = c.cap ≡ most_views

-- with one view more, as the first: it takes the place of one of its key, and else of the last where there are most
abbrev pub put_view : ℕ → ℕ → List Tuple → Kept → Kept
put_view relation label tuples es = put_entries same_key (lru_cache es most_views) (key_of relation label)
    (fresh tuples)

-- ---- bases

-- what is kept over a base: no more views than most, at declared labels, and, over a clean base, as they are now but
-- for
-- the entities that were written
pub record AreViews {B : Type 0} (policy : Policy) (seen : B → Seen) (base : B) (es : Kept) : Type 0 where
  pub most : length es ≤ most_views
  pub declared : AreDeclared (length policy.labels) es
  pub rows : (seen base).is_clean → AreRows (labels_of policy) (seen base).state.now.db es

-- ---- writes

-- a place without a key
abbrev pub no_place : Place
no_place = record { key = []; key_class = 0; class = 0 }

-- the view is of another relation, or its label does not dominate that of the write
abbrev pub outlives : Labels → (relation w : ℕ) → ViewKey × KeptView → Bool
outlives ls relation w e = not (nat_eq relation e.0.relation && below ls w e.0.label)

module _ (ls : Labels) (relation w : ℕ) (p : Place) where
  -- a view that a write of the entity of p can't have changed stays; in another the entity is noted, or it is given up
  pub record IsFollowedBy (e : ViewKey × KeptView) (left new : Kept) : Type 0 where
    pub stays : outlives ls relation w e ≡ true → new ≡ e ∷ left
    pub noted : outlives ls relation w e ≡ false → (IsSpelledKey p.key × (new ≡ (e.0, noted p e.1) ∷ left))
        ⊎ (new ≡ left)

  -- so each of them, in their order
  abbrev pub AreFollowed : Kept → Kept → Type 0
  AreFollowed [] new = new ≡ []
  AreFollowed (e ∷ es) new = (left : Kept) × AreFollowed es left × IsFollowedBy e left new

  -- what is left after a write, by its outcome
  pub record AreLeftBy (outcome : Outcome) (es new : Kept) : Type 0 where
    pub refused : is_done outcome ≡ false → new ≡ es
    pub done : is_done outcome ≡ true → AreFollowed es new
