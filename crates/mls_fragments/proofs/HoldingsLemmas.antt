-- What a database has is one thing, what is taken of it, and what a base has then.
use Rattle.std.proofs.Common.{◌≡◌, ◌≢◌, inl, inr, ℕ, zero, suc, pos, List, [], ◌∷◌, ◌++◌, length, Option, Some, None, refl, sym, ap, subst, ◌∙◌, arith, append-nil, option_map, length-take-le}
use Rattle.std.specs.FinMap.{get, same_map}
use Rattle.sqlite.specs.Effect.{Database}
use Rattle.mls_lattice.specs.Canon as lattice
use Rattle.mls_lattice.specs.Policy.{Policy}
use Rattle.mls_lattice.specs.Version.{version_number, later}
use Rattle.mls_lattice.specs.declared.version.Version.{Version}
use Rattle.mls_lattice.specs.declared.version.Version.TheVariants.{One, Two}
use Rattle.mls_scheme.specs.Canon as scheme
use Rattle.mls_scheme.specs.declared.file.SchemesFile.{SchemesFile}
use Rattle.mls_scheme.specs.declared.tuple.Element.{Element}
use Rattle.mls_scheme.specs.declared.place.Place.{Place}
use Rattle.mls_scheme.specs.Extending.{schemes_before, AllFirst, HadOthers}
use Rattle.mls_scheme.specs.Scheme.{Schemes, scheme_of}
use Rattle.mls_scheme.proofs.OrderLemmas.{place_exact, place_total}
use Rattle.mls_filterview.specs.Content.{Content, no_content}
use Rattle.mls_filterview.specs.Widen.{nulls}
use Rattle.mls_audit.specs.Sound.{IsSoundContent}
use Rattle.mls_tables.specs.declared.rows.MetaRow.{MetaRow}
use Rattle.mls_tables.specs.Adopting.{IsDescribed, IsVersion}
use Rattle.mls_tables.specs.Rows.{Tables, described, tables_of}
use Rattle.mls_tables.specs.Schema.{HasTables, no_schema}
use Rattle.mls_fragments.specs.Based.{BaseState, state_of, HasRow, IsBaseOf}
use Rattle.mls_rows.specs.Holding.{Holds}
use Rattle.mls_fragments.specs.Holdings.{Holdings, no_holdings, holdings_of, HaveOneMeta, HaveHoldings, HasHoldings, no_tables, four_tables, DatabaseHasOneHoldings, row_of, Takes, made, as_it_was, widened, IsTakenOf, GivenBackIsTaken, SoundIsTakenAsItWas}
use Rattle.mls_fragments.specs.Migrating.{HasTexts, IsExtended, more, IsSoundBefore, IsWidenedContent}
use Rattle.mls_fragments.proofs.AddingLemmas.{holds_none}
use Rattle.mls_fragments.proofs.OneContentLemmas.{one_content}

-- ---- one row and one content

-- what has the four tables is not empty
pub has_some : (db : Database) → HasTables db.schema → db.schema ≢ no_schema
has_some db ours bare = let four = ap (λ x. x.tables) (sym ours.is ∙ bare) in absurd cc

one_row : (t : Tables) (a b : HaveOneMeta t) → a.row ≡ b.row
one_row t a b = let both : a.row ∷ [] ≡ b.row ∷ [] = sym a.one ∙ b.one in cc

pub have_once : (t : Tables) (h k : Holdings) → HaveHoldings t h → HaveHoldings t k → h ≡ k
have_once t h k a b =
    let meta : h.meta ≡ k.meta = a.meta ∙ ap Some (one_row t a.described b.described) ∙ sym b.meta in
    let content = one_content t h.content k.content a.holds b.holds in
    λ i. record { meta = meta i; content = content i }

pub has_once : DatabaseHasOneHoldings
has_once db h k (no_tables bare is) (no_tables bare' is') = is ∙ sym is'
has_once db h k (no_tables bare is) (four_tables ours form has) = absurd (has_some db ours bare)
has_once db h k (four_tables ours form has) (no_tables bare is) = absurd (has_some db ours bare)
has_once db h k (four_tables ours form has) (four_tables ours' form' has') = have_once (tables_of db.trees) h k has has'

pub given_back : GivenBackIsTaken
given_back policy file db h now has taken = (
  taken.row,
  subst (λ x. Takes policy file x (holdings_of taken.row now))
      (has_once db taken.had h taken.was has) taken.takes,
)

-- ---- what a base has

pub version_is : (v : Version) → IsVersion (pos (version_number v))
version_is One = inl refl
version_is Two = inr refl

-- the description of a new store
pub meta_made : (v : Version) (lattice schemes : List ℕ) (t : Tables) → t ≡ described (version_number v) lattice schemes
    → HaveOneMeta t
meta_made v lattice schemes t is = record { row = _; one = ap (λ (u : Tables). u.meta) is; version = version_is v }

pub meta_of_described : (m : MetaRow) (db : Database) → IsDescribed m db → HaveOneMeta (tables_of db.trees)
meta_of_described m db d = record { row = m; one = d.1.1.0; version = d.1.1.1 }

module _ (policy : Policy) (file : SchemesFile) (db : Database) (b : BaseState) where
  -- of one without an object
  pub base_made : db.schema ≡ no_schema → (state_of b).now ≡ no_content
      → b.tables.now ≡ described (version_number (later policy.version file.version)) (lattice.lattice_of policy)
      (scheme.canon_of policy file.version file.schemes)
      → IsBaseOf (HasHoldings db) policy file b
  base_made bare is tables =
      let n = version_number (later policy.version file.version) in
      record {
        had = _;
        was = no_tables bare refl;
        row = row_of policy file n;
        takes = made refl (ap (holdings_of (row_of policy file n)) is);
        base = record {
          described = record {
            row = _;
            one = ap (λ (u : Tables). u.meta) tables;
            version =
                version_is (later policy.version file.version);
          };
          meta = refl;
          holds = subst (Holds b.tables.now) (sym is) (subst (λ t. Holds t no_content) (sym tables) (holds_none n _ _));
        };
      }

  has_described : (m : MetaRow) (c : Content) → IsDescribed m db → Holds (tables_of db.trees) c
      → HasHoldings db (holdings_of m c)
  has_described m c d holds = four_tables d.0 d.1.0 (record {
    described = record {
      row = m;
      one = d.1.1.0;
      version =
          d.1.1.1;
    };
    meta = refl;
    holds = holds;
  })

  -- of one with these texts
  pub base_as_it_was : (m : MetaRow) → IsDescribed m db → HasTexts policy file m → b.tables.now ≡ tables_of db.trees
      → Holds b.tables.now (state_of b).now
      → IsBaseOf (HasHoldings db) policy file b
  base_as_it_was m d texts same holds =
      record {
        had = holdings_of m (state_of b).now;
        was = has_described m (state_of b).now d (subst (λ t. Holds t (state_of b).now) same holds);
        row = m;
        takes = as_it_was m refl texts refl;
        base = record {
          described = record { row = m; one = ap (λ (u : Tables). u.meta) same ∙ d.1.1.0; version = d.1.1.1 };
          meta = refl;
          holds = holds;
        };
      }

  -- of one that is widened
  pub base_widened : (m : MetaRow) (labels : ℕ) (counts : List ℕ) (before : Content) → IsDescribed m db
      → IsExtended policy file m labels counts → Holds (tables_of db.trees) before
      → IsSoundBefore policy file.schemes labels counts before → IsWidenedContent file.schemes counts before
      (state_of b).now
      → b.tables.now.meta ≡ row_of policy file 2 ∷ [] → Holds b.tables.now (state_of b).now
      → IsBaseOf (HasHoldings db) policy file b
  base_widened m labels counts before d extended was sound wide meta holds =
      record {
        had = holdings_of m before;
        was = has_described m before d was;
        row = row_of policy file 2;
        takes = widened m labels counts refl extended sound wide refl;
        base = record { described = record { row = _; one = meta; version = inr refl }; meta = refl; holds = holds };
      }

-- of what has nothing nothing is taken, and a row of these texts describes it
nothing_had : (policy : Policy) (file : SchemesFile) (had : Holdings) (row : MetaRow) (now : Content)
    → had ≡ no_holdings → Takes policy file had (holdings_of row now)
    → row ≡ row_of policy file (version_number (later policy.version file.version))
nothing_had policy file had row now none (made none' is) =
    let e : Some row ≡ Some (row_of policy file (version_number (later policy.version file.version))) =
    ap (λ (h : Holdings). h.meta) is in cc
nothing_had policy file had row now none (as_it_was m meta texts same) =
    absurd (let e = sym (ap (λ (h : Holdings). h.meta) none) ∙ meta in cc)
nothing_had policy file had row now none (widened m labels counts meta extended was wide new) =
    absurd (let e = sym (ap (λ (h : Holdings). h.meta) none) ∙ meta in cc)

pub bare_has : (db : Database) (h : Holdings) → db.schema ≡ no_schema → HasHoldings db h → h ≡ no_holdings
bare_has db h bare (no_tables bare' is) = is
bare_has db h bare (four_tables ours form has) = absurd (has_some db ours bare)

pub new_base_has : (policy : Policy) (file : SchemesFile) (db : Database) (b : BaseState) → db.schema ≡ no_schema
    → IsBaseOf (HasHoldings db) policy file b
    → HasRow b (row_of policy file (version_number (later policy.version file.version)))
new_base_has policy file db b bare over = subst (HasRow b) (nothing_had policy file over.had over.row (state_of b).now
    (bare_has db over.had bare over.was) over.takes) over.base

-- the content of a base is taken of what the store had
pub base_is_taken : (Had : Holdings → Type 0) (policy : Policy) (file : SchemesFile) (b : BaseState)
    → IsBaseOf Had policy file b → IsTakenOf Had policy file (state_of b).now
base_is_taken Had policy file b over = record { had = over.had; was = over.was; row = over.row; takes = over.takes }

-- what one has, another may
pub base_among : (Had Has : Holdings → Type 0) (policy : Policy) (file : SchemesFile) (b : BaseState)
    → ((h : Holdings) → Had h → Has h) → IsBaseOf Had policy file b → IsBaseOf Has policy file b
base_among Had Has policy file b all over = record {
  had = over.had;
  was = all over.had over.was;
  row = over.row;
  takes = over.takes;
  base = over.base;
}

-- ---- widening of what is sound already

-- a relation that has as many attributes as it had gains none
none_more : (p : Policy) (counts : List ℕ) (schemes : Schemes) → AllFirst (HadOthers p) counts schemes → (relation : ℕ)
    → length (scheme_of (schemes_before counts schemes) relation).others ≡ length (scheme_of schemes relation).others
    → more schemes counts relation ≡ 0
none_more p [] schemes h relation e = omega (arith, e)
none_more p (n ∷ counts) [] h relation e = absurd h
none_more p (n ∷ counts) (s ∷ schemes) h zero e = let few = h.0.0
    in omega (arith, few, e, length-take-le n s.others few)
none_more p (n ∷ counts) (s ∷ schemes) h (suc relation) e = none_more p counts schemes h.1 relation e

module _ (policy : Policy) (file : SchemesFile) (before now : Content)
    (sound : IsSoundContent policy file.schemes before) (labels : ℕ) (counts : List ℕ)
    (had : AllFirst (HadOthers policy) counts file.schemes)
    (was : IsSoundBefore policy file.schemes labels counts before)
    (wide : IsWidenedContent file.schemes counts before now) where
  same_tuple : (relation : ℕ) (p : Place) (o : Option (List Element)) → get (before.db relation) p ≡ o
      → option_map (λ es. es ++ nulls (more file.schemes counts relation) p.key_class) o ≡ o
  same_tuple relation p None e = refl
  same_tuple relation p (Some es) e =
      let all = ((sound.content relation).stored p es e).count in
      let some = ((was.content relation).stored p es e).count in
      ap Some (ap (λ n. es ++ nulls n p.key_class) (none_more policy counts file.schemes had relation (sym some ∙ all))
      ∙ append-nil es)

  not_wider : now ≡ before
  not_wider =
      let db : (relation : ℕ) → now.db relation ≡ before.db relation =
      λ relation. same_map place_total place_exact (now.db relation) (before.db relation) (λ p. wide.tables relation p
      ∙ same_tuple relation p (get (before.db relation) p) refl) in
      let audit = wide.audit in
      λ i. record { db = λ relation. db relation i; audit = audit i }

pub sound_is_taken : SoundIsTakenAsItWas
sound_is_taken policy file had now sound (made none is) = ap (λ (h : Holdings). h.content) is
    ∙ sym (ap (λ (h : Holdings). h.content) none)
sound_is_taken policy file had now sound (as_it_was m meta texts same) = ap (λ (h : Holdings). h.content) same
sound_is_taken policy file had now sound (widened m labels counts meta extended was wide row) =
    not_wider policy file had.content now.content sound labels counts extended.counts_are.counts_are was wide
