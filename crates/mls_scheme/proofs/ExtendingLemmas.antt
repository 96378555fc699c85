-- Which older schemes schemes extend: a text is the lines of older ones in one way.
use Rattle.std.proofs.Common.{◌≡◌, ◌≢◌, ℕ, arith, ◌+◌, ◌<◌, ◌==◌, true, false, ◌↔◌, List, [], ◌∷◌, ◌++◌, append_assoc, length, get_or, take, drop, slice_get, option_map, Option, Some, None, refl, sym, ap, subst, ◌∙◌, codes, IfSome, IsSomeAnd, flat_map, append-nil, eqb-true}
use Rattle.std.specs.List.{AllByRecursion}
use Rattle.std.proofs.lemmas.List.{append_cancel_left, drop_more}
use Rattle.mls_lattice.specs.Policy.{Policy, labels_of}
use Rattle.mls_lattice.specs.Labels.{Labels, below}
use Rattle.mls_lattice.specs.declared.version.Version.{Version}
use Rattle.mls_lattice.specs.declared.version.Version.TheVariants.{One, Two}
use Rattle.mls_lattice.specs.Extending.{BeginWith}
use Rattle.mls_lattice.proofs.ExtendingLemmas.{begin-one}
use Rattle.mls_scheme.specs.declared.attributes.Column.{Column}
use Rattle.mls_scheme.specs.Scheme.{Attribute, Scheme, Schemes, column_of, no_attribute}
use Rattle.mls_scheme.specs.Canon.{attribute_line, head_lines, relation_lines, first_line}
use Rattle.mls_scheme.proofs.SchemeNameLemmas.{column_there}
use Rattle.mls_scheme.specs.Extending.{scheme_before, schemes_before, Contains, CoversKey, Extends, OldCountsAreOne, BeginsWith, AreLines, IsPastAttributes}

apart : Path ℕ 114 97 → ⊥
apart e = omega (arith, e)

-- a text that a relation begins is not empty
nothing : Path ℕ 0 114 → ⊥
nothing e = omega (arith, e)

-- ---- attributes that may have more classes

-- the attribute of a place, and those after it
pub contain_more : (ls : Labels) (low high : ℕ) (attributes : List Attribute) (k : ℕ) (c : Column)
    → k < length attributes → option_map column_of (slice_get attributes k) ≡ Some c
    → AllByRecursion (Contains ls low high) (drop k attributes)
    ↔ (((below ls c.low low ≡ true) × (below ls high c.high ≡ true)) × AllByRecursion (Contains ls low high)
    (drop (k + 1) attributes))
contain_more ls low high attributes k c within e =
    let same = column_there attributes k c within e in
    let here = drop_more attributes k no_attribute within in (
      λ all.
          let both = subst (AllByRecursion (Contains ls low high)) here all in (
            (
              subst (λ (x : Column). below ls x.low low ≡ true) same both.0.0,
              subst (λ (x : Column). below ls high x.high
                  ≡ true) same both.0.1,
            ),
            both.1,
          ),
      λ all.
          subst (AllByRecursion (Contains ls low high)) (sym here) (
            (
              subst (λ (x : Column). below ls x.low low ≡ true) (sym same) all.0.0,
              subst (λ (x : Column). below ls high x.high ≡ true) (sym same) all.0.1,
            ),
            all.1,
          ),
    )

-- ---- options

pub none_has : {X : Type 0} (o : Option X) (P : X → Type 0) → o ≡ None → IsSomeAnd o P → ⊥
none_has None P e h = h
none_has (Some x) P e h = absurd cc

pub some_has : {X : Type 0} (o : Option X) (x : X) (P : X → Type 0) → o ≡ Some x → IfSome o P → P x
some_has o x P e h = subst (λ q. IfSome q P) e h

pub some_is : {X : Type 0} (o : Option X) (x : X) (P : X → Type 0) → o ≡ Some x → IsSomeAnd o P → P x
some_is o x P e h = subst (λ q. IsSomeAnd q P) e h

-- ---- lines

pub empty_of : (xs : List ℕ) → (length xs == 0) ≡ true → xs ≡ []
empty_of [] e = refl
empty_of (x ∷ xs) e = let none : length (x ∷ xs) ≡ 0 = eqb-true (length (x ∷ xs)) 0 e in absurd (omega (arith, none))

pub full_of : (xs : List ℕ) → (length xs == 0) ≡ false → xs ≡ [] → ⊥
full_of [] e is = absurd cc
full_of (x ∷ xs) e is = absurd cc

module _ (p : Policy) where
  abbrev line : Attribute → List ℕ
  line = attribute_line p (codes "attribute")

  -- ---- one relation

  pub past_lines : (schemes : Schemes) → IsPastAttributes p (flat_map (relation_lines p) schemes)
  past_lines [] a more e = absurd cc
  past_lines (s ∷ schemes) a more e = absurd (apart (ap (λ (x : List ℕ). get_or x 0 0) e))

  module _ (s : Scheme) (text rest : List ℕ) (headed : text ≡ head_lines p s ++ rest) (n : ℕ) (after : List ℕ)
      (lines : BeginWith line s.others rest n after) where
    pub relation_one : (m : ℕ) (other : List ℕ) → IsPastAttributes p other → BeginsWith p s text m other → (n ≡ m)
        × (after ≡ other)
    relation_one m other past begins =
        let same : rest ≡ flat_map line (take m s.others) ++ other =
        append_cancel_left (head_lines p s) rest (flat_map line (take m s.others) ++ other) (sym headed ∙ begins.split
        ∙ append_assoc (head_lines p s) (flat_map line (take m s.others)) other) in
        begin-one line s.others rest n m after other lines begins.had.0 same past

    pub relation_uncovered : (CoversKey (labels_of p) n s → ⊥) → (m : ℕ) (other : List ℕ) → IsPastAttributes p other
        → BeginsWith p s text m other → ⊥
    relation_uncovered uncovered m other past begins =
        uncovered (subst (λ k. CoversKey (labels_of p) k s) (sym (relation_one m other past begins).0) begins.had.1)

  pub relation_headless : (s : Scheme) (text : List ℕ) → ((more : List ℕ) → text ≢ head_lines p s ++ more)
      → (m : ℕ) (other : List ℕ) → BeginsWith p s text m other → ⊥
  relation_headless s text none m other begins = none (flat_map line (take m s.others) ++ other) (begins.split
      ∙ append_assoc (head_lines p s) (flat_map line (take m s.others)) other)

  some_lines : (s : Scheme) (n : ℕ) (text rest : List ℕ) → text ≡ relation_lines p (scheme_before n s) ++ rest
      → text ≡ [] → ⊥
  some_lines s n text rest split none = nothing (ap (λ (x : List ℕ). get_or x 0 0) (sym none ∙ split))

  -- ---- all relations

  -- The front of the text is the lines of the relations before these, in one way.
  pub record Before (all : Schemes) (text : List ℕ) (front : List ℕ) (schemes : Schemes) (rest : List ℕ) : Type 0 where
    pub completes : (ms : List ℕ) → AreLines p schemes rest ms → AreLines p all text (front ++ ms)
    pub only : (ms : List ℕ) → AreLines p all text ms → (more : List ℕ) × (ms ≡ front ++ more)
        × AreLines p schemes rest more

  module _ (all : Schemes) (text front : List ℕ) where
    lines_more : (s : Scheme) (schemes : Schemes) (rest : List ℕ) (n : ℕ) (after : List ℕ) → BeginsWith p s rest n after
        → (ms : List ℕ) → AreLines p schemes after ms → AreLines p (s ∷ schemes) rest (n ∷ ms)
    lines_more s schemes rest n after begins ms lines = record {
      counts_are = (begins.had, lines.counts_are);
      split = begins.split ∙ ap (λ (x : List ℕ). relation_lines p (scheme_before n s) ++ x) lines.split;
    }

    -- the first relation of a text that is lines
    lines_first : (s : Scheme) (schemes : Schemes) (rest : List ℕ) (m : ℕ) (ms : List ℕ) → AreLines p (s ∷ schemes) rest
        (m ∷ ms)
        → BeginsWith p s rest m (flat_map (relation_lines p) (schemes_before ms schemes))
    lines_first s schemes rest m ms lines = record { had = lines.counts_are.0; split = lines.split }

    pub before-more : (s : Scheme) (schemes : Schemes) (rest : List ℕ) (n : ℕ) (after : List ℕ)
        → Before all text front (s ∷ schemes) rest → BeginsWith p s rest n after
        → ((m : ℕ) (other : List ℕ) → IsPastAttributes p other → BeginsWith p s rest m other → (n ≡ m)
        × (after ≡ other)) → Before all text (front ++ n ∷ []) schemes after
    before-more s schemes rest n after before begins one = record {
      completes = λ ms lines. subst (AreLines p all text) (sym (append_assoc front (n ∷ []) ms))
          (before.completes (n ∷ ms) (lines_more s schemes rest n after begins ms lines));
      only = λ ms lines. let only = before.only ms lines in next ms only.0 only.1 only.2;
    }
      where
        next : (ms more : List ℕ) → ms ≡ front ++ more → AreLines p (s ∷ schemes) rest more → (more : List ℕ)
            × (ms ≡ (front ++ n ∷ []) ++ more) × AreLines p schemes after more
        next ms [] split lines = absurd (some_lines s n rest after begins.split lines.split)
        next ms (m ∷ more) split lines =
            let same = one m _ (past_lines (schemes_before more schemes)) (lines_first s schemes rest m more lines) in
            let here : ms ≡ front ++ n ∷ more = split ∙ ap (λ k. front ++ k ∷ more) (sym same.0) in (
              more,
              here ∙ sym (append_assoc front (n ∷ []) more),
              record {
                counts_are = lines.counts_are.1;
                split =
                    same.1;
              },
            )

    pub before-none : (s : Scheme) (schemes : Schemes) (rest : List ℕ) → Before all text front (s ∷ schemes) rest
        → (rest ≡ [] → ⊥)
        → ((m : ℕ) (other : List ℕ) → IsPastAttributes p other → BeginsWith p s rest m other → ⊥) → (ms : List ℕ)
        → AreLines p all text ms → ⊥
    before-none s schemes rest before full none ms lines = let only = before.only ms lines in by only.0 only.2
      where
        by : (more : List ℕ) → AreLines p (s ∷ schemes) rest more → ⊥
        by [] lines = full lines.split
        by (m ∷ more) lines = none m _ (past_lines (schemes_before more schemes))
            (lines_first s schemes rest m more lines)

    pub before-all : (schemes : Schemes) (rest : List ℕ) → Before all text front schemes rest → rest ≡ []
        → AreLines p all text front
    before-all schemes rest before over = subst (AreLines p all text) (append-nil front)
        (before.completes [] (record { counts_are = tt; split = over }))

    pub before-left : (rest : List ℕ) → Before all text front [] rest → (rest ≡ [] → ⊥) → (ms : List ℕ)
        → AreLines p all text ms → ⊥
    before-left rest before left ms lines = let only = before.only ms lines in left (by only.0 only.2)
      where
        by : (more : List ℕ) → AreLines p [] rest more → rest ≡ []
        by [] lines = lines.split
        by (m ∷ more) lines = absurd lines.counts_are

-- ---- the first line

-- the version is one
first_apart : Path ℕ 49 50 → ⊥
first_apart e = omega (arith, e)

pub first_lines : (v w : Version) (rest other : List ℕ) → first_line v ++ rest ≡ first_line w ++ other → rest ≡ other
first_lines One One rest other e = append_cancel_left (first_line One) rest other e
first_lines Two Two rest other e = append_cancel_left (first_line Two) rest other e
first_lines One Two rest other e = absurd (first_apart (ap (λ (x : List ℕ). get_or x 8 0) e))
first_lines Two One rest other e = absurd (first_apart (sym (ap (λ (x : List ℕ). get_or x 8 0) e)))

module _ (p : Policy) (schemes : Schemes) where
  pub extends_lines : (old rest counts : List ℕ) → ((v : Version) × (old ≡ first_line v ++ rest))
      → Extends p schemes old counts → AreLines p schemes rest counts
  extends_lines old rest counts (v, first) e = record {
    counts_are = e.counts_are;
    split = first_lines v e.version rest (flat_map (relation_lines p) (schemes_before counts schemes))
        (sym first ∙ e.text);
  }

-- ---- the old numbers are one

lines_one : (p : Policy) (schemes : Schemes) (text ns ms : List ℕ) → AreLines p schemes text ns
    → AreLines p schemes text ms → ns ≡ ms
lines_one p schemes text [] [] a b = refl
lines_one p [] text [] (m ∷ ms) a b = absurd b.counts_are
lines_one p [] text (n ∷ ns) ms a b = absurd a.counts_are
lines_one p (s ∷ schemes) text [] (m ∷ ms) a b =
    absurd (some_lines p s m text (flat_map (relation_lines p) (schemes_before ms schemes)) b.split a.split)
lines_one p (s ∷ schemes) text (n ∷ ns) [] a b =
    absurd (some_lines p s n text (flat_map (relation_lines p) (schemes_before ns schemes)) a.split b.split)
lines_one p (s ∷ schemes) text (n ∷ ns) (m ∷ ms) a b =
    let after = flat_map (relation_lines p) (schemes_before ns schemes) in
    let other = flat_map (relation_lines p) (schemes_before ms schemes) in
    let rest = flat_map (line p) (take n s.others) ++ after in
    let headed : text ≡ head_lines p s ++ rest = a.split ∙ append_assoc (head_lines p s)
    (flat_map (line p) (take n s.others)) after in
    let lines : BeginWith (line p) s.others rest n after = record {
      few = a.counts_are.0.0;
      split = refl;
      most =
          λ x xs more at. past_lines p (schemes_before ns schemes) x more;
    } in
    let same = relation_one p s text rest headed n after lines m other (past_lines p (schemes_before ms schemes))
    (record { had = b.counts_are.0; split = b.split }) in
    let tail : ns ≡ ms = lines_one p schemes after ns ms (record { counts_are = a.counts_are.1; split = refl })
    (record { counts_are = b.counts_are.1; split = same.1 }) in
    λ i. same.0 i ∷ tail i

pub old_counts_one : OldCountsAreOne
old_counts_one p schemes old ns ms a b =
    let rest = flat_map (relation_lines p) (schemes_before ns schemes) in
    let first : (v : Version) × (old ≡ first_line v ++ rest) = (a.version, a.text) in
    lines_one p schemes rest ns ms (extends_lines p schemes old rest ns first a)
    (extends_lines p schemes old rest ms first b)

-- a text without a relation is that of none that is extended
pub none_extended : (p : Policy) (schemes : Schemes) (old rest ns counts : List ℕ)
    → ((v : Version) × (old ≡ first_line v ++ rest)) → AreLines p schemes rest ns → length ns ≡ 0
    → Extends p schemes old counts → ⊥
none_extended p schemes old rest ns counts first lines none extends =
    let same = lines_one p schemes rest ns counts lines (extends_lines p schemes old rest counts first extends) in
    let some = extends.some in
    omega (arith, none, ap length same, some)

-- and that of some is
pub extended : (p : Policy) (schemes : Schemes) (old rest ns : List ℕ) → ((v : Version) × (old ≡ first_line v ++ rest))
    → AreLines p schemes rest ns → (length ns ≡ 0 → ⊥) → Extends p schemes old ns
extended p schemes old rest ns first lines some = record {
  version = first.0;
  some = omega (arith, some);
  counts_are = lines.counts_are;
  text = first.1 ∙ ap (λ (x : List ℕ). first_line first.0 ++ x) lines.split;
}

pub ruleset extended_steps = (none_extended, extended)
