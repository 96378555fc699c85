-- The rules of certificates imply security.
use Rattle.std.proofs.Common.{◌≡◌, ℕ, suc, true, false, List, [], ◌∷◌, length, get_or, subst, Option, None, refl, sym, ◌∙◌, arith, inl, inr, nat_lt, slice_index_or, ltb-true, ltb-false}
use Rattle.std.proofs.lemmas.Bool.{cases_Bool, false_from_ne_true}
use Rattle.std.proofs.lemmas.List.{get_or_past}
use Rattle.mls_lattice.specs.Lattice.{◌⊑◌}
use Rattle.mls_lattice.specs.Labels.{label_of}
use Rattle.mls_lattice.specs.Policy.{Policy, labels_of}
use Rattle.mls_scheme.specs.declared.value.Value.{Value}
use Rattle.mls_filterview.proofs.LevelLemmas.{low_from_views, views_from_low}
use Rattle.mls_translang.specs.Tx.{Tx, scope_of}
use Rattle.mls_certcheck.specs.Meaning.{start}
use Rattle.mls_certcheck.specs.Secure.{SameArgs, param_labels}
use Rattle.mls_certcheck.specs.Sharp.{RulesMakeSharp, CeilingsTellNothing}
use Rattle.mls_certcheck.specs.CanTell.{Tells, TellsAt, CanTell}
use Rattle.mls_certcheck.specs.Points.{Shape, Plain, Point}
use Rattle.mls_certcheck.specs.Lines.{names, all_points}
use Rattle.mls_certcheck.specs.declared.flow.Source.{Source}
use Rattle.mls_translang.specs.Tree.{Release}
use Rattle.std.specs.Prelude.{Contains}
use Rattle.std.specs.List.{AllByRecursion}
use Rattle.mls_lattice.specs.Lattice.{Pair, Dominates}
use Rattle.mls_lattice.specs.Labels.{below}
use Rattle.mls_lattice.proofs.EachLemmas.{all_at}
use Rattle.mls_lattice.proofs.LatticeLemmas.{Dominates-trans}
use Rattle.mls_filterview.proofs.ClassLemmas.{below-Dominates}
use Rattle.mls_certcheck.proofs.KeepingLemmas.{block_stored}
use Rattle.mls_certcheck.specs.Rules.{Claim, claim, hi, pc, source_label, IsAbove}
use Rattle.mls_certcheck.specs.Laws.{RulesMakeSecure}
use Rattle.mls_certcheck.proofs.LineLemmas.{Obeys, rules_everywhere, release_names}
use Rattle.mls_certcheck.proofs.PointLemmas.{below-⊑, ⊑-below, around_above, has_no_more}
use Rattle.mls_certcheck.proofs.QuietLemmas.{Agrees, quiet_block}
use Rattle.mls_certcheck.proofs.FlowLemmas.{Around, related_block}

-- the same arguments at the parameters whose labels c dominates, and none past the last
args_same : (policy : Policy) (tx : Tx) (c : ℕ) (args brgs : List (Option Value)) → SameArgs (labels_of policy) c
    (param_labels tx) args brgs
    → (i : ℕ) → label_of (labels_of policy) (slice_index_or (param_labels tx) i 0) ⊑ label_of (labels_of policy) c
    ≡ true → slice_index_or args i None ≡ slice_index_or brgs i None
args_same policy tx c args brgs h i l =
    elim (cases_Bool (nat_lt i (length (param_labels tx)))) [
      | inl t ↦ h.each i (ltb-true i (length (param_labels tx)) t) (below-⊑ (labels_of policy)
          (slice_index_or (param_labels tx) i 0) c true l)
      | inr f ↦
          let past = ltb-false i (length (param_labels tx)) f in
          get_or_past args i None (omega (arith, past, h.count))
          ∙ sym (get_or_past brgs i None (omega (arith, past, h.count')))
    ]

-- where a point tells, the transaction can
excused : (k : Claim) (c : ℕ) (ps : List Point) → ((p : Point) → Contains ps p → TellsAt k c p → CanTell k c)
    → AllByRecursion (Obeys k) ps → AllByRecursion (λ p. Obeys k p × (TellsAt k c p → CanTell k c)) ps
excused k c [] f h = tt
excused k c (p ∷ ps) f h = (
  (h.0, f p (0, omega arith, refl)),
  excused k c ps (λ q has. f q (suc has.0, omega (arith, has.1), has.2)) h.1,
)

pub sharp_rules : RulesMakeSharp
sharp_rules policy distinct tx cert rules = record {
  two_runs = λ c schemes d e args brgs read p q views same.
      let ls = labels_of policy in
      let k = claim policy tx cert in
      let none = has_no_more k rules.var_count in
      let begin : Agrees k c 0 (start d) (start e) = record {
        tables = λ r. low_from_views ls distinct _ _ (d r) (e r)
            (p r) (q r) c (views r);
        values = λ i v. refl;
        emitted = refl;
        released = refl;
      } in
      let around : Around policy distinct tx cert none schemes args brgs c (CanTell k c) [] [] [] =
      record { params = args_same policy tx c args brgs same; rows = λ i l. refl } in
      elim (related_block policy distinct tx cert none schemes args brgs c (CanTell k c) (scope_of tx) tx.body 1 0 0 []
      (excused k c (all_points tx) (λ x has tells. (x, has, tells)) (rules_everywhere k rules))
      read.fits [] [] around (start d) (start e) p q begin) [
        | inl h ↦ inl h
        | inr a ↦ inr (record {
          released = a.released;
          emitted = a.emitted;
          views = λ r. views_from_low ls _ _ _ _ (block_stored policy schemes tx.hi distinct args
              (scope_of tx) tx.body read.fits [] (start d) p r) (block_stored policy schemes tx.hi distinct brgs
              (scope_of tx) tx.body read.fits [] (start e) q r) c (a.tables r);
        })
      ];
}

-- what the ceiling dominates, a level does that dominates the ceiling
under_all : (k : Claim) (p q : Pair) → Dominates p q → (sources : List Source) → IsAbove k q sources
    → IsAbove k p sources
under_all k p q over [] h = tt
under_all k p q over (s ∷ sources) h = (
  Dominates-trans p q (source_label k s) over h.0,
  under_all k p q over sources h.1,
)

pub ceilings_tell_nothing : CeilingsTellNothing
ceilings_tell_nothing policy tx cert rules c under (p, has, tells) =
    let k = claim policy tx cert in
    let there : get_or (all_points tx) has.0 p ≡ p = has.2 in
    at_shape p (subst (Obeys k) there (all_at (Obeys k) (all_points tx) has.0 p has.1
    (rules_everywhere k rules))) p.shape refl tells
  where
    at_shape : (p : Point) → Obeys (claim policy tx cert) p → (shape : Shape) → p.shape ≡ shape
        → Tells (claim policy tx cert) c p.before p.rows shape → ⊥
    at_shape p obeys (Plain (Release e to into)) is tells =
        let k = claim policy tx cert in
        let o = subst (λ s. Obeys k (record {
          number = p.number;
          around = p.around;
          before = p.before;
          rows = p.rows;
          shape = s;
        })) is obeys in
        tells.1 (under_all k (label_of k.labels c) (hi k) (below-Dominates (labels_of policy) tx.hi c under)
        (names p.before p.rows e) (release_names k p.number p.around p.before p.rows e to into o))
    at_shape p obeys _ is tells = tells

pub secure_rules : RulesMakeSecure
secure_rules policy distinct tx cert rules = record {
  two_runs = λ c schemes d e args brgs read p q views same.
      elim ((sharp_rules policy distinct tx cert rules).two_runs c schemes d e args brgs read p q views same) [
        | inl h ↦ inl (
          false_from_ne_true (below (labels_of policy) tx.hi c)
              (λ under. ceilings_tell_nothing policy tx cert rules c under h.0),
          h.1,
        )
        | inr a ↦ inr a
      ];
  one_run = λ c schemes d args read p out.
      let ls = labels_of policy in
      let k = claim policy tx cert in
      let obeys = rules_everywhere k rules in
      let a = (quiet_block policy distinct tx cert (has_no_more k rules.var_count) schemes args c
      (scope_of tx) tx.body 1 0 0 [] (pc k 0) obeys (around_above k tx.body 1 0 0 [] obeys) read.fits
      (⊑-below ls tx.lo c false out) [] (start d) p).same in
      record {
        released = sym a.released;
        emitted = sym a.emitted;
        views = λ r. views_from_low ls _ _ _ _ (block_stored policy schemes tx.hi distinct args
            (scope_of tx) tx.body read.fits [] (start d) p r) (p r) c (sym (a.tables r));
      };
}
