-- The lines of the rules set lower bounds, and labels that meet these break a line only where all greater labels do.
use Rattle.std.proofs.Common.{ℕ, List, [], ◌∷◌, flat_map}
use Rattle.std.specs.List.{AllByRecursion}
use Rattle.mls_lattice.specs.Lattice.{Pair, Dominates}
use Rattle.mls_lattice.specs.Labels.{Labels, label_of}
use Rattle.mls_lattice.proofs.LatticeLemmas.{Dominates-refl, Dominates-trans}
use Rattle.mls_translang.specs.Tx.{Tx}
use Rattle.mls_certcheck.specs.declared.cert.Certificate.{Certificate}
use Rattle.mls_certcheck.specs.declared.flow.Line.{Line}
use Rattle.mls_certcheck.specs.Lines.{by, within_ends, tx_lines, lines}
use Rattle.mls_certcheck.specs.Rules.{Claim, Rules, hi, source_label, IsAbove, IsObeyed}
use Rattle.mls_certcheck.specs.declared.flow.Source.{Source}
use Rattle.mls_certcheck.specs.declared.flow.Source.TheVariants.{Held, Parameter, Declared}
use Rattle.mls_certcheck.specs.declared.flow.Flow.{Flow}
use Rattle.mls_certcheck.specs.declared.flow.Flow.TheVariants.{Into, Kept, Within, Under}
use Rattle.mls_certcheck.specs.declared.refusal.Rule.{Rule}
use Rattle.mls_certcheck.specs.declared.refusal.Rule.TheVariants as rule
use Rattle.mls_lattice.proofs.EachLemmas.{all_append, all_back, all_if, all_zip}
use Rattle.mls_labeller.specs.Flows.{body_lines, IsBounded}
use Rattle.mls_labeller.specs.Least.{Meets, Below}

-- ---- the lines hold: so do those that raise labels

module _ (c : Claim) where
  abbrev Bounded : Line → Type 0
  Bounded line = IsBounded c line.flow

  is_bounded : (f : Flow) → IsObeyed c f → IsBounded c f
  is_bounded (Into ts ss) h = h
  is_bounded (Kept m n but) h = h
  is_bounded (Within limit ss) h = tt
  is_bounded (Under ss) h = tt

  pub rules_meet : Rules c → Meets c
  rules_meet r = record {
    var_count = r.var_count;
    stmt_count = r.stmt_count;
    bounds = all_if (λ line. IsObeyed c line.flow) Bounded (λ line. is_bounded line.flow) (lines c.tx) r.lines;
  }

  -- those of the transaction itself raise none
  ends_bounded : {A : Type 0} (label : A → ℕ) (r : Rule) (xs : List A)
      → AllByRecursion Bounded (by 0 r (flat_map (λ x. within_ends (label x)) xs))
  ends_bounded label r [] = tt
  ends_bounded label r (x ∷ xs) = (tt, (tt, ends_bounded label r xs))

  pub all_bounded : AllByRecursion Bounded (body_lines c.tx) → AllByRecursion Bounded (lines c.tx)
  all_bounded h = all_append Bounded (tx_lines c.tx) (body_lines c.tx) (
    tt,
    ends_bounded (λ p. p.1.label) rule.Context c.tx.params,
  ) h

  pub body_bounded : AllByRecursion Bounded (lines c.tx) → AllByRecursion Bounded (body_lines c.tx)
  body_bounded h = all_back Bounded (tx_lines c.tx) (body_lines c.tx) h

-- ---- what greater labels obey, lesser labels do that meet the bounds

module _ (ls : Labels) (tx : Tx) (x y : Certificate) where
  abbrev cx : Claim
  cx = record { labels = ls; tx = tx; cert = x }

  abbrev cy : Claim
  cy = record { labels = ls; tx = tx; cert = y }

  module _ (below : Below cx cy) where
    source_falls : (s : Source) → Dominates (source_label cy s) (source_label cx s)
    source_falls (Held t) = below t
    source_falls (Parameter i) = Dominates-refl _
    source_falls (Declared label) = Dominates-refl _

    pub over_falls : (p : Pair) (ss : List Source) → IsAbove cy p ss → IsAbove cx p ss
    over_falls p ss h = all_if (λ s. Dominates p (source_label cy s)) (λ s. Dominates p (source_label cx s))
        (λ s d. Dominates-trans p (source_label cy s) (source_label cx s) d (source_falls s)) ss h

    flow_falls : (f : Flow) → IsBounded cx f → IsObeyed cy f → IsObeyed cx f
    flow_falls (Into ts ss) h g = h
    flow_falls (Kept m n but) h g = h
    flow_falls (Within limit ss) h g = over_falls (label_of ls limit) ss g
    flow_falls (Under ss) h g = over_falls (hi cy) ss g

    pub lesser_obey : Meets cx → Rules cy → Rules cx
    lesser_obey m r = record {
      var_count = m.var_count;
      stmt_count = m.stmt_count;
      lines = all_zip (λ line. IsBounded cx line.flow) (λ line. IsObeyed cy line.flow) (λ line. IsObeyed cx line.flow)
          (λ line. flow_falls line.flow) (lines tx) m.bounds r.lines;
    }
