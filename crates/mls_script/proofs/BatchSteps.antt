-- The commands of a batch, one after another.
use Rattle.std.proofs.Common.{◌≡◌, ℕ, suc, ◌+◌, ◌-◌, ◌<◌, true, false, cond, List, [], ◌∷◌, ◌++◌, Ok, Err, refl, ap, ◌∙◌, arith}
use Rattle.mls_lattice.specs.Policy.{Policy}
use Rattle.mls_lattice.specs.Reading.{◌>>=◌}
use Rattle.mls_scheme.specs.Scheme.{Schemes}
use Rattle.mls_parser.specs.declared.fault.PlacedFault.{PlacedFault}
use Rattle.mls_parser.specs.Noted.{State, Read}
use Rattle.mls_translang.specs.declared.event.One.{One}
use Rattle.mls_translang.specs.Event.{most_ones}
use Rattle.mls_script.specs.ReadBatch.{ends_at, excess_at, one_at, ones_from}

one_less : (n k : ℕ) → k < n → n - k ≡ suc (n - (k + 1))
one_less n k within = omega (arith, within)

none_left : (n k : ℕ) → (k < n → ⊥) → n - k ≡ 0
none_left n k past = omega (arith, past)

module _ (policy : Policy) (schemes : Schemes) (start : State) where
  abbrev whole : Read (List One)
  whole = ones_from policy schemes most_ones [] start

  -- what is left to read, behind the commands that were read, is the whole
  pub record OnesSoFar (count : ℕ) (front : List One) (s : State) : Type 0 where
    pub same : whole ≡ ones_from policy schemes (most_ones - count) front s

  none_is : (front : List One) (s : State) → ones_from policy schemes 0 front s ≡ excess_at s
  unfolding ones_from
  none_is front s = refl

  next_is : (n : ℕ) (front : List One) (s : State) → ones_from policy schemes (suc n) front s
      ≡ (one_at policy schemes s >>= λ one. ends_at one.1 >>= λ ends. cond ends.0 (Ok (front ++ one.0 ∷ [], ends.1))
      (ones_from policy schemes n (front ++ one.0 ∷ []) ends.1))
  unfolding ones_from
  next_is n front s = refl

  pub ones_none : OnesSoFar 0 [] start
  ones_none = record { same = refl }

  module _ (count : ℕ) (front : List One) (s : State) (h : OnesSoFar count front s) where
    pub ones_excess : (count < most_ones → ⊥) → whole ≡ excess_at s
    ones_excess past =
        h.same ∙ ap (λ n. ones_from policy schemes n front s) (none_left most_ones count past) ∙ none_is front s

    module _ (within : count < most_ones) where
      onward : whole ≡ (one_at policy schemes s >>= λ one. ends_at one.1 >>= λ ends. cond ends.0
          (Ok (front ++ one.0 ∷ [], ends.1)) (ones_from policy schemes (most_ones - (count + 1)) (front ++ one.0
          ∷ []) ends.1))
      onward =
          h.same ∙ ap (λ n. ones_from policy schemes n front s) (one_less most_ones count within)
          ∙ next_is (most_ones - (count + 1)) front s

      pub one_err : (e : PlacedFault) → one_at policy schemes s ≡ Err e → whole ≡ Err e
      one_err e is = onward ∙ ap (λ r. r >>= λ one. ends_at one.1 >>= λ ends. cond ends.0
          (Ok (front ++ one.0 ∷ [], ends.1)) (ones_from policy schemes (most_ones - (count + 1)) (front ++ one.0
          ∷ []) ends.1)) is

      module _ (one : One) (m : State) (is : one_at policy schemes s ≡ Ok (one, m)) where
        behind : whole ≡ (ends_at m >>= λ ends. cond ends.0 (Ok (front ++ one ∷ [], ends.1)) (ones_from policy schemes
            (most_ones - (count + 1)) (front ++ one ∷ []) ends.1))
        behind = onward ∙ ap (λ r. r >>= λ x. ends_at x.1 >>= λ ends. cond ends.0 (Ok (front ++ x.0 ∷ [], ends.1))
            (ones_from policy schemes (most_ones - (count + 1)) (front ++ x.0 ∷ []) ends.1)) is

        pub ends_err : (e : PlacedFault) → ends_at m ≡ Err e → whole ≡ Err e
        ends_err e at = behind ∙ ap (λ r. r >>= λ ends. cond ends.0 (Ok (front ++ one ∷ [], ends.1))
            (ones_from policy schemes (most_ones - (count + 1)) (front ++ one ∷ []) ends.1)) at

        pub ones_end : (l : State) → ends_at m ≡ Ok (true, l) → whole ≡ Ok (front ++ one ∷ [], l)
        ones_end l at = behind ∙ ap (λ r. r >>= λ ends. cond ends.0 (Ok (front ++ one ∷ [], ends.1))
            (ones_from policy schemes (most_ones - (count + 1)) (front ++ one ∷ []) ends.1)) at

        pub ones_more : (l : State) → ends_at m ≡ Ok (false, l) → OnesSoFar (count + 1) (front ++ one ∷ []) l
        ones_more l at = record {
          same = behind ∙ ap (λ r. r >>= λ ends. cond ends.0 (Ok (front ++ one ∷ [], ends.1))
              (ones_from policy schemes (most_ones - (count + 1)) (front ++ one ∷ []) ends.1)) at;
        }

pub ruleset batch_steps = (ones_none, ones_excess, one_err, ends_err, ones_end, ones_more)
