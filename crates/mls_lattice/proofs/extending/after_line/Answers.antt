use Rattle.std.proofs.Common.{◌≡◌, ◌≢◌, ◌++◌, ℕ, List, subst, MatchOption}
use Rattle.std.proofs.lemmas.Bool.Decides.{Decides-eqb}
use Rattle.std.proofs.lemmas.Slice.Eq.{strip_prefix_is}
use Rattle.mls_lattice.proofs.extending.after_line.Goals as goal

pub returns : goal.returns
returns c =
    subst (λ (p : List ℕ). MatchOption c.strip_prefix.result ((more : List ℕ) → c.args.text.now ≢ p ++ more)
    (λ x. c.args.text.now ≡ p ++ x.now)) c.as_bytes.ensures.value
    (strip_prefix_is Decides-eqb c.args.text.now c.as_bytes.result.now c.strip_prefix.result c.strip_prefix.ensures.cases)
