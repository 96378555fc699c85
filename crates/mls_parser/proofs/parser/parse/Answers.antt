use Rattle.std.proofs.Common.{rules, ◌≡◌, ℕ, List, Err, refl, sym, ap, ◌∙◌}
use Rattle.mls_lattice.specs.Policy.{IsPolicy}
use Rattle.mls_scheme.specs.Scheme.{AreSchemes}
use Rattle.mls_parser.specs.declared.fault.PlacedFault.{PlacedFault}
use Rattle.mls_parser.specs.declared.fault.TextFault.{TextFault}
use Rattle.mls_parser.specs.Fault.{in_text}
use Rattle.mls_parser.specs.Parsing.{placed_in}
use Rattle.mls_parser.proofs.LawLemmas.{never_told}
use Rattle.mls_parser.proofs.LeastLemmas.{read_right, refused_least}
use Rattle.mls_parser.proofs.parser.parse.Goals as goal

same_cause : (bytes : List ℕ) (f : PlacedFault) → (in_text bytes f).cause ≡ f.cause
unfolding in_text
same_cause bytes f = refl

pub returns-in-Err-clause-exact : goal.returns-in-Err-clause-exact
returns-in-Err-clause-exact c =
    λ other.
    let bytes = c.args.bytes.now in
    let fault = c.in-Err.fault in
    let is : c.in_text.result ≡ in_text bytes fault = search rules in
    ap (placed_in bytes) (c.in-Err.ensures.exact (λ e. other (ap (λ t. t.cause) is ∙ same_cause bytes fault ∙ e)))
    ∙ ap (λ (t : TextFault). Err t) (sym is)

pub returns-in-Ok-clause-judged : goal.returns-in-Ok-clause-judged
returns-in-Ok-clause-judged c = λ x right. read_right c.args.policy.now c.args.schemes.now c.args.bytes.now x right c.in-Ok.txs c.in-Ok.ensures.exact

pub returns-in-Err-clause-judged : goal.returns-in-Err-clause-judged
returns-in-Err-clause-judged c =
    λ x right other.
    let bytes = c.args.bytes.now in
    let fault = c.in-Err.fault in
    let is : c.in_text.result ≡ in_text bytes fault = search rules in (
      fault,
      refused_least c.args.policy.now c.args.schemes.now bytes x right fault
          (c.in-Err.ensures.exact (λ e. other (ap (λ t. t.cause) is ∙ same_cause bytes fault ∙ e))),
      is,
    )

pub returns-in-Err-clause-refused : goal.returns-in-Err-clause-refused
returns-in-Err-clause-refused c =
    λ other.
    let policy : IsPolicy c.args.policy.now = search rules in
    let schemes : AreSchemes c.args.schemes.now = search rules in
    never_told c.args.policy.now c.args.schemes.now policy schemes c.args.bytes.now c.in_text.result
    (returns-in-Err-clause-exact c other)
