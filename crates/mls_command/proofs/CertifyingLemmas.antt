-- The labels of transactions have a text.
use Rattle.std.proofs.Common.{List, [], ◌∷◌, sym, ◌∙◌}
use Rattle.std.specs.List.{AllByRecursion}
use Rattle.mls_lattice.specs.Policy.{Policy}
use Rattle.mls_translang.specs.Tx.{Tx}
use Rattle.mls_certcheck.specs.declared.cert.Certificate.TheVariants.{One, Two}
use Rattle.mls_command.specs.declared.certifying.Labels.{Labels}
use Rattle.mls_command.specs.declared.certifying.Labels.TheVariants.{Least, Missing}
use Rattle.mls_command.specs.declared.certifying.Answer.{Answer}
use Rattle.mls_command.specs.Certifying.{AreLabels, AreAnswers, HaveText}

labels_have_text : (policy : Policy) (tx : Tx) (labels : Labels) → AreLabels policy tx labels → HaveText labels
labels_have_text policy tx (Least (One cert)) h = tt
labels_have_text policy tx (Least (Two cert)) h = h.obeys.stmt_count.0 ∙ sym h.obeys.stmt_count.1
labels_have_text policy tx (Missing stmt rule) h = tt

pub answers_have_text : (policy : Policy) (txs : List Tx) (answers : List Answer) → AreAnswers policy txs answers
    → AllByRecursion (λ a. HaveText a.labels) answers
answers_have_text policy [] [] h = tt
answers_have_text policy [] (a ∷ answers) h = absurd h
answers_have_text policy (tx ∷ txs) [] h = absurd h
answers_have_text policy (tx ∷ txs) (a ∷ answers) h = (
  labels_have_text policy tx a.labels h.0.1,
  answers_have_text policy txs answers h.1,
)
