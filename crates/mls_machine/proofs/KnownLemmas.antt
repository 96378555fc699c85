-- Classes that are numbers of labels, as a test and as a fact; and replies that can be printed.
use Rattle.std.proofs.Common.{◌≡◌, ℕ, ◌<◌, true, List, [], ◌∷◌, length, refl, ltb-true, lt-ltb}
use Rattle.std.specs.List.{AllByRecursion}
use Rattle.std.proofs.lemmas.Bool.{and_parts, and_from}
use Rattle.mls_lattice.specs.Policy.{Policy}
use Rattle.mls_scheme.specs.declared.tuple.Element.{Element}
use Rattle.mls_scheme.specs.declared.tuple.Tuple.{Tuple}
use Rattle.mls_scheme.specs.Tuple.{HasClassesBelow}
use Rattle.mls_machine.specs.declared.reply.Answer.{Answer}
use Rattle.mls_machine.specs.declared.reply.Answer.TheVariants as answers
use Rattle.mls_machine.specs.Known.{elements_known, tuples_known, answer_known, answers_known}
use Rattle.mls_machine.specs.Printable.{AnswerIsKnown}

elements-true : (n : ℕ) (es : List Element) → elements_known n es ≡ true → AllByRecursion (λ e. e.class < n) es
elements-true n [] h = tt
elements-true n (e ∷ es) h = let p = and_parts _ _ h in (ltb-true e.class n p.0, elements-true n es p.1)

elements-again : (n : ℕ) (es : List Element) → AllByRecursion (λ e. e.class < n) es → elements_known n es ≡ true
elements-again n [] h = refl
elements-again n (e ∷ es) h = and_from _ _ (lt-ltb e.class n h.0) (elements-again n es h.1)

pub tuples-true : (n : ℕ) (ts : List Tuple) → tuples_known n ts ≡ true → AllByRecursion (HasClassesBelow n) ts
tuples-true n [] h = tt
tuples-true n (t ∷ ts) h =
    let p = and_parts _ _ h in
    let q = and_parts _ _ p.0 in
    (record { key_class = ltb-true t.key_class n q.0; elements = elements-true n t.elements q.1 }, tuples-true n ts p.1)

pub tuples-again : (n : ℕ) (ts : List Tuple) → AllByRecursion (HasClassesBelow n) ts → tuples_known n ts ≡ true
tuples-again n [] h = refl
tuples-again n (t ∷ ts) h = and_from _ _ (and_from _ _ (lt-ltb t.key_class n h.0.key_class)
    (elements-again n t.elements h.0.elements)) (tuples-again n ts h.1)

answer-true : (p : Policy) (a : Answer) → answer_known (length p.labels) a ≡ true → AnswerIsKnown p a
answer-true p (answers.Rows tuples) h = tuples-true (length p.labels) tuples h
answer-true p (answers.Became o) h = tt

answer-again : (p : Policy) (a : Answer) → AnswerIsKnown p a → answer_known (length p.labels) a ≡ true
answer-again p (answers.Rows tuples) h = tuples-again (length p.labels) tuples h
answer-again p (answers.Became o) h = refl

pub answers-true : (p : Policy) (given : List Answer) → answers_known (length p.labels) given ≡ true
    → AllByRecursion (AnswerIsKnown p) given
answers-true p [] h = tt
answers-true p (a ∷ given) h = let q = and_parts _ _ h in (answer-true p a q.0, answers-true p given q.1)

pub answers-again : (p : Policy) (given : List Answer) → AllByRecursion (AnswerIsKnown p) given
    → answers_known (length p.labels) given ≡ true
answers-again p [] h = refl
answers-again p (a ∷ given) h = and_from _ _ (answer-again p a h.0) (answers-again p given h.1)

pub ruleset known_steps = (tuples-true, tuples-again, answers-true, answers-again)
