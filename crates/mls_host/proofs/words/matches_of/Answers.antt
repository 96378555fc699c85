use Rattle.std.proofs.Common.{◌≡◌, ◌≤◌, ap, sym, subst, length, ◌∙◌, refl, true}
use Rattle.std.proofs.lemmas.List.{length-map}
use Rattle.clap.specs.Words.{App, HasKind, Kinds, app_of, fault_of, is_simple, is_simple_and_free, kind_of, subcommand_of}
use Rattle.clap.proofs.OnLiterals.{clap_on_literals}
use Rattle.mls_host.specs.Words.{command_line, texts_of}
use Rattle.mls_host.proofs.WordsLemmas.{refused}
use Rattle.mls_host.proofs.words.matches_of.Goals as goal

simple : is_simple command_line ≡ true
unfolding clap_on_literals
simple = refl

free : is_simple_and_free command_line ≡ true
unfolding clap_on_literals
free = refl

pub returns-in-Ok-clause-rows : goal.returns-in-Ok-clause-rows
returns-in-Ok-clause-rows c =
    let line : app_of c.in_ok-command_line.field-0 ≡ command_line = c.in_ok-command_line.ensures.0 in
    (c.in-Ok.ensures.matches (ap is_simple line ∙ simple)).1
    ∙ ap (λ (a : App). subcommand_of a (texts_of c.args.words.now)) line

pub returns-in-Ok-clause-taken : goal.returns-in-Ok-clause-taken
returns-in-Ok-clause-taken c =
    let line : app_of c.in_ok-command_line.field-0 ≡ command_line = c.in_ok-command_line.ensures.0 in
    sym (ap (λ (a : App). fault_of a (texts_of c.args.words.now)) line) ∙ c.in-Ok.ensures.kinds
    (ap is_simple_and_free line ∙ free)

pub returns-in-Err-clause-refused : goal.returns-in-Err-clause-refused
returns-in-Err-clause-refused c =
    let line : app_of c.in_ok-command_line.field-0 ≡ command_line = c.in_ok-command_line.ensures.0 in
    let some : 2 ≤ length (texts_of c.args.words.now) = subst (λ n. 2 ≤ n)
    (sym (length-map c.args.words.now _)) c.requires.some in
    refused (texts_of c.args.words.now) (kind_of c.in-Err.error) c.said.result some
    (subst (λ (ks : Kinds). HasKind ks c.in-Err.error) (ap (λ (a : App). fault_of a (texts_of c.args.words.now)) line)
    (c.in-Err.ensures.kinds (ap is_simple_and_free line ∙ free)))
    c.said.ensures
