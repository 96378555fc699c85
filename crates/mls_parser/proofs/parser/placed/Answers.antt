use Rattle.std.proofs.Common.{rules, ◌≡◌, [], map, None, Ok, sym, subst}
use Rattle.mls_tokens.specs.Scanning.{tokens_at}
use Rattle.mls_translang.specs.Tells.{Tells}
use Rattle.mls_parser.specs.Fault.{least_from}
use Rattle.mls_parser.specs.ReadTx.{tx_of, transactions_at}
use Rattle.mls_parser.proofs.ParsedLemmas.{found_told, found_each}
use Rattle.mls_parser.proofs.parser.placed.Goals as goal

pub without_fault-requires : goal.without_fault-requires
without_fault-requires c =
    let drafts = c.in_ok-drafts.drafts.items in
    let read : transactions_at c.args.policy.now c.args.schemes.now ([], tokens_at c.args.bytes.now)
    ≡ Ok (drafts, c.transactions.new.reader) = search rules in
    let none : None ≡ least_from None c.transactions.new.reader.0 = search rules in
    found_each c.args.policy.now c.args.schemes.now c.args.bytes.now drafts c.transactions.new.reader read none

pub returns-clause-told : goal.returns-clause-told
returns-clause-told c =
    let drafts = c.in_ok-drafts.drafts.items in
    let read : transactions_at c.args.policy.now c.args.schemes.now ([], tokens_at c.args.bytes.now)
    ≡ Ok (drafts, c.transactions.new.reader) = search rules in
    let none : None ≡ least_from None c.transactions.new.reader.0 = search rules in
    let is : c.in_ok-without_fault-in-None.field-0 ≡ map tx_of drafts = search rules in
    subst (λ txs. Tells c.args.policy.now c.args.schemes.now c.args.bytes.now txs) (sym is)
    (found_told c.args.policy.now c.args.schemes.now c.args.bytes.now drafts c.transactions.new.reader read none)
