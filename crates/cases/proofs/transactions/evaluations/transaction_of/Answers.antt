use Rattle.std.proofs.Common.{◌≡◌, ◌++◌, rules, option_to_list}
use Rattle.mls_translang.specs.Fits.{IsReadUnder}
use Rattle.cases.proofs.StartLemmas.{last_holds}
use Rattle.cases.proofs.transactions.evaluations.transaction_of.Goals as goal

pub returns-in-Ok : goal.returns-in-Ok
returns-in-Ok c =
    let split : c.in-Ok.txs ≡ c.pop.new.self.items ++ option_to_list c.pop.result = search rules in
    last_holds (IsReadUnder c.args.sample.now.policy.now c.args.sample.now.schemes.now) c.in-Ok.txs c.pop.new.self.items c.pop.result split c.in-Ok.ensures.read.each
