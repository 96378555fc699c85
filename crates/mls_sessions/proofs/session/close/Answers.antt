use Rattle.std.proofs.Common.{rules}
use Rattle.std.proofs.lemmas.Fn.{filter_same}
use Rattle.mls_sessions.proofs.SessionLemmas.{closed, closed_users}
use Rattle.mls_sessions.proofs.session.close.Goals as goal

pub returns-clause-closed : goal.returns-clause-closed
returns-clause-closed c =
    closed c.args.level c.args.name.now c.args.sessions.now.items c.retain.new.self.items
    (filter_same _ _ _ (λ x b f' k. search rules) _ _ c.retain.ensures.filtered)

pub returns-clause-users : goal.returns-clause-users
returns-clause-users c =
    closed_users c.args.level c.args.name.now c.args.sessions.now.items c.retain.new.self.items
    (filter_same _ _ _ (λ x b f' k. search rules) _ _ c.retain.ensures.filtered)
