use Rattle.std.proofs.Common.{sym, subst, ◌∙◌}
use Rattle.mls_audit.specs.Spelling.{IsTimed}
use Rattle.mls_sessions.proofs.NamingLemmas.{copy_is_short, spelled_as}
use Rattle.mls_sessions.proofs.calling.bytes_of.Goals as goal

pub entry_bytes-requires : goal.entry_bytes-requires
entry_bytes-requires c = (
  subst IsTimed (sym c.in_ok-time.ensures) c.requires.timed,
  copy_is_short c.in_ok-user.user _ c.in_ok-user.ensures c.user_name.ensures.name,
  copy_is_short c.in_ok-session.session _ (c.in_ok-session.ensures ∙ c.deref.ensures) c.requires.session,
  c.requires.short,
)

pub returns-clause-spelled : goal.returns-clause-spelled
returns-clause-spelled c =
    spelled_as c.entry_bytes.result _ _
    (λ i. record {
      label = c.args.label;
      time = c.in_ok-time.ensures i;
      user = (c.in_ok-user.ensures ∙ c.user_name.ensures.same) i;
      session = (c.in_ok-session.ensures ∙ c.deref.ensures) i;
      deed = c.args.deed;
    }) (
      subst IsTimed (sym c.in_ok-time.ensures) c.requires.timed,
      copy_is_short c.in_ok-user.user _ c.in_ok-user.ensures c.user_name.ensures.name,
      copy_is_short c.in_ok-session.session _ (c.in_ok-session.ensures ∙ c.deref.ensures) c.requires.session,
      c.requires.short,
    )
    c.entry_bytes.ensures.whole
