use Rattle.std.proofs.Common.{◌≡◌, IfOk, sym, ap, ◌∙◌, subst}
use Rattle.mls_translang.specs.Tx.{Tx}
use Rattle.mls_certcheck.specs.MeaningLaws.{ArgsFit}
use Rattle.mls_machine.specs.Denying.{fitted}
use Rattle.mls_trusted.specs.Runs.{MayCallInside}
use Rattle.mls_machine.proofs.ArgumentLemmas.{fitted_fit}
use Rattle.mls_filterview.proofs.AccessLemmas.{avoids_then, avoids_some}
use Rattle.mls_sessions.proofs.calling.run_certified.Goals as goal

pub evaluate_in-requires : goal.evaluate_in-requires
evaluate_in-requires g c =
    let made : c.in_ok-args.args.items ≡ fitted c.tx.result.now.params c.args.args.now =
    subst (λ r. IfOk r (λ v. v.items ≡ fitted c.tx.result.now.params c.args.args.now)) c.in_ok-args.ensures.value c.fitted.ensures in
    subst (λ b. MayCallInside g.B.Base.seen c.args.site.now.policy.now c.args.site.now.schemes.now c.args.certified.now.tx c.deref.result.now c.args.views.now b)
    (sym c.in_ok-args.ensures.same) (record {
      call = record {
        under = c.args.site.now.under;
        read = c.requires.may.read;
        args = subst (ArgsFit c.args.certified.now.tx)
            (sym (c.deref.ensures.value ∙ made ∙ ap (λ (t : Tx). fitted t.params c.args.args.now) c.tx.ensures))
            (fitted_fit c.args.certified.now.tx c.args.args.now c.requires.may.count);
        content = λ clean. (c.requires.found.sound clean).content;
      };
      begun = c.requires.found.mode;
      views = c.requires.found.views;
    })

pub returns-clause-access : goal.returns-clause-access
returns-clause-access g c = λ cert rules. avoids_then (avoids_some c.in_ok-args.ensures.access)
    (c.evaluate_in.ensures.access cert rules)

pub returns-in_err-args-clause-access : goal.returns-in_err-args-clause-access
returns-in_err-args-clause-access g c = λ cert rules. avoids_some c.in_err-args.ensures.access
