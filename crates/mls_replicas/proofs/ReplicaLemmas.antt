-- What replicas show: a level sees of two logs with one feed the same.
use Rattle.std.proofs.Common.{◌≡◌, Bool, map, ap}
use Rattle.mls_lattice.specs.Labels.{below}
use Rattle.mls_translang.specs.declared.event.Event.{Event}
use Rattle.mls_certcheck.specs.Site.{site_labels}
use Rattle.mls_machine.specs.Observation.{glimpse, seen}
use Rattle.mls_machine.proofs.AlikeLemmas.{filter_within}
use Rattle.mls_machine.proofs.RunLemmas.{accepted_alike}
use Rattle.mls_machine.proofs.ServingLemmas.{served_alike}
use Rattle.mls_replicas.specs.Replicas.{ReplicasAgree, AcceptedReplicasAgree, FeedsAreFed}

pub replicas_alike : ReplicasAgree
replicas_alike site v log secret c w own sw fits agree fed released =
    let same : seen site c log ≡ seen site c own = ap (map (glimpse site c)) fed in
    (secret c w own sw fits agree same released, served_alike site c v log secret w own sw fits agree same released)

pub accepted_replicas : AcceptedReplicasAgree
accepted_replicas site distinct read certified v log sv fits = replicas_alike site v log
    (accepted_alike site distinct read certified v log sv fits)

pub feeds_fed : FeedsAreFed
feeds_fed site c log =
    let is_low : Event → Bool = λ e. below (site_labels site) e.level c in
    filter_within is_low is_low (λ e h. h) log
