-- Faults of a base as causes for which runs stop.
use Rattle.mls_filterview.specs.declared.base.BaseFault.{BaseFault}
use Rattle.mls_filterview.specs.declared.base.BaseFault.TheVariants as faults
use Rattle.mls_translang.specs.declared.run_fault.RunCause.{RunCause}
use Rattle.mls_translang.specs.declared.run_fault.RunCause.TheVariants.{Store, Memory}

-- a wrong use of a base would be a fault of the store
abbrev pub cause_of : BaseFault → RunCause
cause_of faults.Store = Store
cause_of faults.Memory = Memory
cause_of faults.NotBegun = Store
cause_of faults.Begun = Store
