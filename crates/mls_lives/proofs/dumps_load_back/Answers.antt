use Rattle.mls_lives.proofs.LoadLemmas.{dumps_load_back, dumps_have_each}
use Rattle.mls_lives.proofs.OrderLemmas.{dumps_come_upward, class_numbers_greatest}
use Rattle.mls_lives.proofs.ShownLemmas.{dumps_show_the_same}
use Rattle.mls_lives.proofs.dumps_load_back.Goals as goal

pub returns-clause-made : goal.returns-clause-made
returns-clause-made c = dumps_load_back

pub returns-clause-each : goal.returns-clause-each
returns-clause-each c = dumps_have_each

pub returns-clause-order : goal.returns-clause-order
returns-clause-order c = dumps_come_upward

pub returns-clause-classes : goal.returns-clause-classes
returns-clause-classes c = class_numbers_greatest

pub returns-clause-shown : goal.returns-clause-shown
returns-clause-shown c = dumps_show_the_same
