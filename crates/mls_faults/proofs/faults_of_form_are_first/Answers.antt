use Rattle.mls_faults.proofs.LawLemmas.{faults_come_first, faults_stay, faults_tell_none, lines_come_first, lines_stay}
use Rattle.mls_faults.proofs.faults_of_form_are_first.Goals as goal

pub returns-clause-stay : goal.returns-clause-stay
returns-clause-stay c = faults_stay

pub returns-clause-tell_none : goal.returns-clause-tell_none
returns-clause-tell_none c = faults_tell_none

pub returns-clause-come_first : goal.returns-clause-come_first
returns-clause-come_first c = faults_come_first

pub returns-clause-lines_stay : goal.returns-clause-lines_stay
returns-clause-lines_stay c = λ policy schemes p s. lines_stay policy schemes

pub returns-clause-lines_come_first : goal.returns-clause-lines_come_first
returns-clause-lines_come_first c = λ policy schemes p s. lines_come_first policy schemes
