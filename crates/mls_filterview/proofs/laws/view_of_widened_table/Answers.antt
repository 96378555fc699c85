-- proofs/laws/view_of_widened_table/Answers.antt
use Rattle.mls_filterview.proofs.WidenLemmas.{view_of_widened_table}
use Rattle.mls_filterview.proofs.laws.view_of_widened_table.Goals as goal

pub returns : goal.returns
returns c = view_of_widened_table
