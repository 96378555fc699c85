use Rattle.mls_parser.proofs.ConditionFound.{told_kept, fits_kept}
use Rattle.mls_parser.proofs.read_condition.condition.Goals as goal

pub returns-clause-told : goal.returns-clause-told
returns-clause-told c = told_kept c.args.policy.now c.args.schemes.now c.args.relation c.args.reader.now c.tests_of_row.new.reader c.tests_of_row.result c.tests_of_row.ensures

pub returns-clause-fits : goal.returns-clause-fits
returns-clause-fits c = fits_kept c.args.policy.now c.args.schemes.now c.args.relation c.args.reader.now c.tests_of_row.new.reader c.tests_of_row.result c.tests_of_row.ensures
