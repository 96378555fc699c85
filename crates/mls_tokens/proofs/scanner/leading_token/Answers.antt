use Rattle.mls_tokens.proofs.TokenLemmas.{scan_shorter}
use Rattle.mls_tokens.proofs.scanner.leading_token.Goals as goal

pub returns-clause-shorter : goal.returns-clause-shorter
returns-clause-shorter c = scan_shorter c.args.bytes.now c.scan.result c.scan.ensures
