use Rattle.std.proofs.Common.{length}
use Rattle.mls_scheme.specs.Scheme.{scheme_of}
use Rattle.mls_sessions.proofs.looking.dump.Goals as goal

pub low_tuples-requires : goal.low_tuples-requires
low_tuples-requires g c = record {
  label = c.requires.level;
  stored = λ h. (
    length (scheme_of c.args.site.now.schemes.now c.args.relation).others,
    ((c.requires.sound h).content c.args.relation).stored,
  );
}
