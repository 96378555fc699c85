use Rattle.std.proofs.Common.{[], sym, ap, ◌∙◌}
use Rattle.std.specs.Option.{option_map_or}
use Rattle.std.specs.FinMap.{get, get-empty}
use Rattle.mls_scheme.specs.Table.{place_cmp}
use Rattle.mls_filterview.specs.Assembly.{table_of}
use Rattle.mls_filterview.proofs.MapLemmas.{no_table}
use Rattle.mls_updates.proofs.tables.found_at.Goals as goal

pub returns-in-None : goal.returns-in-None
returns-in-None c =
    sym (ap (λ o. get (table_of (option_map_or (λ m. m.entries) o [])) c.args.place.now) (sym c.in-None.ensures.value)
    ∙ ap (λ T. get T c.args.place.now) no_table ∙ get-empty place_cmp c.args.place.now)
