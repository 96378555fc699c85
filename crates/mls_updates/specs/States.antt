-- The content that a base over maps holds.
use Rattle.std.proofs.Common.{true≢false}
use Rattle.std.specs.Prelude.{◌≡◌, ℕ, false, is_some, List, [], Option, Some, None, refl, unwrap_or}
use Rattle.std.specs.Ordering.{nat_cmp}
use Rattle.std.specs.Option.{option_map_or}
use Rattle.std.specs.BTreeMap.{BTreeMap, get}
use Rattle.mls_scheme.specs.declared.tuple.Element.{Element}
use Rattle.mls_scheme.specs.declared.place.Place.{Place}
use Rattle.mls_scheme.specs.Table.{Database}
use Rattle.mls_filterview.specs.Assembly.{table_of}
use Rattle.mls_filterview.specs.Content.{Content, State}
use Rattle.mls_updates.specs.declared.held.Held.{Held}

-- the table of each relation: that of its map, where it has one
abbrev pub tables_of : BTreeMap ℕ (BTreeMap Place (List Element)) → Database
tables_of maps relation = table_of (option_map_or (λ m. m.entries) (get nat_cmp maps relation) [])

abbrev pub content_of : Held → Content
content_of h = record { db = tables_of h.tables; audit = h.audit.items }

-- what is held now, and in a change what was held at the last commit
abbrev pub state_of : Held → Option Held → State
state_of h saved = record { now = content_of h; kept = content_of (unwrap_or saved h); begun = is_some saved }

-- outside a change all is as at the last commit
pub state-settled : (h : Held) (saved : Option Held) → (state_of h saved).begun ≡ false → (state_of h saved).kept
    ≡ (state_of h saved).now
state-settled h None e = refl
state-settled h (Some k) e = absurd (true≢false e)
