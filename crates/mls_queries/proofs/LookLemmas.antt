-- A query whose condition demands a key, over the content of a relation.
use Rattle.std.proofs.Common.{◌≡◌, ℕ, List, length, sym, ap, ◌∙◌, filter}
use Rattle.std.specs.FinMap.{entries}
use Rattle.std.proofs.lemmas.Slice.Zip.{AllZip-long}
use Rattle.mls_lattice.specs.Labels.{Labels}
use Rattle.mls_scheme.specs.declared.value.Value.{Value}
use Rattle.mls_scheme.specs.declared.tuple.Tuple.{Tuple}
use Rattle.mls_scheme.specs.Table.{Table, tuple_at}
use Rattle.mls_scheme.specs.Scheme.{Scheme}
use Rattle.mls_filterview.specs.View.{low, rows, IsAmong}
use Rattle.mls_filterview.specs.Stored.{IsContent}
use Rattle.mls_filterview.specs.Subsumption.{is_max_among}
use Rattle.mls_filterview.proofs.AmongLemmas.{among_map, among_filter}
use Rattle.mls_filterview.proofs.EntryLemmas.{Entry, among_entries}
use Rattle.mls_filterview.proofs.LowLemmas.{from_low}
use Rattle.mls_translang.specs.declared.query.Query.{Query}
use Rattle.mls_queries.specs.Query.{found}
use Rattle.mls_queries.specs.Demanded.{IsDemanded, of_key}
use Rattle.mls_queries.proofs.QueryLemmas.{keys_are_looked_up}

-- each row has as many values in its key as its scheme has key attributes
key_length : (ls : Labels) (scheme : Scheme) (T : Table) → IsContent ls scheme T → (c : ℕ) (t : Tuple)
    → IsAmong t (rows ls c T) → length t.key ≡ length scheme.keys
unfolding rows
key_length ls scheme T content c t i =
    let L : Table = low ls c T in
    let m = among_map (λ (e : Entry). tuple_at e.0 e.1) (filter (is_max_among (entries L)) (entries L)) t i in
    let e : Entry = m.0 in
    let has = among_entries L e (among_filter (is_max_among (entries L)) (entries L) e m.1).0 in
    let held = (from_low ls c T (tuple_at e.0 e.1) e.0.class has).0 in
    ap (λ (x : Tuple). length x.key) m.2 ∙ AllZip-long _ scheme.keys e.0.key (content.fits e.0 e.1 held).key

pub looked_up : (ls : Labels) (scheme : Scheme) (T : Table) → IsContent ls scheme T
    → (c : ℕ) (q : Query) (key : List Value) → IsDemanded (length scheme.keys) q.test key
    → found ls q (rows ls c (of_key key T)) ≡ found ls q (rows ls c T)
looked_up ls scheme T content c q key demanded =
    sym (keys_are_looked_up ls T c q key (λ t i h. demanded.alone t (key_length ls scheme T content c t i) h))
