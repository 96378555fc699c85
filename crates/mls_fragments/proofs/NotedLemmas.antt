-- What is noted of the rows stays so where they and the note change alike.
use Rattle.std.proofs.Common.{◌≡◌, ℕ, ◌<◌, pos, ◌+ℤ◌, ◌+◌, true, cond, List, [], ◌∷◌, map, length, Option, Some, None, refl, sym, ap, subst, ◌∙◌, true≢false, IfSome, length-append}
use Rattle.std.specs.List.{AllByRecursion}
use Rattle.std.specs.FinMap.{get, insert}
use Rattle.mls_lattice.specs.Version.{version_number}
use Rattle.mls_lattice.specs.declared.version.Version.{Version}
use Rattle.mls_scheme.specs.declared.value.Value.{Value}
use Rattle.mls_scheme.specs.declared.tuple.Element.{Element}
use Rattle.mls_scheme.specs.declared.place.Place.{Place}
use Rattle.mls_scheme.specs.Spelling.{HasSpelling, IsSpelledKey}
use Rattle.mls_filterview.specs.declared.fragment.Node.{Node}
use Rattle.mls_filterview.specs.declared.fragment.Cell.{Cell}
use Rattle.mls_filterview.specs.Content.{About, Content, with_table, with_relation}
use Rattle.mls_filterview.specs.Fragment.{place_of_node, IsMadeOf, IsCellOf, HasCell, IsAlone}
use Rattle.mls_filterview.proofs.MadeLemmas.{elements_made}
use Rattle.mls_tables.specs.declared.rows.MetaRow.{MetaRow}
use Rattle.mls_tables.specs.Rows.{Tables, described}
use Rattle.mls_tables.specs.Statements.{SetsCell, AddsEntry, ClearsEntries}
use Rattle.mls_tables.specs.Store.{TableState, IsClean}
use Rattle.mls_fragments.specs.declared.noted.Noted.{Noted}
use Rattle.mls_rows.specs.Changes.{Change, Entries, found, content_of}
use Rattle.mls_rows.specs.Changes.Change.{Finds, Adds, Sets, Drops, Appends, Clears}
use Rattle.mls_fragments.specs.Based.{BaseState, HasRow, IsNoted, IsBased, about_of, base_state, state_with, state_of}
use Rattle.mls_rows.specs.Finding.{HasByteClasses, AreReadable}
use Rattle.mls_fragments.specs.Holdings.{HaveOneMeta}
use Rattle.mls_fragments.proofs.HoldingsLemmas.{meta_made}
use Rattle.mls_rows.specs.Holding.{Holds, AddsTuple, DropsTuple, node_row, cell_row, value_row}
use Rattle.mls_fragments.proofs.AddingLemmas.{holds_none, holds_tuple, holds_entry, holds_no_entries}
use Rattle.mls_rows.proofs.ByteLemmas.{none_bytes, tuple_bytes, value_bytes, rest_bytes}
use Rattle.mls_fragments.proofs.SettingLemmas.{holds_value}
use Rattle.mls_rows.proofs.DroppingLemmas.{holds_rest}

-- rows that are written in a change
pub based_on : (t u : TableState) (here new last : Noted) → IsBased t here last → (IsClean u → IsClean t)
    → u.begun ≡ true → (IsClean u → u.kept ≡ t.kept)
    → (IsClean u → IsNoted t.now here → IsNoted u.now new × (u.now.meta ≡ t.now.meta)) → IsBased u new last
based_on t u here new last based clean mode kept noted = record {
  now = λ h. (noted h (based.now (clean h))).0;
  kept = λ h. subst (λ rows. IsNoted rows last) (sym (kept h)) (based.kept (clean h));
  content = λ e. absurd (true≢false (sym mode ∙ e));
  number = λ e. absurd (true≢false (sym mode ∙ e));
  row = λ h. (noted h (based.now (clean h))).1 ∙ based.row (clean h) ∙ sym (ap (λ (x : Tables). x.meta) (kept h));
}

-- of rows that callers see the same of
row_seen : MetaRow → List About → MetaRow
row_seen other [] = other
row_seen other (a ∷ rest) =
    record { id = a.number; version = a.version; lattice = a.lattice; schemes = a.schemes }

seen_once : (m n : MetaRow) → about_of (m ∷ []) ≡ about_of (n ∷ []) → m ≡ n
unfolding row_seen
seen_once m n same = ap (row_seen m) same

-- the row that describes a base stays where callers see the same of it
abbrev pub RowStays : BaseState → BaseState → Type 0
RowStays was base =
    IsClean was.tables → IsClean base.tables
    → about_of base.tables.kept.meta ≡ about_of was.tables.kept.meta
    → (row : MetaRow) → HasRow was row → HasRow base row

pub row_stays : (t u : TableState) (here last new after : Noted) → IsBased t here last → IsBased u new after
    → RowStays (base_state t here last) (base_state u new after)
row_stays t u here last new after was base clean clean' same row has =
    let noted = base.now clean' in
    let before : t.kept.meta ≡ has.described.row ∷ [] = sym (was.row clean) ∙ has.described.one in
    let behind : u.kept.meta ≡ noted.meta.row ∷ [] = sym (base.row clean') ∙ noted.meta.one in
    let is : noted.meta.row ≡ has.described.row =
    seen_once noted.meta.row has.described.row (sym (ap about_of behind) ∙ same ∙ ap about_of before) in
    record {
      described = noted.meta;
      meta = has.meta ∙ ap Some (sym is);
      holds = noted.holds;
    }

-- each row of a base can be read
pub readable : (t : TableState) (here last : Noted) → IsBased t here last → IsClean t → AreReadable t.now
readable t here last based clean = (content_of here.content.changes, (based.now clean).holds, (based.now clean).classes)

-- the note of some changes
noted_as : (rows : Tables) (n : Noted) (changes : List Change) → n.content.changes ≡ changes
    → n.last ≡ pos (length (content_of changes).audit) → HaveOneMeta rows → HasByteClasses (content_of changes)
    → Holds rows (content_of changes) → IsNoted rows n
noted_as rows n changes is last meta bytes holds = record {
  meta = meta;
  holds = subst (λ cs. Holds rows (content_of cs)) (sym is) holds;
  classes = subst (λ cs. HasByteClasses (content_of cs)) (sym is) bytes;
  last = last ∙ ap (λ cs. pos (length (content_of cs).audit)) (sym is);
}

-- so of a note that is copied
pub noted_copied : (rows : Tables) (n m : Noted) → m.content.changes ≡ n.content.changes → m.last ≡ n.last
    → IsNoted rows n → IsNoted rows m
noted_copied rows n m changes last noted = noted_as rows m n.content.changes changes
    (last ∙ noted.last) noted.meta noted.classes noted.holds

-- a new store holds nothing
pub noted_none : (version : Version) (lattice schemes : List ℕ) (rows : Tables) (n : Noted)
    → rows ≡ described (version_number version) lattice schemes → n.content.changes ≡ [] → n.last ≡ pos 0
    → IsNoted rows n
noted_none version lattice schemes rows n is changes last =
    noted_as rows n [] changes last (meta_made version lattice schemes rows is) none_bytes
    (subst (λ t. Holds t (content_of [])) (sym is) (holds_none (version_number version) lattice schemes))

-- a store that is opened holds what was found
pub noted_found : (tables : List Entries) (audit : List (List ℕ)) (rows : Tables) (n : Noted) → n.content.changes
    ≡ Finds tables audit ∷ [] → n.last ≡ pos (length audit)
    → HaveOneMeta rows → HasByteClasses (found tables audit) → Holds rows (found tables audit) → IsNoted rows n
noted_found tables audit rows n changes last meta bytes holds = noted_as rows n (Finds tables audit
    ∷ []) changes last meta bytes holds

-- rows that are written beside the description
meta_stays : (t u : Tables) → u.meta ≡ t.meta → HaveOneMeta t → HaveOneMeta u
meta_stays t u same h = record { row = h.row; one = same ∙ h.one; version = h.version }

-- the note with one change more
module _ (t u : Tables) (here new : Noted) (was : IsNoted t here) where
  abbrev c : Content
  c = content_of here.content.changes

  pub noted_tuple : (relation : ℕ) (n : Node) (cells : List Cell) → new.content.changes ≡ Adds relation n cells
      ∷ here.content.changes → new.last ≡ here.last
      → IsSpelledKey n.key → AllByRecursion (IsCellOf n) cells → get (c.db relation) (place_of_node n) ≡ None
      → (es : List Element) × IsMadeOf (c.db relation) n cells es
      → (n.key_class < 256) × (n.label < 256) → AddsTuple (node_row relation n) (map (cell_row relation) cells) t u
      → IsNoted u new × (u.meta ≡ t.meta)
  noted_tuple relation n cells changes last key each none made small adds = (
    noted_as u new _ changes (last ∙ was.last) (meta_stays t u (ap (λ (x : Tables). x.meta) adds.rest) was.meta)
        (tuple_bytes c relation was.classes n _ small)
        (subst (λ es. Holds u (record c {
          db = with_table c.db relation
              (insert (c.db relation) (place_of_node n) es);
        })) (sym (elements_made (c.db relation) (get (c.db relation))
        (λ q. refl) n cells made.0 made.1))
        (holds_tuple t u c relation n cells made.0 was.holds key each none made.1 adds)),
    ap (λ (x : Tables). x.meta) adds.rest,
  )

  pub noted_value : (relation : ℕ) (p : Place) (attr : ℕ) (v : Option Value) → new.content.changes
      ≡ Sets relation p attr v ∷ here.content.changes → new.last ≡ here.last
      → IsSpelledKey p.key → IfSome v HasSpelling → HasCell (c.db relation) p attr
      → SetsCell (value_row relation p attr v) t u → IsNoted u new × (u.meta ≡ t.meta)
  noted_value relation p attr v changes last key value there sets = (
    noted_as u new _ changes (last ∙ was.last)
        (meta_stays t u (ap (λ (x : Tables). x.meta) sets.0) was.meta) (value_bytes c relation was.classes p attr v)
        (holds_value t u c relation p attr v was.holds key value there sets),
    ap (λ (x : Tables). x.meta) sets.0,
  )

  pub noted_rest : (relation : ℕ) (p : Place) → new.content.changes ≡ Drops relation p ∷ here.content.changes
      → new.last ≡ here.last
      → IsSpelledKey p.key → IsAlone (c.db relation) p → DropsTuple relation p t u → IsNoted u new × (u.meta ≡ t.meta)
  noted_rest relation p changes last key alone drops = (
    noted_as u new _ changes (last ∙ was.last)
        (meta_stays t u (ap (λ (x : Tables). x.meta) drops) was.meta) (rest_bytes c relation was.classes p)
        (holds_rest t u c relation p was.holds key alone _ refl drops),
    ap (λ (x : Tables). x.meta) drops,
  )

  pub noted_entry : (bytes : List ℕ) → new.content.changes ≡ Appends bytes ∷ here.content.changes
      → new.last ≡ here.last +ℤ pos 1
      → AddsEntry (record { number = here.last +ℤ pos 1; bytes = bytes }) t u → IsNoted u new × (u.meta ≡ t.meta)
  noted_entry bytes changes last adds =
      let next : here.last +ℤ pos 1 ≡ pos (length c.audit + 1) = ap (λ n. n +ℤ pos 1) was.last in (
        noted_as u new _ changes (last ∙ next ∙ ap pos (sym (length-append c.audit (bytes ∷ []))))
            (meta_stays t u (ap (λ (x : Tables). x.meta) adds.0) was.meta) was.classes
            (holds_entry t u c bytes was.holds (subst
            (λ n. AddsEntry (record { number = n; bytes = bytes }) t u) next adds)),
        ap (λ (x : Tables). x.meta) adds.0,
      )

  pub noted_clear : new.content.changes ≡ Clears ∷ here.content.changes → new.last ≡ pos 0 → ClearsEntries t u
      → IsNoted u new × (u.meta ≡ t.meta)
  noted_clear changes last clears = (
    noted_as u new _ changes last
        (meta_stays t u (ap (λ (x : Tables). x.meta) clears) was.meta) was.classes
        (holds_no_entries t u c was.holds clears),
    ap (λ (x : Tables). x.meta) clears,
  )

-- the state in a change, with a tuple more
pub state_added : (t u : TableState) (here last : Noted) (changes : List Change) (relation : ℕ) (n : Node)
    (cells : List Cell) (es : List Element) → t.begun ≡ true → u.begun ≡ true
    → changes ≡ Adds relation n cells ∷ here.content.changes
    → IsMadeOf ((content_of here.content.changes).db relation) n cells es
    → state_with (content_of changes) (content_of last.content.changes) u.begun
    ≡ with_relation (state_of (base_state t here last)) relation (insert ((content_of here.content.changes).db relation)
    (place_of_node n) es)
state_added t u here last changes relation n cells es was mode is made =
    ap (λ cs. state_with (content_of cs) before u.begun) is ∙ ap (λ fs. state_with (added fs) before u.begun)
    (elements_made (c.db relation) (get (c.db relation)) (λ q. refl) n cells es made)
    ∙ ap (state_with (added es) before) mode
    ∙ sym (ap (λ b. record { now = added es; kept = cond b before c; begun = b }) was)
  where
    c : Content
    c = content_of here.content.changes

    before : Content
    before = content_of last.content.changes

    added : List Element → Content
    added fs = record { db = with_table c.db relation (insert (c.db relation) (place_of_node n) fs); audit = c.audit }
