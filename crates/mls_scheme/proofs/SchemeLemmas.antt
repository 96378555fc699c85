-- Reading gives the schemes that the document says, and refuses no others.
use Rattle.std.proofs.Common.{◌≡◌, ◌≢◌, ℕ, ◌<◌, Bool, true, false, cond, nat_eq, nat_lt, List, [], ◌∷◌, ◌++◌, length, map, Option, None, Some, Result, Ok, Err, refl, sym, ap, ◌∙◌, inl, inr, arith, subst, ◌⊎◌, IfOk, codes, position, bytes_eq, append-nil, eqb-true, ltb-true, eq-eqb}
use Rattle.std.specs.List.{AllByRecursion, AllZip, IsDistinct}
use Rattle.std.proofs.lemmas.Bool.{and_parts, and_from}
use Rattle.toml.specs.Data.{Data, array, table, Items, no_items, Members, get_member, string}
use Rattle.mls_lattice.specs.declared.failed.Failed.{Failed}
use Rattle.mls_lattice.specs.declared.failed.Failed.TheVariants as failed
use Rattle.mls_lattice.specs.declared.fault.FieldFault.TheVariants.{EmptyInterval}
use Rattle.mls_lattice.specs.Labels.{below}
use Rattle.mls_lattice.specs.Policy.{Name, Policy, AreNames, labels_of}
use Rattle.mls_lattice.specs.ReadsPolicy.{IsDocument}
use Rattle.mls_lattice.specs.declared.version.Version.{Version}
use Rattle.mls_lattice.specs.Reading.{◌>>=◌, Gives, version_at, table_at, items_len}
use Rattle.mls_lattice.proofs.ReadingLemmas.{ok_is, bind_ok, pass_ok}
use Rattle.mls_lattice.proofs.ReadsPolicyLemmas.{one_document}
use Rattle.mls_scheme.specs.declared.fault.FileFault.{FileFault}
use Rattle.mls_scheme.specs.declared.fault.FileFault.TheVariants.{Field, KeyIntervals}
use Rattle.mls_scheme.specs.declared.fault.SchemeFault.TheVariants.{Memory}
use Rattle.mls_scheme.specs.Fault.{failed_fault_of}
use Rattle.mls_scheme.specs.declared.attributes.Column.{Column}
use Rattle.mls_scheme.specs.Named.{has_name}
use Rattle.mls_scheme.specs.Scheme.{Attribute, Scheme, Schemes, column_of, no_attribute, first_key, HasInterval, IsScheme, AreSchemes, IsAmongLabels, AreUnder, HaveIntervals}
use Rattle.mls_scheme.specs.Reading.{lift, gather, name_field, text_field, kind_named, label_field, column_at, new_name, attribute_at, has_key_interval, key_at, other_at, key_items, other_items, attributes_at, has_relation, scheme_at, relation_items, file_at}
use Rattle.mls_scheme.specs.Document.{tables_of, HoldsTables, kind_word, SaysAttribute, SaysRelation, Says, ReadsSchemes, SaysOnce}
use Rattle.mls_scheme.proofs.GatherLemmas.{Each, Step, gather_found, gather_again, items_len-tables_of, Each-left, Each-right, Each-both, distinct_found, distinct_again}
use Rattle.mls_scheme.proofs.FieldLemmas.{table_found, name_found, name_again, text_field_found, text_field_again, kind_found, kind_again, label_found, label_again, version_found, version_again, key_found, key_again, other_found, other_again, relation_found, relation_again}

-- ---- attributes

-- what follows a new name
new_found : {A : Type 0} (taken : Bool) (r : Result A FileFault) (x : A) → (new_name taken >>= λ _. r) ≡ Ok x
    → (taken ≡ false) × (r ≡ Ok x)
new_found true r x e = absurd cc
new_found false r x e = (refl, e)

says_column : (p : Policy) (fields : Members) (name : Name) (c : Column) → name_field (codes "name") fields ≡ Ok name
    → column_at p fields ≡ Ok c → SaysAttribute p fields (name, c)
unfolding column_at
says_column p fields name c named e =
    let n = name_found (codes "name") fields name named in
    let a = bind_ok (text_field (codes "kind") fields) _ c e in
    let b = bind_ok (kind_named a.0) _ c a.2 in
    let d = bind_ok (label_field p.labels (codes "low") fields) _ c b.2 in
    let f = bind_ok (label_field p.labels (codes "high") fields) _ c d.2 in
    let g = pass_ok (below (labels_of p) d.0 f.0) (Field EmptyInterval) _ c f.2 in
    let made : Result Column FileFault = Ok (record { kind = b.0; low = d.0; high = f.0 }) in
    let same : made ≡ Ok c = g.1 in
    let whole : SaysAttribute p fields (name, (record { kind = b.0; low = d.0; high = f.0 })) = record {
      name = n.0;
      named = n.1;
      kind = text_field_found (codes "kind") fields a.0 a.1 ∙ ap (λ w. Some (string w)) (kind_found a.0 b.0 b.1);
      low = label_found p (codes "low") fields d.0 d.1;
      high = label_found p (codes "high") fields f.0 f.1;
      interval = g.0;
    } in
    subst (λ x. SaysAttribute p fields (name, x)) (ap (λ r. column_or r) same) whole
  where
    column_or : Result Column FileFault → Column
    column_or (Ok x) = x
    column_or (Err e) = column_of no_attribute

abbrev IsNewAfter : List Attribute → List Attribute → Attribute → Type 0
IsNewAfter base before a = has_name (base ++ before) a.0 ≡ false

attribute_found : (p : Policy) (before : List Attribute) (d : Data) (a : Attribute) → attribute_at p before d ≡ Ok a
    → Step (SaysAttribute p) (IsNewAfter []) before d a
unfolding attribute_at
attribute_found p before d a e =
    let f = bind_ok (lift Field (table_at d)) _ a e in
    let n = bind_ok (name_field (codes "name") f.0) _ a f.2 in
    let w = new_found (has_name before n.0) _ a n.2 in
    let c = bind_ok (column_at p f.0) _ a w.1 in
    let made : Result Attribute FileFault = Ok (n.0, c.0) in
    let same : made ≡ Ok a = c.2 in
    let here : ◌≡◌ {A = Attribute} (n.0, c.0) a = ap (λ r. attribute_or r) same in
    let says : SaysAttribute p f.0 a = subst (SaysAttribute p f.0) here (says_column p f.0 n.0 c.0 n.1 c.1) in
    let fresh : has_name before a.0 ≡ false = subst (λ (x : Attribute). has_name before x.0 ≡ false) here w.0 in
    record { fields = f.0; text = table_found d f.0 f.1; says = says; follows = fresh }
  where
    attribute_or : Result Attribute FileFault → Attribute
    attribute_or (Ok x) = x
    attribute_or (Err e) = no_attribute

attribute_again : (p : Policy) (before : List Attribute) (fields : Members) (a : Attribute) → SaysAttribute p fields a
    → has_name before a.0 ≡ false → attribute_at p before (table fields) ≡ Ok a
unfolding attribute_at column_at
attribute_again p before fields a s fresh =
    rw (
      name_again (codes "name") fields a.0 s.name s.named,
      fresh,
      text_field_again (codes "kind") fields (kind_word a.1.kind) s.kind,
      kind_again a.1.kind,
      label_again p (codes "low") fields a.1.low s.low,
      label_again p (codes "high") fields a.1.high s.high,
      s.interval,
    ) refl

-- ---- key attributes

abbrev HasKeyInterval : List Attribute → Attribute → Type 0
HasKeyInterval before a = has_key_interval before (column_of a) ≡ true

abbrev FollowsKeys : List Attribute → Attribute → Type 0
FollowsKeys before a = IsNewAfter [] before a × HasKeyInterval before a

key_step : (p : Policy) (before : List Attribute) (d : Data) (a : Attribute) → key_at p before d ≡ Ok a
    → Step (SaysAttribute p) FollowsKeys before d a
unfolding key_at
key_step p before d a e =
    let b = bind_ok (attribute_at p before d) _ a e in
    let c = pass_ok (has_key_interval before (column_of b.0)) KeyIntervals (Ok b.0) a b.2 in
    let same : b.0 ≡ a = let h = c.1 in cc in
    let s = attribute_found p before d a (b.1 ∙ ap (λ (x : Attribute). Ok x) same) in
    record {
      fields = s.fields;
      text = s.text;
      says = s.says;
      follows =
          (s.follows, subst (HasKeyInterval before) same c.0);
    }

key_step_again : (p : Policy) (before : List Attribute) (fields : Members) (a : Attribute) → SaysAttribute p fields a
    → FollowsKeys before a → key_at p before (table fields) ≡ Ok a
unfolding key_at
key_step_again p before fields a s follows = rw (attribute_again p before fields a s follows.0, follows.1) refl

interval_found : (k : Attribute) (before new : List Attribute) → Each HasKeyInterval (k ∷ before) new
    → AllByRecursion (HasInterval k) new
interval_found k before [] each = tt
interval_found k before (a ∷ new) each =
    let both = and_parts (nat_eq k.1.low a.1.low) (nat_eq k.1.high a.1.high) each.0 in (
      (sym (eqb-true k.1.low a.1.low both.0), sym (eqb-true k.1.high a.1.high both.1)),
      interval_found k (before ++ a ∷ []) new each.1,
    )

interval_again : (k : Attribute) (before new : List Attribute) → AllByRecursion (HasInterval k) new
    → Each HasKeyInterval (k ∷ before) new
interval_again k before [] all = tt
interval_again k before (a ∷ new) all = (
  and_from (nat_eq k.1.low a.1.low) (nat_eq k.1.high a.1.high) (eq-eqb k.1.low a.1.low (sym all.0.0))
      (eq-eqb k.1.high a.1.high (sym all.0.1)),
  interval_again k (before ++ a ∷ []) new all.1,
)

one_interval_found : (name : Name) (keys others : List Attribute) → Each HasKeyInterval [] keys
    → AllByRecursion (HasInterval (first_key (record { name = name; keys = keys; others = others }))) keys
one_interval_found name [] others each = tt
one_interval_found name (k ∷ keys) others each = ((refl, refl), interval_found k [] keys each.1)

one_interval_again : (name : Name) (keys others : List Attribute)
    → AllByRecursion (HasInterval (first_key (record { name = name; keys = keys; others = others }))) keys
    → Each HasKeyInterval [] keys
one_interval_again name [] others all = tt
one_interval_again name (k ∷ keys) others all = (refl, interval_again k [] keys all.1)

-- ---- attributes outside the key

other_step : (p : Policy) (keys before : List Attribute) (d : Data) (a : Attribute) → other_at p keys before d ≡ Ok a
    → Step (SaysAttribute p) (IsNewAfter keys) before d a
unfolding other_at
other_step p keys before d a e =
    let s = attribute_found p (keys ++ before) d a e in
    record { fields = s.fields; text = s.text; says = s.says; follows = s.follows }

other_step_again : (p : Policy) (keys before : List Attribute) (fields : Members) (a : Attribute)
    → SaysAttribute p fields a → IsNewAfter keys before a → other_at p keys before (table fields) ≡ Ok a
unfolding other_at
other_step_again p keys before fields a s follows = attribute_again p (keys ++ before) fields a s follows

-- ---- relations

-- the key attributes and the others that were read
record Parts (p : Policy) (fields : Members) (s : Scheme) : Type 0 where
  key_ds : Items
  key_text : key_items fields ≡ Ok key_ds
  keys : gather (key_at p) [] key_ds ≡ Ok s.keys
  other_ds : Items
  other_text : other_items fields ≡ Ok other_ds
  others : gather (other_at p s.keys) [] other_ds ≡ Ok s.others

names_says : (p : Policy) (ts us : List Members) (keys others : List Attribute) → AllZip (SaysAttribute p) ts keys
    → AllZip (SaysAttribute p) us others → AreNames (map (λ (a : Attribute). a.0) (keys ++ others))
names_says p [] [] [] [] h g = tt
names_says p [] [] [] (a ∷ others) h g = absurd g
names_says p [] (u ∷ us) [] [] h g = absurd g
names_says p [] (u ∷ us) [] (a ∷ others) h g = (g.0.named, names_says p [] us [] others tt g.1)
names_says p [] us (a ∷ keys) others h g = absurd h
names_says p (t ∷ ts) us [] others h g = absurd h
names_says p (t ∷ ts) us (a ∷ keys) others h g = (h.0.named, names_says p ts us keys others h.1 g)

attributes_found : (p : Policy) (fields : Members) (s : Scheme) → attributes_at p fields ≡ Ok (s.keys, s.others)
    → Parts p fields s
unfolding attributes_at
attributes_found p fields s e =
    let k = bind_ok (key_items fields) _ (s.keys, s.others) e in
    let ks = bind_ok (gather (key_at p) [] k.0) _ (s.keys, s.others) k.2 in
    let o = bind_ok (other_items fields) _ (s.keys, s.others) ks.2 in
    let os = bind_ok (gather (other_at p ks.0) [] o.0) _ (s.keys, s.others) o.2 in
    let both : (ks.0, os.0) ≡ (s.keys, s.others) = ok_is (ks.0, os.0) (s.keys, s.others) os.2 in
    let keys : ks.0 ≡ s.keys = ap (λ (x : List Attribute × List Attribute). x.0) both in
    let others : os.0 ≡ s.others = ap (λ (x : List Attribute × List Attribute). x.1) both in
    record {
      key_ds = k.0;
      key_text = k.1;
      keys = ks.1 ∙ ap (λ (xs : List Attribute). Ok xs) keys;
      other_ds = o.0;
      other_text = o.1;
      others = ap (λ (xs : List Attribute). gather (other_at p xs) [] o.0) (sym keys) ∙ os.1
          ∙ ap (λ (xs : List Attribute). Ok xs) others;
    }

parts_says : (p : Policy) (fields : Members) (s : Scheme) → name_field (codes "name") fields ≡ Ok s.name
    → Parts p fields s → SaysRelation p fields s
unfolding IsDistinct
parts_says p fields s named r =
    let n = name_found (codes "name") fields s.name named in
    let k = key_found fields r.key_ds r.key_text in
    let ks = gather_found (key_at p) (SaysAttribute p) FollowsKeys (key_step p) [] r.key_ds s.keys r.keys in
    let o = other_found fields r.other_ds r.other_text in
    let os = gather_found (other_at p s.keys) (SaysAttribute p) (IsNewAfter s.keys)
    (other_step p s.keys) [] r.other_ds s.others r.others in
    let same_keys : ks.new ≡ s.keys = sym ks.parts in
    let same_others : os.new ≡ s.others = sym os.parts in
    let keys : AllZip (SaysAttribute p) ks.tables s.keys = subst (AllZip (SaysAttribute p) ks.tables) same_keys ks.says
    in
    let others : AllZip (SaysAttribute p) os.tables s.others =
    subst (AllZip (SaysAttribute p) os.tables) same_others os.says in
    let key_len : items_len r.key_ds ≡ length s.keys = ap items_len ks.text ∙ items_len-tables_of
    (SaysAttribute p) ks.tables s.keys keys in
    let other_len : items_len r.other_ds ≡ length s.others = ap items_len os.text ∙ items_len-tables_of
    (SaysAttribute p) os.tables s.others others in
    let follow : Each FollowsKeys [] s.keys = subst (Each FollowsKeys []) same_keys ks.follow in
    let keys_apart : IsDistinct bytes_eq (map (λ (a : Attribute). a.0) s.keys) =
    distinct_found (λ (a : Attribute). a.0) [] [] s.keys tt
    (Each-left (IsNewAfter []) HasKeyInterval [] s.keys follow) in
    let apart : IsDistinct bytes_eq (map (λ (a : Attribute). a.0) (s.keys ++ s.others)) =
    distinct_found (λ (a : Attribute). a.0) s.keys [] s.others (rw (append-nil s.keys) keys_apart)
    (subst (Each (IsNewAfter s.keys) []) same_others os.follow) in
    let some = k.some in
    let few = k.few in
    let few_others = o.few in
    record {
      name = n.0;
      key_tables = ks.tables;
      key = k.field_is ∙ ap (λ (x : Items). Some (array x)) ks.text;
      keys = keys;
      other_tables = os.tables;
      attribute = here (get_member (codes "attribute") fields) r.other_ds os.tables os.text o.field_is;
      others = others;
      valid = record {
        named = n.1;
        names = names_says p ks.tables os.tables s.keys s.others keys others;
        some_key = omega arith;
        few_keys = omega arith;
        few_others = omega arith;
        distinct = apart;
        one_interval = one_interval_found s.name s.keys s.others
            (Each-right (IsNewAfter []) HasKeyInterval [] s.keys follow);
      };
    }
  where
    none_of : (ts : List Members) → no_items ≡ tables_of ts → ts ≡ []
    none_of [] e = refl
    none_of (t ∷ ts) e = absurd cc

    here : (o : Option Data) (ds : Items) (ts : List Members) → ds ≡ tables_of ts
        → ((o ≡ Some (array ds)) ⊎ ((o ≡ None) × (ds ≡ no_items))) → HoldsTables o ts ⊎ ((o ≡ None) × (ts ≡ []))
    here o ds ts is (inl there) = inl (there ∙ ap (λ (x : Items). Some (array x)) is)
    here o ds ts is (inr missing) = inr (missing.0, none_of ts (sym missing.1 ∙ is))

abbrev IsNewRelation : Schemes → Scheme → Type 0
IsNewRelation before s = has_relation before s.name ≡ false

scheme_step : (p : Policy) (before : Schemes) (d : Data) (s : Scheme) → scheme_at p before d ≡ Ok s
    → Step (SaysRelation p) IsNewRelation before d s
unfolding scheme_at
scheme_step p before d s e =
    let f = bind_ok (lift Field (table_at d)) _ s e in
    let n = bind_ok (name_field (codes "name") f.0) _ s f.2 in
    let w = new_found (has_relation before n.0) _ s n.2 in
    let a = bind_ok (attributes_at p f.0) _ s w.1 in
    let made : Scheme = record { name = n.0; keys = a.0.0; others = a.0.1 } in
    let here : made ≡ s = ok_is made s a.2 in
    let says : SaysRelation p f.0 made = parts_says p f.0 made n.1 (attributes_found p f.0 made a.1) in
    record {
      fields = f.0;
      text = table_found d f.0 f.1;
      says = subst (SaysRelation p f.0) here says;
      follows =
          subst (IsNewRelation before) here w.0;
    }

scheme_step_again : (p : Policy) (before : Schemes) (fields : Members) (s : Scheme) → SaysRelation p fields s
    → IsNewRelation before s → scheme_at p before (table fields) ≡ Ok s
unfolding scheme_at attributes_at IsDistinct
scheme_step_again p before fields s r fresh =
    let key_len : items_len (tables_of r.key_tables) ≡ length s.keys = items_len-tables_of
    (SaysAttribute p) r.key_tables s.keys r.keys in
    let other_len : items_len (tables_of r.other_tables) ≡ length s.others = items_len-tables_of
    (SaysAttribute p) r.other_tables s.others r.others in
    let some = r.valid.some_key in
    let few = r.valid.few_keys in
    let few_others = r.valid.few_others in
    let whole : IsDistinct bytes_eq (map (λ (a : Attribute). a.0) (s.keys ++ s.others)) = r.valid.distinct in
    let follow : Each FollowsKeys [] s.keys = Each-both (IsNewAfter []) HasKeyInterval [] s.keys
    (distinct_again (λ (a : Attribute). a.0) [] [] s.keys (front (λ (a : Attribute). a.0) s.keys s.others whole))
    (one_interval_again s.name s.keys s.others r.valid.one_interval) in
    let keys : gather (key_at p) [] (tables_of r.key_tables) ≡ Ok s.keys = gather_again (key_at p)
    (SaysAttribute p) FollowsKeys (key_step_again p) [] r.key_tables s.keys r.keys follow in
    let others : gather (other_at p s.keys) [] (tables_of r.other_tables) ≡ Ok s.others =
    gather_again (other_at p s.keys) (SaysAttribute p) (IsNewAfter s.keys)
    (other_step_again p s.keys) [] r.other_tables s.others r.others
    (distinct_again (λ (a : Attribute). a.0) s.keys [] s.others whole) in
    rw (
      name_again (codes "name") fields s.name r.name r.valid.named,
      fresh,
      key_again fields r.key_tables r.key (omega arith) (omega arith),
      keys,
      other_again fields r.other_tables r.attribute (omega arith),
      others,
    ) refl
  where
    shorter : {A : Type 0} (name_of : A → Name) (n : Name) (xs ys : List A) → AllByRecursion (λ y. bytes_eq n y ≡ false)
        (map name_of (xs ++ ys)) → AllByRecursion (λ y. bytes_eq n y ≡ false) (map name_of xs)
    shorter name_of n [] ys h = tt
    shorter name_of n (x ∷ xs) ys h = (h.0, shorter name_of n xs ys h.1)

    front : {A : Type 0} (name_of : A → Name) (xs ys : List A) → IsDistinct bytes_eq (map name_of (xs ++ ys))
        → IsDistinct bytes_eq (map name_of xs)
    front name_of [] ys h = tt
    front name_of (x ∷ xs) ys h = (shorter name_of (name_of x) xs ys h.0, front name_of xs ys h.1)

-- ---- documents

chosen_within : (k n m : ℕ) → cond (nat_lt k n) (Some k) None ≡ Some m → m < n
chosen_within k n m e = by (nat_lt k n) refl e
  where
    by : (b : Bool) → nat_lt k n ≡ b → cond b (Some k) None ≡ Some m → m < n
    by true is h = let same : k ≡ m = cc in subst (λ x. x < n) same (ltb-true k n is)
    by false is h = absurd cc

position_within : {X : Type 0} (f : X → Bool) (xs : List X) (m : ℕ) → position f xs ≡ Some m → m < length xs
position_within f xs m e = chosen_within _ (length xs) m e

each_valid : (p : Policy) (ts : List Members) (schemes : Schemes) → AllZip (SaysRelation p) ts schemes
    → AllByRecursion IsScheme schemes
each_valid p [] [] h = tt
each_valid p [] (s ∷ schemes) h = absurd h
each_valid p (t ∷ ts) [] h = absurd h
each_valid p (t ∷ ts) (s ∷ schemes) h = (h.0.valid, each_valid p ts schemes h.1)

relations_says : (p : Policy) (document : Members) (v : Version) (ds : Items) (schemes : Schemes)
    → lift Field (version_at document) ≡ Ok v → relation_items document ≡ Ok ds → gather (scheme_at p) [] ds
    ≡ Ok schemes → Says p document v schemes
unfolding IsDistinct
relations_says p document v ds schemes version text e =
    let r = relation_found document ds text in
    let g = gather_found (scheme_at p) (SaysRelation p) IsNewRelation (scheme_step p) [] ds schemes e in
    let same : g.new ≡ schemes = sym g.parts in
    let relations : AllZip (SaysRelation p) g.tables schemes = subst (AllZip (SaysRelation p) g.tables) same g.says in
    let len : items_len ds ≡ length schemes = ap items_len g.text ∙ items_len-tables_of
    (SaysRelation p) g.tables schemes relations in
    let some = r.some in
    let few = r.few in
    record {
      version = version_found document v version;
      tables = g.tables;
      relation = r.field_is ∙ ap (λ (x : Items). Some (array x)) g.text;
      relations = relations;
      valid = record {
        some = omega arith;
        few = omega arith;
        each = each_valid p g.tables schemes relations;
        distinct = distinct_found (λ (s : Scheme). s.name) [] [] schemes tt
            (subst (Each IsNewRelation []) same g.follow);
      };
    }

pub says_found : (p : Policy) (document : Members) (f : Version × Schemes) → file_at p document ≡ Ok f
    → Says p document f.0 f.1
unfolding file_at
says_found p document f e =
    let v = bind_ok (lift Field (version_at document)) _ f e in
    let r = bind_ok (relation_items document) _ f v.2 in
    let g = bind_ok (gather (scheme_at p) [] r.0) _ f r.2 in
    let same : (v.0, g.0) ≡ f = ok_is (v.0, g.0) f g.2 in
    subst (λ (x : Version × Schemes). Says p document x.0 x.1) same (relations_says p document v.0 r.0 g.0 v.1 r.1 g.1)

pub says_again : (p : Policy) (document : Members) (v : Version) (schemes : Schemes) → Says p document v schemes
    → file_at p document ≡ Ok (v, schemes)
unfolding file_at
says_again p document v schemes s =
    let len : items_len (tables_of s.tables) ≡ length schemes = items_len-tables_of
    (SaysRelation p) s.tables schemes s.relations in
    let some = s.valid.some in
    let few = s.valid.few in
    rw (
      version_again document v s.version,
      relation_again document s.tables s.relation (omega arith) (omega arith),
      gather_again (scheme_at p) (SaysRelation p) IsNewRelation (scheme_step_again p) [] s.tables schemes s.relations
          (distinct_again (λ (x : Scheme). x.name) [] [] schemes s.valid.distinct),
    ) refl

-- ---- what the code asks and promises

pub scheme_valid : (p : Policy) (fields : Members) (s : Scheme) → name_field (codes "name") fields ≡ Ok s.name
    → attributes_at p fields ≡ Ok (s.keys, s.others) → IsScheme s
scheme_valid p fields s name attributes = (parts_says p fields s name (attributes_found p fields s attributes)).valid

pub schemes_valid : (p : Policy) (document : Members) (v : Version) (ds : Items) (schemes : Schemes)
    → lift Field (version_at document) ≡ Ok v → relation_items document ≡ Ok ds → gather (scheme_at p) [] ds
    ≡ Ok schemes → AreSchemes schemes
schemes_valid p document v ds schemes version text e = (relations_says p document v ds schemes version text e).valid

among : (p : Policy) (fields : Members) (a : Attribute) → SaysAttribute p fields a → IsAmongLabels (length p.labels) a
among p fields a s = record {
  low = position_within (λ l. bytes_eq l.name s.low.name) p.labels a.1.low s.low.declared;
  high = position_within (λ l. bytes_eq l.name s.high.name) p.labels a.1.high s.high.declared;
}

all_among : (p : Policy) (ts : List Members) (attributes : List Attribute) → AllZip (SaysAttribute p) ts attributes
    → AllByRecursion (IsAmongLabels (length p.labels)) attributes
all_among p [] [] h = tt
all_among p [] (a ∷ attributes) h = absurd h
all_among p (t ∷ ts) [] h = absurd h
all_among p (t ∷ ts) (a ∷ attributes) h = (among p t a h.0, all_among p ts attributes h.1)

all_under : (p : Policy) (ts : List Members) (schemes : Schemes) → AllZip (SaysRelation p) ts schemes
    → AreUnder (length p.labels) schemes
all_under p [] [] h = tt
all_under p [] (s ∷ schemes) h = absurd h
all_under p (t ∷ ts) [] h = absurd h
all_under p (t ∷ ts) (s ∷ schemes) h = (
  record {
    keys = all_among p h.0.key_tables s.keys h.0.keys;
    others =
        all_among p h.0.other_tables s.others h.0.others;
  },
  all_under p ts schemes h.1,
)

all_intervals : (p : Policy) (ts : List Members) (attributes : List Attribute) → AllZip (SaysAttribute p) ts attributes
    → AllByRecursion (λ a. below (labels_of p) a.1.low a.1.high ≡ true) attributes
all_intervals p [] [] h = tt
all_intervals p [] (a ∷ attributes) h = absurd h
all_intervals p (t ∷ ts) [] h = absurd h
all_intervals p (t ∷ ts) (a ∷ attributes) h = (h.0.interval, all_intervals p ts attributes h.1)

all_have_intervals : (p : Policy) (ts : List Members) (schemes : Schemes) → AllZip (SaysRelation p) ts schemes
    → HaveIntervals (labels_of p) schemes
all_have_intervals p [] [] h = tt
all_have_intervals p [] (s ∷ schemes) h = absurd h
all_have_intervals p (t ∷ ts) [] h = absurd h
all_have_intervals p (t ∷ ts) (s ∷ schemes) h = (
  record {
    keys = all_intervals p h.0.key_tables s.keys h.0.keys;
    others =
        all_intervals p h.0.other_tables s.others h.0.others;
  },
  all_have_intervals p ts schemes h.1,
)

-- ---- the clauses of the reader

module _ {F : Type 0} (file : F → Version × Schemes) (p : Policy) (document : Members) where
  pub read_found : (bytes : List ℕ) (r : Result F (Failed FileFault)) → IsDocument bytes document
      → Gives file r (file_at p document) → IfOk r (λ f. ReadsSchemes p bytes (file f).0 (file f).1)
  read_found bytes (Ok f) is given = (document, is, says_found p document (file f) given)
  read_found bytes (Err e) is given = tt

  pub read_under : (r : Result F (Failed FileFault)) → Gives file r (file_at p document)
      → IfOk r (λ f. AreUnder (length p.labels) (file f).1)
  read_under (Ok f) given = let says = says_found p document (file f) given
      in all_under p says.tables (file f).1 says.relations
  read_under (Err e) given = tt

  pub read_intervals : (r : Result F (Failed FileFault)) → Gives file r (file_at p document)
      → IfOk r (λ f. HaveIntervals (labels_of p) (file f).1)
  read_intervals (Ok f) given = let says = says_found p document (file f) given in all_have_intervals p says.tables
      (file f).1 says.relations
  read_intervals (Err e) given = tt

  pub read_refused : (bytes : List ℕ) (failed : Failed FileFault) → IsDocument bytes document
      → Gives file (Err failed) (file_at p document)
      → failed_fault_of failed ≢ Memory → (v : Version) (s : Schemes) → ReadsSchemes p bytes v s → ⊥
  read_refused bytes failed.Memory is given other v s reads = absurd (other refl)
  read_refused bytes (failed.Fault fault) is given other v s (read, is_read, says) =
      let ok : file_at p document ≡ Ok (v, s) = ap (file_at p) (one_document bytes document read is is_read)
      ∙ says_again p read v s says in
      let err : file_at p document ≡ Err fault = given fault refl in
      absurd cc

pub says_once : SaysOnce
says_once p bytes v w s t (d, is, says) (e, is_too, says_too) =
    let a : file_at p d ≡ Ok (v, s) = says_again p d v s says in
    let b : file_at p d ≡ Ok (w, t) = ap (file_at p) (one_document bytes d e is is_too) ∙ says_again p e w t says_too in
    let both : (v, s) ≡ (w, t) = ok_is (v, s) (w, t) (sym a ∙ b) in
    (ap (λ (f : Version × Schemes). f.0) both, ap (λ (f : Version × Schemes). f.1) both)
