-- What is read is what stands there: transactions.
use Rattle.std.proofs.Common.{◌≡◌, ℕ, zero, suc, ◌+◌, ◌<◌, ◌≤◌, Bool, true, false, not, ◌||◌, nat_lt, List, [], ◌∷◌, ◌++◌, length, map, Option, Some, None, Ok, refl, sym, ap, ◌∙◌, subst, arith, append_assoc, length-append, codes, is_some, if◌then◌else◌, flat_map, bytes_eq, ltb-true, append-nil}
use Rattle.std.specs.List.{AllByRecursion, IsDistinct, list_any}
use Rattle.std.specs.Cmp.Lexicographic.{nat_list_eq_equiv}
use Rattle.std.proofs.lemmas.Bool.{or_parts, not-true}
use Rattle.std.proofs.lemmas.List.{length-map, map_push}
use Rattle.std.proofs.lemmas.Map.Keys.{IsDistinct-push}
use Rattle.mls_lattice.specs.Labels.{below}
use Rattle.mls_lattice.specs.Name.{is_name}
use Rattle.mls_lattice.specs.Canon.{label_name}
use Rattle.mls_lattice.specs.Policy.{Name, Policy, labels_of}
use Rattle.mls_lattice.specs.Reading.{◌>>=◌}
use Rattle.mls_lattice.proofs.ReadingLemmas.{ok_is, bind_ok, same_ok}
use Rattle.mls_scheme.specs.declared.value.Kind.{Kind}
use Rattle.mls_scheme.specs.Scheme.{Schemes}
use Rattle.mls_scheme.proofs.NamedLemmas.{is_some-position}
use Rattle.mls_tokens.specs.declared.fault.TokenFault.{TokenFault}
use Rattle.mls_tokens.specs.declared.token.Token.{Token}
use Rattle.mls_tokens.specs.declared.token.Token.TheVariants.{Word, Sign}
use Rattle.mls_tokens.specs.declared.sign.Sign.TheVariants as sign
use Rattle.mls_tokens.specs.Scanning.{tokens_at, without_places}
use Rattle.mls_tokens.specs.Passing.{PlacedName, has_ended}
use Rattle.mls_tokens.specs.Text.{AreTokens}
use Rattle.mls_tokens.proofs.PassedLemmas.{passed_more, over_is}
use Rattle.mls_tokens.proofs.TokensLemmas.{tokens_exact}
use Rattle.mls_translang.specs.declared.tx.Parameter.{Parameter}
use Rattle.mls_translang.specs.Fits.{IsLabel, IsReadUnder}
use Rattle.mls_translang.specs.Tells.{TellsBlock, TellsTx, TellsEach, Tells}
use Rattle.mls_translang.specs.Tokens.{Context, braced, var_tokens, outermost as place_of}
use Rattle.mls_translang.specs.Tree.{Block}
use Rattle.mls_translang.specs.Tx.{IsTx}
use Rattle.mls_parser.specs.declared.draft.Draft.{Draft}
use Rattle.mls_parser.specs.declared.fault.PlacedFault.{PlacedFault}
use Rattle.mls_parser.specs.Names.{label_named, relation_named, numbered}
use Rattle.mls_parser.specs.Noted.{State, Read, note, sign_at, word_at, name_at, name_behind, known}
use Rattle.mls_parser.specs.Parsing.{noted}
use Rattle.mls_parser.specs.ReadBlock.{stmts_at}
use Rattle.mls_parser.specs.ReadTx.{too_many, with_next, things_from, name_faults, levels_faults, heading_at, params_at, vars_at, outermost, body_at, transaction_at, next_transaction, transactions_at, tx_of}
use Rattle.mls_parser.proofs.BlockFound.{IsGood, IsClosed, block_read}
use Rattle.mls_parser.proofs.FaultLemmas.{neither, holds}
use Rattle.mls_parser.proofs.FoundSteps.{Found, found_none, found_next, found_noted, found_made, sign_read, word_read, name_read, behind_read}
use Rattle.mls_parser.proofs.HeaderFound.{none_apart, names_of, AreDeclared, AreAllParams, params_read, Any, vars_read, roomy}
use Rattle.mls_parser.proofs.NumberLemmas.{label_spelled}
use Rattle.mls_parser.proofs.PassedLemmas.{all_spelled, AreSpelled, split}
use Rattle.mls_parser.proofs.StmtFound.{label_known}

-- ---- the heading

module _ (policy : Policy) (schemes : Schemes) where
  abbrev label_word : ℕ → Token
  label_word n = Word (label_name policy.labels n)

  record IsHeading (earlier : List Draft) (ts : List Token) (h : Name × ℕ × ℕ) : Type 0 where
    tokens : ts ≡ Word h.0 ∷ Word (codes "levels") ∷ label_word h.1 ∷ Word (codes "to") ∷ label_word h.2 ∷ []
    named : is_name h.0 ≡ true
    lo : IsLabel policy h.1
    hi : IsLabel policy h.2
    interval : below (labels_of policy) h.1 h.2 ≡ true
    new : list_any (bytes_eq h.0) (map (λ t. t.name) earlier) ≡ false
    no_relation : list_any (λ s. bytes_eq s.name h.0) schemes ≡ false

  relation_free : (name : Name) → is_some (relation_named schemes name) ≡ false
      → list_any (λ s. bytes_eq s.name name) schemes ≡ false
  unfolding relation_named
  relation_free name h = sym (is_some-position (λ s. bytes_eq s.name name) schemes) ∙ h

  -- the labels behind the name
  abbrev AreLevels : Name → List Token → Name × ℕ × ℕ → Type 0
  AreLevels name ts h =
      (h.0 ≡ name) × IsLabel policy h.1 × IsLabel policy h.2 × (below (labels_of policy) h.1 h.2 ≡ true)
      × (ts ≡ Word (codes "levels") ∷ label_word h.1 ∷ Word (codes "to") ∷ label_word h.2 ∷ [])

  abbrev heading : Name → PlacedName → PlacedName → Name × ℕ × ℕ
  heading name lo hi = (name, numbered (label_named policy lo.0), numbered (label_named policy hi.0))

  levels_read : (name : Name) (s : State) (x : (Name × ℕ × ℕ) × State)
      → (name_behind (codes "levels") s >>= λ lo. name_behind (codes "to") lo.1 >>= λ hi. Ok (
        heading name lo.0 hi.0,
        note (levels_faults policy lo.0 hi.0) hi.1,
      )) ≡ Ok x → Found (AreLevels name) s x
  levels_read name s =
      found_next (AreLevels name) (λ lo ts h. (hi : PlacedName) × (h ≡ heading name lo hi)
      × (levels_faults policy lo hi ≡ []) × (ts ≡ Word (codes "to") ∷ Word hi.0 ∷ [])) s
      (name_behind (codes "levels") s)
      (λ lo. name_behind (codes "to") lo.1 >>= λ hi. Ok (
        heading name lo.0 hi.0,
        note (levels_faults policy lo.0 hi.0) hi.1,
      )) (behind_read (codes "levels") s)
      (λ lo.
      found_noted (λ ts h. (hi : PlacedName) × (h ≡ heading name lo.0 hi) × (levels_faults policy lo.0 hi ≡ [])
      × (ts ≡ Word (codes "to") ∷ Word hi.0 ∷ [])) lo.1 (name_behind (codes "to") lo.1)
      (λ hi. heading name lo.0 hi) (levels_faults policy lo.0) (behind_read (codes "to") lo.1)
      (λ hi ts none named. (hi, refl, none, named.0)))
      (λ lo h ts us low r.
      let hi = r.0 in
      let t = neither (known (label_named policy lo.0) lo.1) _ r.2 in
      let u = neither (known (label_named policy hi.0) hi.1) _ t.1 in
      let l = numbered (label_named policy lo.0) in
      let m = numbered (label_named policy hi.0) in
      subst (AreLevels name (ts ++ us)) (sym r.1) (
        refl,
        label_known policy lo.0 lo.1 t.0,
        label_known policy hi.0 hi.1 u.0,
        holds (below (labels_of policy) l m) hi.1 _ u.1,
        (λ i. (low.0 ∙ (λ j. Word (codes "levels") ∷ Word (sym (label_spelled policy lo.0 lo.1 t.0) j) ∷ [])) i
            ++ (r.3 ∙ (λ j. Word (codes "to") ∷ Word (sym (label_spelled policy hi.0 hi.1 u.0) j) ∷ [])) i),
      ))

  heading_read : (earlier : List Draft) (s : State) (x : (Name × ℕ × ℕ) × State) → heading_at policy schemes earlier s
      ≡ Ok x → Found (IsHeading earlier) s x
  unfolding heading_at
  heading_read earlier s x e =
      let rest : PlacedName × State → Read (Name × ℕ × ℕ) =
      λ n. name_behind (codes "levels") n.1 >>= λ lo. name_behind (codes "to") lo.1 >>=
      λ hi. Ok (heading n.0.0 lo.0 hi.0, note (levels_faults policy lo.0 hi.0) hi.1) in
      let again : PlacedName → List PlacedFault = name_faults schemes earlier in
      let n = bind_ok (name_at s) (λ n. rest (n.0, note (again n.0) n.1)) x e in
      let named = found_noted (λ ts m. (ts ≡ Word m.0 ∷ []) × (is_name m.0 ≡ true) × (again m ≡ [])) s (name_at s)
      (λ m. m) again (name_read s)
      (λ m ts none r. (r.0, r.1, none)) (n.0.0, note (again n.0.0) n.0.1)
      (ap (λ z. z >>= λ m. Ok (m.0, note (again m.0) m.1)) n.1) in
      let r = levels_read n.0.0.0 (note (again n.0.0) n.0.1) x n.2 in
      record {
        tokens = named.tokens ++ r.tokens;
        passed = passed_more named.tokens r.tokens s.1 n.0.1.1 x.1.1 named.passed r.passed;
        right = λ none a.
            let parts = split named.tokens r.tokens a in
            let second = r.right none parts.1 in
            let first = named.right second.0 parts.0 in
            let l = second.1 in
            let free = or_parts (is_some (relation_named schemes n.0.0.0)) (list_any (bytes_eq n.0.0.0)
            (map (λ t. t.name) earlier))
            (not-true (is_some (relation_named schemes n.0.0.0) || list_any (bytes_eq n.0.0.0)
            (map (λ t. t.name) earlier))
            (holds (not (is_some (relation_named schemes n.0.0.0) || list_any (bytes_eq n.0.0.0)
            (map (λ t. t.name) earlier))) n.0.0.1 _ first.1.2)) in
            let F : Name → Type 0 = λ name. IsHeading earlier (named.tokens ++ r.tokens) (name, x.0.1, x.0.2) in (
              first.0,
              subst F (sym l.0) (record {
                tokens = λ i. first.1.0 i ++ l.4 i;
                named = first.1.1;
                lo = l.1;
                hi = l.2;
                interval = l.3;
                new = free.1;
                no_relation = relation_free n.0.0.0 free.0;
              }),
            );
      }

  -- ---- a transaction

  all_append : (xs ys : List Name) → AllByRecursion (λ n. is_name n ≡ true) xs
      → AllByRecursion (λ n. is_name n ≡ true) ys → AllByRecursion (λ n. is_name n ≡ true) (xs ++ ys)
  all_append [] ys a b = b
  all_append (x ∷ xs) ys a b = (a.0, all_append xs ys a.1 b)

  -- its variables and its statements, behind the brace
  record IsBody (hi : ℕ) (params : List (Name × Parameter)) (ts : List Token) (x : List (Name × Kind)
      × Block) : Type 0 where
    inner : List Token
    tokens : ts ≡ braced (flat_map var_tokens x.0 ++ inner)
    count : ℕ
    declared : AreDeclared Any (names_of params) ([], 0) x.0 (x.0, count)
    total : ℕ
    told : TellsBlock (outermost policy schemes hi params x.0) x.1 inner
    good : IsGood (outermost policy schemes hi params x.0) 16 0 (x.1, total)

  abbrev IsFull : ℕ → List (Name × Parameter) → List (Name × Kind) → List Token → List (Name × Kind) × Block → Type 0
  IsFull hi params vars ts x = (total : ℕ) × (x.0 ≡ vars) × IsClosed (outermost policy schemes hi params vars) 16 0 ts
      (x.1, total)

  abbrev IsUnbraced : ℕ → List (Name × Parameter) → List Token → List (Name × Kind) × Block → Type 0
  IsUnbraced hi params ts x = IsBody hi params (Sign sign.LeftBrace ∷ ts) x

  body_read : (hi : ℕ) (params : List (Name × Parameter)) (s : State) (x : (List (Name × Kind) × Block) × State)
      → body_at policy schemes hi params s ≡ Ok x → Found (IsBody hi params) s x
  unfolding body_at
  body_read hi params s =
      let place : List (Name × Kind) → Context = outermost policy schemes hi params in
      found_next (IsBody hi params) (λ at ts y. IsUnbraced hi params ts y) s (sign_at sign.LeftBrace s)
      (λ brace. vars_at params brace.1 >>= λ vars. stmts_at 16 (place vars.0) 0 vars.1 >>= λ b. Ok (
        (vars.0, b.0.0),
        b.1,
      )) (sign_read sign.LeftBrace s)
      (λ brace.
      found_next (IsUnbraced hi params) (IsFull hi params) brace.1 (vars_at params brace.1)
      (λ vars. stmts_at 16 (place vars.0) 0 vars.1 >>= λ b. Ok ((vars.0, b.0.0), b.1)) (vars_read params brace.1)
      (λ vars. found_made (IsFull hi params vars.0) vars.1 (stmts_at 16 (place vars.0) 0 vars.1) (λ b. (vars.0, b.0))
      (block_read 16 (place vars.0) 0 vars.1) (λ b ts c. (b.1, refl, c)))
      (λ vars y ts us v full.
      let F : List (Name × Kind) → Type 0 = λ xs. IsUnbraced hi params (ts ++ us) (xs, y.1) in
      let c = full.2 in
      let d = v.1.declared in
      let same : v.1.xs ≡ vars = sym d.whole in
      subst F (sym full.1) (record {
        inner = c.inner;
        tokens = λ i. Sign sign.LeftBrace ∷ ((λ j. (v.1.tokens ∙ ap (flat_map var_tokens) same) j ++ c.tokens j)
            ∙ sym (append_assoc (flat_map var_tokens vars) c.inner (Sign sign.RightBrace ∷ []))) i;
        count = v.0;
        declared = subst (λ xs. AreDeclared Any (names_of params) ([], 0) xs (vars, v.0)) same d;
        total = full.0;
        told = c.told;
        good = c.good;
      })))
      (λ at y ts us brace r. subst (λ l. IsBody hi params (l ++ us) y) (sym brace) r)

  -- behind its first word
  record IsRightDraft (earlier : List Draft) (ts : List Token) (t : Draft) : Type 0 where
    told : TellsTx (place_of policy schemes (tx_of t)) (tx_of t) (Word (codes "transaction") ∷ ts)
    is_tx : IsTx (tx_of t)
    read : IsReadUnder policy schemes (tx_of t)
    new : list_any (bytes_eq t.name) (map (λ d. d.name) earlier) ≡ false

  abbrev IsBehindHead : Name × ℕ × ℕ → List Token → Draft → Type 0
  IsBehindHead h ts t =
      (params : List (Name × Parameter)) × (body : List (Name × Kind) × Block)
      × (t ≡ record { name = h.0; lo = h.1; hi = h.2; params = params; vars = body.0; body = body.1 })
      × (a b : List Token) × (ts ≡ a ++ b) × AreAllParams policy a params × IsBody h.2 params b body

  abbrev whole_draft : Name × ℕ × ℕ → List (Name × Parameter) → List (Name × Kind) × Block → Draft
  whole_draft h params body = record { name = h.0; lo = h.1; hi = h.2; params = params; vars = body.0; body = body.1 }

  draft_right : (earlier : List Draft) (h : Name × ℕ × ℕ) (params : List (Name × Parameter)) (body : List (Name × Kind)
      × Block) (ts a b : List Token) → IsHeading earlier ts h → AreAllParams policy a params
      → IsBody h.2 params b body → IsRightDraft earlier (ts ++ (a ++ b)) (whole_draft h params body)
  draft_right earlier h params body ts a b head p q =
      let d = q.declared in
      let good = q.good in
      record {
        told = (q.inner, (λ i. Word (codes "transaction") ∷ (head.tokens i ++ (p.tokens i ++ q.tokens i))), q.told);
        is_tx = record {
          name = head.named;
          names = all_append (names_of params) (names_of body.0) p.names d.names;
          apart = d.apart (subst (IsDistinct bytes_eq) (sym (append-nil (names_of params))) p.apart);
          few_params = p.few;
          few_vars = (let m = d.count in let n = d.few (omega arith) in omega (arith, m, n));
          few_statements = (let m = good.counted in let n = good.few (omega arith) in omega (arith, m, n));
          shallow = good.deep;
          own = good.own;
        };
        read = record {
          lo = head.lo;
          hi = head.hi;
          interval = head.interval;
          params = p.labels;
          no_relation = head.no_relation;
          fits = good.fits;
          kinds = good.kinds;
        };
        new = head.new;
      }

  transaction_read : (earlier : List Draft) (s : State) (x : Draft × State) → transaction_at policy schemes earlier s
      ≡ Ok x → Found (IsRightDraft earlier) s x
  unfolding transaction_at
  transaction_read earlier s =
      found_next (IsRightDraft earlier) IsBehindHead s (heading_at policy schemes earlier s)
      (λ head. params_at policy head.1 >>= λ ps. body_at policy schemes head.0.2 ps.0 ps.1 >>=
      λ b. Ok (whole_draft head.0 ps.0 b.0, b.1)) (heading_read earlier s)
      (λ head.
      found_next (IsBehindHead head.0) (λ ps ts t. (body : List (Name × Kind) × Block)
      × (t ≡ whole_draft head.0 ps body) × IsBody head.0.2 ps ts body) head.1 (params_at policy head.1)
      (λ ps. body_at policy schemes head.0.2 ps.0 ps.1 >>= λ b. Ok (whole_draft head.0 ps.0 b.0, b.1))
      (params_read policy head.1)
      (λ ps. found_made (λ ts t. (body : List (Name × Kind) × Block) × (t ≡ whole_draft head.0 ps.0 body)
      × IsBody head.0.2 ps.0 ts body) ps.1 (body_at policy schemes head.0.2 ps.0 ps.1)
      (λ b. whole_draft head.0 ps.0 b) (body_read head.0.2 ps.0 ps.1)
      (λ b ts r. (b, refl, r)))
      (λ ps t ts us p r. (ps, r.0, r.1, ts, us, refl, p, r.2)))
      (λ h t ts us head r.
      subst (λ l. IsRightDraft earlier (ts ++ l) t) (sym r.5) (subst (IsRightDraft earlier (ts ++ (r.3 ++ r.4)))
      (sym r.2) (draft_right earlier h r.0 r.1 ts r.3 r.4 head r.6 r.7)))

  -- ---- all transactions

  abbrev drafted : List Draft → List Name
  drafted = map (λ d. d.name)

  record AreDrafts (front : List Draft) (ts : List Token) (y : List Draft) : Type 0 where
    new : List Draft
    whole : y ≡ front ++ new
    told : TellsEach policy schemes (map tx_of new) ts
    each : AllByRecursion IsTx (map tx_of new)
    read : AllByRecursion (IsReadUnder policy schemes) (map tx_of new)
    few : length front ≤ 64 → length y ≤ 64
    apart : IsDistinct bytes_eq (drafted front) → IsDistinct bytes_eq (drafted y)

  -- what one more is, if there is one
  abbrev IsNext : List Draft → List Token → Option (List Draft) → Type 0
  IsNext front ts None = ts ≡ []
  IsNext front ts (Some y) = (t : Draft) × (y ≡ front ++ t ∷ []) × (length front < 64) × (us : List Token)
      × (ts ≡ Word (codes "transaction") ∷ us) × IsRightDraft front us t

  next_read : (front : List Draft) (s : State) (y : Option (List Draft) × State)
      → next_transaction policy schemes front s ≡ Ok y → Found (IsNext front) s y
  unfolding next_transaction
  next_read front s y e = go (has_ended s.1) refl e
    where
      more : State → Read (Option (List Draft))
      more s = word_at (codes "transaction") s >>= λ word. if nat_lt (length front) 64 then
          (transaction_at policy schemes front word.1 >>= λ t. Ok (Some (front ++ t.0 ∷ []), t.1)) else too_many word.0

      go : (b : Bool) → has_ended s.1 ≡ b → (if b then Ok (None, s) else more s) ≡ Ok y → Found (IsNext front) s y
      go true on h = subst (Found (IsNext front) s) (ok_is (None, s) y h) (found_none (IsNext front) None s refl)
      go false off h =
          found_next (IsNext front) (λ at ts z. IsNext front (Word (codes "transaction") ∷ ts) z) s
          (word_at (codes "transaction") s)
          (λ word. if nat_lt (length front) 64 then (transaction_at policy schemes front word.1 >>=
          λ t. Ok (Some (front ++ t.0 ∷ []), t.1)) else too_many word.0) (word_read (codes "transaction") s)
          (λ word z k.
          let r = roomy (nat_lt (length front) 64) (transaction_at policy schemes front word.1 >>=
          λ t. Ok (Some (front ++ t.0 ∷ []), t.1)) word.0 z k in
          found_made (λ ts o. IsNext front (Word (codes "transaction") ∷ ts) o) word.1
          (transaction_at policy schemes front word.1) (λ t. Some (front ++ t ∷ [])) (transaction_read front word.1)
          (λ t ts d. (t, refl, ltb-true (length front) 64 r.0, ts, refl, d)) z r.1)
          (λ at z ts us word r. subst (λ l. IsNext front (l ++ us) z) (sym word) r)
          y h

  drafts_read : (n : ℕ) (front : List Draft) (s : State) (y : List Draft × State)
      → things_from (next_transaction policy schemes) n front s ≡ Ok y → Found (AreDrafts front) s y
  drafts_read zero front s y e = absurd cc
  drafts_read (suc n) front s y e =
      let x = bind_ok (next_transaction policy schemes front s)
      (with_next (λ new r. things_from (next_transaction policy schemes) n new r) front) y e in
      go x.0.0 x.0.1 (next_read front s x.0 x.1) (λ new k. drafts_read n new x.0.1 y k) x.2
    where
      go : (o : Option (List Draft)) (r : State) → Found (IsNext front) s (o, r)
          → ((new : List Draft) → things_from (next_transaction policy schemes) n new r ≡ Ok y
          → Found (AreDrafts new) r y)
          → with_next (λ new q. things_from (next_transaction policy schemes) n new q) front (o, r) ≡ Ok y
          → Found (AreDrafts front) s y
      go None r one more h =
          subst (Found (AreDrafts front) s) (same_ok
          (with_next (λ new q. things_from (next_transaction policy schemes) n new q) front (None, r)) (
            front,
            r,
          ) y refl h)
          (record {
            tokens = one.tokens;
            passed = one.passed;
            right = λ none a. let b = one.right none a in (
              b.0,
              record {
                new = [];
                whole = sym (append-nil front);
                told = b.1;
                each = tt;
                read = tt;
                few = λ m. m;
                apart = λ d. d;
              },
            );
          })
      go (Some mid) r one more h =
          let rest = more mid h in
          record {
            tokens = one.tokens ++ rest.tokens;
            passed = passed_more one.tokens rest.tokens s.1 r.1 y.1.1 one.passed rest.passed;
            right = λ none a.
                let parts = split one.tokens rest.tokens a in
                let last = rest.right none parts.1 in
                let first = one.right last.0 parts.0 in
                let t = first.1.0 in
                let d = first.1.5 in
                let l = last.1 in
                let longer : length mid ≡ length front + 1 = ap length first.1.1 ∙ length-append front (t ∷ []) in
                let less = first.1.2 in (
                  first.0,
                  record {
                    new = t ∷ l.new;
                    whole = l.whole ∙ ap (λ m. m ++ l.new) first.1.1 ∙ append_assoc front (t ∷ []) l.new;
                    told = (
                      one.tokens,
                      rest.tokens,
                      refl,
                      subst (TellsTx (place_of policy schemes (tx_of t)) (tx_of t))
                          (sym first.1.4) d.told,
                      l.told,
                    );
                    each = (d.is_tx, l.each);
                    read = (d.read, l.read);
                    few = λ m. l.few (omega (arith, longer, less));
                    apart = λ k. l.apart (subst (λ m. IsDistinct bytes_eq (drafted m)) (sym first.1.1)
                        (subst (IsDistinct bytes_eq) (sym (map_push (λ x. x.name) front t))
                        (IsDistinct-push nat_list_eq_equiv (drafted front) t.name k d.new)));
                  },
                );
          }

  -- where the text is over
  drafts_end : (n : ℕ) (front : List Draft) (s : State) (y : List Draft × State)
      → things_from (next_transaction policy schemes) n front s ≡ Ok y → has_ended y.1.1 ≡ true
  unfolding next_transaction
  drafts_end zero front s y e = absurd cc
  drafts_end (suc n) front s y e = go (has_ended s.1) refl (λ new r k. drafts_end n new r y k) e
    where
      go : (b : Bool) → has_ended s.1 ≡ b → ((new : List Draft) (r : State)
          → things_from (next_transaction policy schemes) n new r ≡ Ok y → has_ended y.1.1 ≡ true)
          → ((if b then Ok (None, s) else (word_at (codes "transaction") s >>= λ word. if nat_lt (length front) 64 then
          (transaction_at policy schemes front word.1 >>= λ t. Ok (
            Some (front ++ t.0 ∷ []),
            t.1,
          )) else too_many word.0))
          >>= with_next (λ new q. things_from (next_transaction policy schemes) n new q) front) ≡ Ok y → has_ended y.1.1
          ≡ true
      go true on more h = subst (λ (z : List Draft × State). has_ended z.1.1 ≡ true) (ok_is (front, s) y h) on
      go false off more h =
          let x = bind_ok (word_at (codes "transaction") s >>= λ word. if nat_lt (length front) 64 then
          (transaction_at policy schemes front word.1 >>= λ t. Ok (
            Some (front ++ t.0 ∷ []),
            t.1,
          )) else too_many word.0)
          (with_next (λ new q. things_from (next_transaction policy schemes) n new q) front) y h in
          let w = bind_ok (word_at (codes "transaction") s) (λ word. if nat_lt (length front) 64 then
          (transaction_at policy schemes front word.1 >>= λ t. Ok (
            Some (front ++ t.0 ∷ []),
            t.1,
          )) else too_many word.0) x.0 x.1 in
          let r = roomy (nat_lt (length front) 64) (transaction_at policy schemes front w.0.1 >>=
          λ t. Ok (Some (front ++ t.0 ∷ []), t.1)) w.0.0 x.0 w.2 in
          let t = bind_ok (transaction_at policy schemes front w.0.1) (λ t. Ok (Some (front ++ t.0 ∷ []), t.1)) x.0 r.1
          in
          let same = ok_is (Some (front ++ t.0.0 ∷ []), t.0.1) x.0 t.2 in
          more (front ++ t.0.0 ∷ []) t.0.1 (ap (with_next
          (λ new q. things_from (next_transaction policy schemes) n new q) front) same ∙ x.2)

  -- a text in which no fault is noted tells what is read of it
  pub text_told : (bytes : List ℕ) (y : List Draft × State) → noted policy schemes bytes ≡ Ok y → y.1.0 ≡ []
      → Tells policy schemes bytes (map tx_of y.0)
  unfolding transactions_at
  text_told bytes y e none =
      let start : State = ([], tokens_at bytes) in
      let h = drafts_read 65 [] start y e in
      let over = over_is y.1.1.placed y.1.1.stop (drafts_end 65 [] start y e) in
      let all : List Token = without_places (tokens_at bytes).placed in
      let same : all ≡ h.tokens = h.passed.tokens ∙ ap (λ l. h.tokens ++ l) over.0 ∙ append-nil h.tokens in
      let text : AreTokens all bytes = (tokens_exact bytes all).0 (
        refl,
        ap (λ (f : TokenFault). f.cause)
            (sym h.passed.stop) ∙ over.1,
      ) in
      let r = (h.right none (subst AreSpelled same (all_spelled all bytes text))).1 in
      let whole : r.new ≡ y.0 = sym r.whole in
      record {
        tokens = all;
        text = text;
        told = subst (λ ts. TellsEach policy schemes (map tx_of y.0) ts) (sym same)
            (subst (λ ds. TellsEach policy schemes (map tx_of ds) h.tokens) whole r.told);
        each = subst (λ ds. AllByRecursion IsTx (map tx_of ds)) whole r.each;
        read = record {
          few = omega (arith, r.few (omega arith), length-map y.0 tx_of);
          each = subst (λ ds. AllByRecursion (IsReadUnder policy schemes) (map tx_of ds)) whole r.read;
          apart = subst (IsDistinct bytes_eq) (same_names y.0) (r.apart none_apart);
        };
      }
    where
      same_names : (ds : List Draft) → drafted ds ≡ map (λ tx. tx.name) (map tx_of ds)
      same_names [] = refl
      same_names (d ∷ ds) = λ i. d.name ∷ same_names ds i
