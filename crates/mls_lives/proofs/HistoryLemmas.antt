-- What histories tell: as lives do, run by run.
use Rattle.std.proofs.Common.{◌≡◌, ℕ, ◌*◌, ◌≤◌, mul-le-mul, mul_assoc, Bool, true, false, cond, List, [], ◌∷◌, ◌++◌, length, map, refl, sym, ap, ◌∙◌, subst, inl, inr, arith}
use Rattle.std.specs.Prelude.{Contains}
use Rattle.std.specs.List.{AllByRecursion, AllZip}
use Rattle.mls_lattice.specs.Labels.{Labels, AreDistinct, below}
use Rattle.mls_lattice.specs.Policy.{Name}
use Rattle.mls_scheme.specs.Scheme.{Schemes}
use Rattle.mls_scheme.specs.Table.{Database}
use Rattle.mls_translang.specs.Tx.{Tx}
use Rattle.mls_certcheck.specs.Meaning.{Item}
use Rattle.mls_certcheck.specs.Secure as secure
use Rattle.mls_certcheck.specs.declared.stored.Stored.{Stored}
use Rattle.mls_certcheck.specs.Site.{Site, site_labels, AreCertified}
use Rattle.mls_machine.specs.Machine.{World}
use Rattle.mls_machine.specs.Turning.{turned}
use Rattle.mls_machine.specs.Observation.{AreStored, EventsFit, seen, told_to}
use Rattle.mls_machine.specs.Telling.{by_releases}
use Rattle.mls_machine.specs.History.{RunAt, run_start, run_end, LookAlike, ReleaseAlike, HistoriesEndAlike, HistoryFits, IsSiteUnder, IsHistoryUnder}
use Rattle.mls_machine.proofs.KeepingLemmas.{run_stored, all_calls_read}
use Rattle.mls_machine.proofs.RunLemmas.{certified_secure}
use Rattle.mls_machine.proofs.HistoryLemmas.{accepted_histories}
use Rattle.mls_lives.specs.Lives.{all_ran, CountsAtMost, product}
use Rattle.mls_lives.specs.Histories.{Past, BeginsAs, TellsAtMost, history_released, history_ran, HistoriesTellFew, HistoryCallsMultiply}
use Rattle.mls_lives.proofs.ListLemmas.{joined, long_joined, has_joined, same_place}
use Rattle.mls_lives.proofs.RanLemmas.{same_ran}
use Rattle.mls_lives.proofs.ReleasedLemmas.{AreReleased, IsFew, marked, counted_few, few_after, run_releases}
use Rattle.mls_lives.proofs.LifeLemmas.{agree_between}

-- ---- products

product-append : (ns ms : List ℕ) → product (ns ++ ms) ≡ product ns * product ms
product-append [] ms = omega arith
product-append (n ∷ ns) ms = ap (λ k. n * k) (product-append ns ms) ∙ sym (mul_assoc n (product ns) (product ms))

-- a list of counts is parted as what is counted is
record Parted {A : Type 0} (R : A → ℕ → Type 0) (xs ys : List A) (counts : List ℕ) : Type 0 where
  pub front : List ℕ
  pub rest : List ℕ
  pub are : counts ≡ front ++ rest
  pub first : AllZip R xs front
  pub second : AllZip R ys rest

parted : {A : Type 0} (R : A → ℕ → Type 0) (xs ys : List A) (counts : List ℕ) → AllZip R (xs ++ ys) counts
    → Parted R xs ys counts
parted R [] ys counts h = record { front = []; rest = counts; are = refl; first = tt; second = h }
parted R (x ∷ xs) ys [] h = absurd h
parted R (x ∷ xs) ys (n ∷ ns) h =
    let more = parted R xs ys ns h.1 in
    record {
      front = n ∷ more.front;
      rest = more.rest;
      are = ap (λ l. n ∷ l) more.are;
      first = (h.0, more.first);
      second = more.second;
    }

-- lists, one behind another
in_a_row : {A : Type 0} → List (List A) → List A
in_a_row [] = []
in_a_row (xs ∷ xss) = xs ++ in_a_row xss

-- ---- lists of what runs release

module _ (ls : Labels) (schemes : Schemes) (c : ℕ) where
  abbrev AreAllReleased : List (List (Bool × Tx)) → List (List Item) → Type 0
  AreAllReleased = AllZip (AreReleased ls schemes c)

  record HistoryFew (txs : List (List (Bool × Tx))) (count : ℕ) : Type 0 where
    pub lists : List (List (List Item))
    pub few : length lists ≤ count
    pub all : (items : List (List Item)) → AreAllReleased txs items → Contains lists items

  none_at : (items : List (List Item)) → AreAllReleased [] items → Contains ([] ∷ []) items
  none_at [] h = (0, omega arith, refl)
  none_at (x ∷ xs) h = absurd h

  history_few : (txs : List (List (Bool × Tx))) (counts : List ℕ) → AllZip (IsFew ls schemes c) (in_a_row txs) counts
      → HistoryFew txs (product counts)
  unfolding in_a_row
  history_few [] [] h = record { lists = [] ∷ []; few = omega arith; all = none_at }
  history_few [] (n ∷ ns) h = absurd h
  history_few (run ∷ txs) counts h =
      let p = parted (IsFew ls schemes c) run (in_a_row txs) counts h in
      let one = few_after ls schemes c run p.front p.first in
      let more = history_few txs p.rest p.second in
      let long = long_joined ◌∷◌ one.lists more.lists in
      let within : length one.lists * length more.lists ≤ product p.front * product p.rest = mul-le-mul one.few more.few
      in
      let whole : product counts ≡ product p.front * product p.rest = ap product p.are ∙ product-append p.front p.rest
      in
      record {
        lists = joined ◌∷◌ one.lists more.lists;
        few = omega (arith, long, within, whole);
        all = by_first one.lists more.lists one.all more.all;
      }
    where
      by_first : (heads : List (List Item)) (tails : List (List (List Item)))
          → ((items : List Item) → AreReleased ls schemes c run items → Contains heads items)
          → ((items : List (List Item)) → AreAllReleased txs items → Contains tails items)
          → (items : List (List Item)) → AreAllReleased (run ∷ txs) items → Contains (joined ◌∷◌ heads tails) items
      by_first heads tails f g [] h = absurd h
      by_first heads tails f g (x ∷ xs) h = has_joined ◌∷◌ heads tails x xs (f x h.0) (g xs h.1)

-- the transactions that each run has run, as c sees it, and whether they can tell it something
history_txs : ℕ → World → List RunAt → List (List (Bool × Tx))
history_txs c w [] = []
history_txs c w (r ∷ rs) =
    map (marked r.site c) (all_ran r.site c (run_start w r) r.events) ∷ history_txs c (run_end w r) rs

-- what each run tells c by releases
history_told : ℕ → World → List RunAt → List (List Item)
history_told c w [] = []
history_told c w (r ∷ rs) =
    told_to by_releases r.site c (run_start w r) r.events ∷ history_told c (run_end w r) rs

-- a turning leaves the database and the sessions
start_stored : (P : Database → Type 0) (w : World) (b : Bool) → P w.db → P (cond b (turned w) w).db
start_stored P w true h = h
start_stored P w false h = h

start_sessions : (w : World) (b : Bool) (level : ℕ) (name : Name) → (cond b (turned w) w).sessions level name
    ≡ w.sessions level name
start_sessions w true level name = refl
start_sessions w false level name = refl

module _ (ls : Labels) (schemes : Schemes) (distinct : AreDistinct ls) (c : ℕ) where
  -- ---- one run under the labels and the schemes

  module _ (site : Site) (under : IsSiteUnder ls schemes site) where
    distinct_at : AreDistinct (site_labels site)
    distinct_at = subst AreDistinct (sym under.labels) distinct

    stored_at : (db : Database) → secure.AreStored ls schemes db → AreStored site db
    stored_at db h = subst (λ l. secure.AreStored l site.schemes db) (sym under.labels)
        (subst (λ s. secure.AreStored ls s db) (sym under.relations) h)

    stored_back : (db : Database) → AreStored site db → secure.AreStored ls schemes db
    stored_back db h = subst (λ s. secure.AreStored ls s db) under.relations
        (subst (λ l. secure.AreStored l site.schemes db) under.labels h)

    released_back : (txs : List (Bool × Tx)) (items : List Item)
        → AreReleased (site_labels site) site.schemes c txs items
        → AreReleased ls schemes c txs items
    released_back txs items h = subst (λ s. AreReleased ls s c txs items) under.relations
        (subst (λ l. AreReleased l site.schemes c txs items) under.labels h)

    few_back : (ran : Stored) (n : ℕ) → CountsAtMost site c ran n → IsFew ls schemes c (marked site c ran) n
    few_back ran n h = subst (λ s. IsFew ls s c (marked site c ran) n) under.relations
        (subst (λ l. IsFew l site.schemes c (marked site c ran) n) under.labels (counted_few site c ran n h))

  stored_start : (w : World) (r : RunAt) → secure.AreStored ls schemes w.db
      → secure.AreStored ls schemes (run_start w r).db
  stored_start w r h = start_stored (secure.AreStored ls schemes) w r.turns h

  stored_end : (w : World) (r : RunAt) → IsSiteUnder ls schemes r.site → EventsFit r.site r.events
      → secure.AreStored ls schemes w.db → secure.AreStored ls schemes (run_end w r).db
  stored_end w r under fits h =
      stored_back r.site under _
      (run_stored r.site (distinct_at r.site under) (run_start w r) r.events (stored_at r.site under (run_start w r).db
      (stored_start w r h)) fits (all_calls_read r.site (distinct_at r.site under) under.read r.events))

  -- ---- histories that look alike

  look_between : (rs ss ts : List RunAt) → AllZip (LookAlike c) rs ss → AllZip (LookAlike c) rs ts
      → AllZip (LookAlike c) ss ts
  look_between [] [] [] h k = tt
  look_between [] [] (t ∷ ts) h k = absurd k
  look_between [] (s ∷ ss) ts h k = absurd h
  look_between (r ∷ rs) [] ts h k = absurd h
  look_between (r ∷ rs) (s ∷ ss) [] h k = absurd k
  look_between (r ∷ rs) (s ∷ ss) (t ∷ ts) h k = (
    record {
      site = sym h.0.site ∙ k.0.site;
      turns = sym h.0.turns ∙ k.0.turns;
      events =
          (λ i. seen (sym h.0.site i) c s.events) ∙ sym h.0.events ∙ k.0.events ∙ (λ i. seen (h.0.site i) c t.events);
    },
    look_between rs ss ts h.1 k.1,
  )

  -- what holds of the sites of one holds of those of the other
  of_sites : (P : Site → Type 0) (rs ss : List RunAt) → AllZip (LookAlike c) rs ss → AllByRecursion (λ r. P r.site) rs
      → AllByRecursion (λ s. P s.site) ss
  of_sites P [] [] h k = tt
  of_sites P [] (s ∷ ss) h k = absurd h
  of_sites P (r ∷ rs) [] h k = absurd h
  of_sites P (r ∷ rs) (s ∷ ss) h k = (subst P h.0.site k.0, of_sites P rs ss h.1 k.1)

  head_same : (x y : List Item) (xs ys : List (List Item)) → x ∷ xs ≡ y ∷ ys → x ≡ y
  head_same x y xs ys e = cc

  tail_same : (x y : List Item) (xs ys : List (List Item)) → x ∷ xs ≡ y ∷ ys → xs ≡ ys
  tail_same x y xs ys e = cc

  release_same : (rs ss : List RunAt) (v w : World) → history_released c v rs ≡ history_released c w ss
      → ReleaseAlike c v w rs ss
  unfolding history_released
  release_same [] ss v w h = tt
  release_same (r ∷ rs) [] v w h = tt
  release_same (r ∷ rs) (s ∷ ss) v w h = (
    inl (head_same _ _ _ _ h),
    release_same rs ss (run_end v r) (run_end w s)
        (tail_same _ _ _ _ h),
  )

  told_same : (rs ss : List RunAt) (v w : World) → history_told c v rs ≡ history_told c w ss → ReleaseAlike c v w rs ss
  unfolding history_told
  told_same [] ss v w h = tt
  told_same (r ∷ rs) [] v w h = tt
  told_same (r ∷ rs) (s ∷ ss) v w h = (
    inr (head_same _ _ _ _ h),
    told_same rs ss (run_end v r) (run_end w s)
        (tail_same _ _ _ _ h),
  )

  module _ (past : Past) (under : IsHistoryUnder ls schemes past.runs) (certified : AllByRecursion
      (λ r. AreCertified r.site) past.runs) where
    between : (one two : Past) → BeginsAs ls schemes c past one → BeginsAs ls schemes c past two
        → ReleaseAlike c one.world two.world one.runs two.runs
        → HistoriesEndAlike ls c one.world two.world one.runs two.runs
    between one two a b same =
        accepted_histories ls schemes distinct one.world one.runs a.stored
        (of_sites (IsSiteUnder ls schemes) past.runs one.runs a.runs under) a.fits
        (of_sites AreCertified past.runs one.runs a.runs certified) c two.world two.runs b.stored b.fits
        (agree_between ls c past.world one.world two.world a.agree b.agree)
        (look_between past.runs one.runs two.runs a.runs b.runs)
        same

    tell_few : (does : Past → List (List Item))
        → ((one two : Past) → does one ≡ does two → ReleaseAlike c one.world two.world one.runs two.runs)
        → (lists : List (List (List Item))) (count : ℕ) → length lists ≤ count
        → ((other : Past) → BeginsAs ls schemes c past other → Contains lists (does other))
        → TellsAtMost ls schemes c past count
    tell_few does same lists count long has = record {
      class = λ other begins. (has other begins).0;
      few = λ other begins. (let within = (has other begins).1 in omega (arith, within, long));
      alike = λ one two a b one_class. between one two a b
          (same one two (same_place lists _ _ (has one a) (has two b) one_class));
    }

  -- ---- what is run, and what that releases

  history_releases : (w : World) (rs : List RunAt) → secure.AreStored ls schemes w.db → IsHistoryUnder ls schemes rs
      → HistoryFits rs → AreAllReleased ls schemes c (history_txs c w rs) (history_told c w rs)
  unfolding history_told history_txs
  history_releases w [] sw under fits = tt
  history_releases w (r ∷ rs) sw under fits =
      let d = distinct_at r.site under.0 in (
        released_back r.site under.0 (map (marked r.site c) (all_ran r.site c (run_start w r) r.events))
            (told_to by_releases r.site c (run_start w r) r.events)
            (run_releases r.site c d under.0.read (run_start w r) r.events
            (stored_at r.site under.0 (run_start w r).db (stored_start w r sw)) fits.0),
        history_releases (run_end w r) rs (stored_end w r under.0 fits.0 sw) under.1 fits.1,
      )

  abbrev SameSessions : World → World → Type 0
  SameSessions v w = (level : ℕ) (name : Name) → below ls level c ≡ true → v.sessions level name ≡ w.sessions level name

  same_txs : (v w : World) (rs ss : List RunAt) → secure.AreStored ls schemes v.db → secure.AreStored ls schemes w.db
      → IsHistoryUnder ls schemes rs → HistoryFits rs → HistoryFits ss
      → AllByRecursion (λ r. AreCertified r.site) rs → SameSessions v w → AllZip (LookAlike c) rs ss
      → history_txs c v rs ≡ history_txs c w ss
  unfolding history_txs
  same_txs v w [] [] sv sw under fr fs certified h look = refl
  same_txs v w [] (s ∷ ss) sv sw under fr fs certified h look = absurd look
  same_txs v w (r ∷ rs) [] sv sw under fr fs certified h look = absurd look
  same_txs v w (r ∷ rs) (s ∷ ss) sv sw under fr fs certified h look =
      let d = distinct_at r.site under.0 in
      let fits : EventsFit r.site s.events = subst (λ at. EventsFit at s.events) (sym look.0.site) fs.0 in
      let first : map (marked r.site c) (all_ran r.site c (run_start v r) r.events)
      ≡ map (marked s.site c) (all_ran s.site c (run_start w s) s.events)
      = ap (map (marked r.site c)) (same_ran r.site c d under.0.read
      (certified_secure r.site d certified.0) r.events s.events (run_start v r)
      (run_start w s) fr.0 fits
      (stored_at r.site under.0 (run_start v r).db (stored_start v r sv)) (stored_at r.site under.0 (run_start w s).db
      (stored_start w s sw))
      (λ l n b. start_sessions v r.turns l n ∙ h l n (subst (λ at. below at l c ≡ true) under.0.labels b)
      ∙ sym (start_sessions w s.turns l n))
      look.0.events)
      ∙ (λ i. map (marked (look.0.site i) c) (all_ran (look.0.site i) c (run_start w s) s.events)) in
      let rest = same_txs (run_end v r) (run_end w s) rs ss (stored_end v r under.0 fr.0 sv)
      (stored_end w s (subst (IsSiteUnder ls schemes) look.0.site under.0) fs.0 sw)
      under.1 fr.1 fs.1 certified.1 (λ l n b. refl) look.1 in
      λ i. first i ∷ rest i

  -- counts of what is run at its site are counts of it
  each_few : (site : Site) → IsSiteUnder ls schemes site → (txs : List Stored) (rest : List (Site × Stored))
      (others : List (Bool × Tx))
      → ((counts : List ℕ) → AllZip (λ (run : Site × Stored) n. CountsAtMost run.0 c run.1 n) rest counts
      → AllZip (IsFew ls schemes c) others counts)
      → (counts : List ℕ) → AllZip (λ (run : Site × Stored) n. CountsAtMost run.0 c run.1 n)
      (map (λ (s : Stored). (site, s)) txs ++ rest) counts
      → AllZip (IsFew ls schemes c) (map (marked site c) txs ++ others) counts
  each_few site under [] rest others k counts h = k counts h
  each_few site under (tx ∷ txs) rest others k [] h = absurd h
  each_few site under (tx ∷ txs) rest others k (n ∷ ns) h = (
    few_back site under tx n h.0,
    each_few site under txs rest others k ns h.1,
  )

  all_few : (w : World) (rs : List RunAt) → IsHistoryUnder ls schemes rs → (counts : List ℕ)
      → AllZip (λ (run : Site × Stored) n. CountsAtMost run.0 c run.1 n) (history_ran c w rs) counts
      → AllZip (IsFew ls schemes c) (in_a_row (history_txs c w rs)) counts
  unfolding history_ran history_txs in_a_row
  all_few w [] under [] h = tt
  all_few w [] under (n ∷ ns) h = absurd h
  all_few w (r ∷ rs) under counts h =
      each_few r.site under.0 (all_ran r.site c (run_start w r) r.events) (history_ran c (run_end w r) rs)
      (in_a_row (history_txs c (run_end w r) rs)) (all_few (run_end w r) rs under.1) counts h

-- ---- the laws

pub histories_tell : HistoriesTellFew
histories_tell ls schemes distinct c past under certified lists has =
    tell_few ls schemes distinct c past under certified (λ other. history_released c other.world other.runs)
    (λ one two same. release_same ls schemes distinct c one.runs two.runs one.world two.world same) lists
    (length lists) (omega arith) has

pub history_calls_multiply : HistoryCallsMultiply
history_calls_multiply ls schemes distinct c past under certified stored fits counts each =
    let few = history_few ls schemes c (history_txs c past.world past.runs) counts
    (all_few ls schemes distinct c past.world past.runs under counts each) in
    tell_few ls schemes distinct c past under certified (λ other. history_told c other.world other.runs)
    (λ one two same. told_same ls schemes distinct c one.runs two.runs one.world two.world same) few.lists
    (product counts) few.few
    (λ other begins. few.all (history_told c other.world other.runs)
    (subst (λ txs. AreAllReleased ls schemes c txs (history_told c other.world other.runs))
    (sym (same_txs ls schemes distinct c past.world other.world past.runs other.runs stored begins.stored under fits
    begins.fits certified begins.agree.sessions begins.runs))
    (history_releases ls schemes distinct c other.world other.runs begins.stored (of_sites ls schemes distinct c
    (IsSiteUnder ls schemes) past.runs other.runs begins.runs under) begins.fits)))
