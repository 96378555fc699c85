-- An entry that is read is spelled so, and what is spelled so is read again.
use Rattle.std.proofs.Common.{◌≡◌, ℕ, zero, suc, ◌+◌, ◌<◌, ◌≤◌, Bool, true, false, ◌&&◌, cond, nat_lt, ◌==◌, List, [], ◌∷◌, ◌++◌, length, take, drop, Option, None, Some, Result, Ok, Err, refl, sym, ap, subst, ◌∙◌, append_assoc, arith, IfOk, IsUtf8, IfSome, ltb-false, le-ltb, eqb-true, take_at, drop_at, take-append-drop, length-append, length-take, get_or-drop, append-nil}
use Rattle.std.specs.Str.{is_utf8}
use Rattle.std.proofs.lemmas.List.{nil_from_length}
use Rattle.std.proofs.lemmas.Str.{IsUtf8-from_is_utf8}
use Rattle.std.proofs.lemmas.Bool.{and_parts}
use Rattle.mls_scheme.specs.declared.value.Value.{Value}
use Rattle.mls_scheme.specs.declared.value.Value.TheVariants.{Int, Text}
use Rattle.mls_scheme.specs.declared.key_fault.KeyFault.{KeyFault}
use Rattle.mls_scheme.specs.Spelling as values
use Rattle.mls_lattice.specs.Reading.{◌>>=◌}
use Rattle.mls_lattice.specs.Time.{is_date, is_clock, is_time}
use Rattle.mls_lattice.proofs.ReadingLemmas.{ok_is, bind_ok, guard_ok, pass_ok}
use Rattle.mls_scheme.specs.KeyReading.{GivesKey, utf8_at, value_at}
use Rattle.mls_scheme.proofs.KeyLemmas.{IsBytes, Takes, Takes-then, value_takes, value_again}
use Rattle.mls_audit.specs.declared.entry.Entry.{Entry}
use Rattle.mls_audit.specs.declared.entry.Deed.{Deed}
use Rattle.mls_audit.specs.declared.entry.Deed.TheVariants.{Called, Denied, Released}
use Rattle.mls_audit.specs.declared.reading.Kind.{Kind}
use Rattle.mls_audit.specs.declared.reading.Kind.TheVariants as kinds
use Rattle.mls_audit.specs.declared.reading.Head.{Head}
use Rattle.mls_scheme.specs.declared.key_fault.KeyFault.TheVariants.{Short, BadText, Trailing}
use Rattle.mls_audit.specs.Spelling.{name_spelling, nullable_spelling, time_spelling, deed_spelling, deed_number, tag_of, head_spelling, entry_spelling, IsHead, IsDeed, IsShortName, IsShortDeed, IsTimed, HasSpelling, AreUnambiguous}
use Rattle.mls_audit.specs.Reading.{byte_at, name_at, nullable_at, time_at, head_at, deed_at, tag_at, front_at, entry_at}
use Rattle.mls_scheme.proofs.KeySteps.{utf8_at-ok}

Takes-more : (n : ℕ) (bytes text rest : List ℕ) → Takes bytes text rest → Takes (n ∷ bytes) (n ∷ text) rest
Takes-more n bytes text rest t = record { parts = ap (λ (bs : List ℕ). n ∷ bs) t.parts; rest_fits = t.rest_fits }

-- ---- names

record TakesName (bytes name rest : List ℕ) : Type 0 where
  takes : Takes bytes (name_spelling name) rest
  utf8 : IsUtf8 name
  short : IsShortName name

name_takes : (bytes : List ℕ) (x : List ℕ × List ℕ) → IsBytes bytes → name_at bytes ≡ Ok x → TakesName bytes x.0 x.1
unfolding name_at utf8_at
name_takes [] x fits e = absurd cc
name_takes (n ∷ after) x fits e =
    let g = guard_ok (nat_lt (length after) n) Short (utf8_at (take n after) >>= (λ s. Ok (s, drop n after))) x e in
    let u = bind_ok (utf8_at (take n after)) (λ s. Ok (s, drop n after)) x g.1 in
    let v = pass_ok (is_utf8 (take n after)) BadText (Ok (take n after)) u.0 u.1 in
    let same : (take n after, drop n after) ≡ x = ap (λ (s : List ℕ). (s, drop n after)) (ok_is (take n after) u.0 v.1)
    ∙ ok_is (u.0, drop n after) x u.2 in
    let long : n ≤ length after = ltb-false _ _ g.0 in
    let len : length (take n after) ≡ n = omega (arith, length-take n after) in
    let parts : n ∷ after ≡ length (take n after) ∷ (take n after ++ drop n after) =
    rw len (ap (λ (bs : List ℕ). n ∷ bs) (sym (take-append-drop n after))) in
    subst (λ (p : List ℕ × List ℕ). TakesName (n ∷ after) p.0 p.1) same (record {
      takes = record { parts = parts; rest_fits = λ i. rw get_or-drop (fits (suc (n + i))) };
      utf8 = IsUtf8-from_is_utf8 (take n after) v.0;
      short = rw len (fits 0);
    })

name_again : (name rest : List ℕ) → IsUtf8 name → name_at (name_spelling name ++ rest) ≡ Ok (name, rest)
unfolding name_at
name_again name rest utf8 =
    let long : nat_lt (length (name ++ rest)) (length name) ≡ false =
    le-ltb _ _ (omega (arith, length-append name rest)) in
    rw (long, take_at name rest (length name) refl, drop_at name rest (length name) refl, utf8_at-ok name utf8) refl

-- ---- bytes

byte_takes : (bytes : List ℕ) (x : ℕ × List ℕ) → IsBytes bytes → byte_at bytes ≡ Ok x → Takes bytes (x.0 ∷ []) x.1
    × (x.0 < 256)
byte_takes [] x fits e = absurd cc
byte_takes (n ∷ rest) x fits e = subst (λ (p : ℕ × List ℕ). Takes (n ∷ rest) (p.0 ∷ []) p.1 × (p.0 < 256))
    (ok_is (n, rest) x e) (record { parts = refl; rest_fits = λ i. fits (suc i) }, fits 0)

-- ---- values and null

record TakesNullable (bytes : List ℕ) (value : Option Value) (rest : List ℕ) : Type 0 where
  takes : Takes bytes (nullable_spelling value) rest
  whole : IfSome value values.IsValue
  short : IfSome value values.IsShort

nullable_takes : (bytes : List ℕ) (x : Option Value × List ℕ) → IsBytes bytes → nullable_at bytes ≡ Ok x
    → TakesNullable bytes x.0 x.1
unfolding nullable_at
nullable_takes [] x fits e = absurd cc
nullable_takes (zero ∷ rest) x fits e =
    subst (λ (p : Option Value × List ℕ). TakesNullable (0 ∷ rest) p.0 p.1) (ok_is (None, rest) x e)
    (record { takes = record { parts = refl; rest_fits = λ i. fits (suc i) }; whole = tt; short = tt })
nullable_takes (suc tag ∷ rest) x fits e =
    let b = bind_ok (value_at (suc tag ∷ rest)) (λ v. Ok (Some v.0, v.1)) x e in
    let t = value_takes (suc tag ∷ rest) b.0.0 b.0.1 fits b.1 in
    subst (λ (p : Option Value × List ℕ). TakesNullable (suc tag ∷ rest) p.0 p.1) (ok_is (Some b.0.0, b.0.1) x b.2)
    (record { takes = t.0; whole = t.1.0; short = t.1.1 })

nullable_again : (value : Option Value) (rest : List ℕ) → IfSome value values.IsValue → IfSome value values.IsShort
    → nullable_at (nullable_spelling value ++ rest) ≡ Ok (value, rest)
unfolding nullable_at
nullable_again None rest whole short = refl
nullable_again (Some (Int n)) rest whole short = rw (value_again (Int n) rest (whole, short)) refl
nullable_again (Some (Text s)) rest whole short = rw (value_again (Text s) rest (whole, short)) refl

-- ---- times

-- the tag of a number with a time, and without one
abbrev tag_for : Bool → ℕ → ℕ
tag_for false number = number
tag_for true number = suc (suc (suc number))

record TakesTime (timed : Bool) (bytes : List ℕ) (time : Option (List ℕ)) (rest : List ℕ) : Type 0 where
  takes : Takes bytes (time_spelling time) rest
  utf8 : IfSome time IsUtf8
  form : IsTimed time
  tagged : (number : ℕ) → tag_for timed number ≡ tag_of time number

time_takes : (timed : Bool) (bytes : List ℕ) (x : Option (List ℕ) × List ℕ) → IsBytes bytes → time_at timed bytes ≡ Ok x
    → TakesTime timed bytes x.0 x.1
unfolding utf8_at
time_takes false bytes x fits e =
    subst (λ (p : Option (List ℕ) × List ℕ). TakesTime false bytes p.0 p.1) (ok_is (None, bytes) x e)
    (record { takes = record { parts = refl; rest_fits = fits }; utf8 = tt; form = tt; tagged = λ number. refl })
time_takes true bytes x fits e =
    let g = guard_ok (nat_lt (length bytes) 20) Short (utf8_at (take 20 bytes) >>=
    (λ t. cond (is_time t) (Ok (Some t, drop 20 bytes)) (Err BadText))) x e in
    let u = bind_ok (utf8_at (take 20 bytes)) (λ t. cond (is_time t) (Ok (Some t, drop 20 bytes)) (Err BadText)) x g.1
    in
    let v = pass_ok (is_utf8 (take 20 bytes)) BadText (Ok (take 20 bytes)) u.0 u.1 in
    let w = pass_ok (is_time u.0) BadText (Ok (Some u.0, drop 20 bytes)) x u.2 in
    let same : take 20 bytes ≡ u.0 = ok_is (take 20 bytes) u.0 v.1 in
    subst (λ (p : Option (List ℕ) × List ℕ). TakesTime true bytes p.0 p.1) (ok_is (Some u.0, drop 20 bytes) x w.1)
    (record {
      takes = record {
        parts = sym (take-append-drop 20 bytes) ∙ ap (λ (bs : List ℕ). bs ++ drop 20 bytes) same;
        rest_fits = λ i. rw get_or-drop (fits (20 + i));
      };
      utf8 = subst IsUtf8 same (IsUtf8-from_is_utf8 (take 20 bytes) v.0);
      form = w.0;
      tagged = λ number. refl;
    })

-- a time has twenty bytes
time_long : (time : List ℕ) → is_time time ≡ true → length time ≡ 20
unfolding is_time
time_long time h = eqb-true (length time) 20 (and_parts (length time == 20) (is_date time)
    (and_parts (length time == 20 && is_date time) (is_clock time) h).0).0

abbrev is_timed : Option (List ℕ) → Bool
is_timed None = false
is_timed (Some time) = true

time_again : (time : Option (List ℕ)) (rest : List ℕ) → IfSome time IsUtf8 → IsTimed time
    → time_at (is_timed time) (time_spelling time ++ rest) ≡ Ok (time, rest)
time_again None rest utf8 form = refl
time_again (Some time) rest utf8 form =
    let twenty = time_long time form in
    let long : nat_lt (length (time ++ rest)) 20 ≡ false = le-ltb _ _
    (omega (arith, twenty, length-append time rest)) in
    rw (long, take_at time rest 20 twenty, drop_at time rest 20 twenty, utf8_at-ok time utf8, form) refl

-- ---- what every entry has

record TakesHead (timed : Bool) (bytes : List ℕ) (h : Head) (rest : List ℕ) : Type 0 where
  takes : Takes bytes (head_spelling h.label h.time h.user h.session) rest
  whole : IsHead h.label h.time h.user h.session
  form : IsTimed h.time
  user : IsShortName h.user
  session : IsShortName h.session
  tagged : (number : ℕ) → tag_for timed number ≡ tag_of h.time number

head_takes : (timed : Bool) (bytes : List ℕ) (x : Head × List ℕ) → IsBytes bytes → head_at timed bytes ≡ Ok x
    → TakesHead timed bytes x.0 x.1
unfolding head_at
head_takes timed [] x fits e = absurd cc
head_takes timed (label ∷ after) x fits e =
    let t = bind_ok (time_at timed after) _ x e in
    let u = bind_ok (name_at t.0.1) _ x t.2 in
    let s = bind_ok (name_at u.0.1) _ x u.2 in
    let time = time_takes timed after t.0 (λ i. fits (suc i)) t.1 in
    let user = name_takes t.0.1 u.0 time.takes.rest_fits u.1 in
    let session = name_takes u.0.1 s.0 user.takes.rest_fits s.1 in
    let names = Takes-then t.0.1 (name_spelling u.0.0) u.0.1 (name_spelling s.0.0) s.0.1 user.takes session.takes in
    subst (λ (p : Head × List ℕ). TakesHead timed (label ∷ after) p.0 p.1) (ok_is _ _ s.2) (record {
      takes = Takes-more label after _ _ (Takes-then after (time_spelling t.0.0) t.0.1 (name_spelling u.0.0
          ++ name_spelling s.0.0) s.0.1 time.takes names);
      whole = (fits 0, time.utf8, user.utf8, session.utf8);
      form = time.form;
      user = user.short;
      session = session.short;
      tagged = time.tagged;
    })

head_again : (h : Head) (rest : List ℕ) → IsHead h.label h.time h.user h.session → IsTimed h.time
    → head_at (is_timed h.time) (head_spelling h.label h.time h.user h.session ++ rest) ≡ Ok (h, rest)
unfolding head_at
head_again h rest whole form =
    let names = name_spelling h.user ++ name_spelling h.session in
    let split : (time_spelling h.time ++ names) ++ rest ≡ time_spelling h.time
    ++ (name_spelling h.user ++ (name_spelling h.session ++ rest)) =
    append_assoc (time_spelling h.time) names rest ∙ ap (λ (bs : List ℕ). time_spelling h.time ++ bs)
    (append_assoc (name_spelling h.user) (name_spelling h.session) rest) in
    ap (λ (bs : List ℕ). head_at (is_timed h.time) (h.label ∷ bs)) split
    ∙ rw (
      time_again h.time (name_spelling h.user ++ (name_spelling h.session ++ rest)) whole.1 form,
      name_again h.user (name_spelling h.session ++ rest) whole.2,
      name_again h.session rest whole.3,
    ) refl

-- ---- what an entry tells

-- the number of a kind
abbrev number_of : Kind → ℕ
number_of kinds.Called = 1
number_of kinds.Denied = 2
number_of kinds.Released = 3

record TakesDeed (kind : Kind) (bytes : List ℕ) (deed : Deed) (rest : List ℕ) : Type 0 where
  takes : Takes bytes (deed_spelling deed) rest
  whole : IsDeed deed
  short : IsShortDeed deed
  numbered : deed_number deed ≡ number_of kind

deed_takes : (kind : Kind) (bytes : List ℕ) (x : Deed × List ℕ) → IsBytes bytes → deed_at kind bytes ≡ Ok x
    → TakesDeed kind bytes x.0 x.1
deed_takes kinds.Called bytes x fits e =
    let n = bind_ok (name_at bytes) (λ n. Ok (Called n.0, n.1)) x e in
    let name = name_takes bytes n.0 fits n.1 in
    subst (λ (p : Deed × List ℕ). TakesDeed kinds.Called bytes p.0 p.1) (ok_is (Called n.0.0, n.0.1) x n.2)
    (record { takes = name.takes; whole = name.utf8; short = name.short; numbered = refl })
deed_takes kinds.Denied bytes x fits e =
    let c = bind_ok (byte_at bytes) (λ c. Ok (Denied c.0, c.1)) x e in
    let code = byte_takes bytes c.0 fits c.1 in
    subst (λ (p : Deed × List ℕ). TakesDeed kinds.Denied bytes p.0 p.1) (ok_is (Denied c.0.0, c.0.1) x c.2)
    (record { takes = code.0; whole = code.1; short = tt; numbered = refl })
deed_takes kinds.Released bytes x fits e =
    let v = bind_ok (nullable_at bytes) (λ v. Ok (Released v.0, v.1)) x e in
    let value = nullable_takes bytes v.0 fits v.1 in
    subst (λ (p : Deed × List ℕ). TakesDeed kinds.Released bytes p.0 p.1) (ok_is (Released v.0.0, v.0.1) x v.2)
    (record { takes = value.takes; whole = value.whole; short = value.short; numbered = refl })

abbrev kind_of : Deed → Kind
kind_of (Called transaction) = kinds.Called
kind_of (Denied code) = kinds.Denied
kind_of (Released value) = kinds.Released

deed_again : (deed : Deed) (rest : List ℕ) → IsDeed deed → IsShortDeed deed → deed_at (kind_of deed) (deed_spelling deed
    ++ rest) ≡ Ok (deed, rest)
deed_again (Called transaction) rest whole short = rw (name_again transaction rest whole) refl
deed_again (Denied code) rest whole short = refl
deed_again (Released value) rest whole short = rw (nullable_again value rest whole short) refl

-- ---- tags

tag_takes : (tag : ℕ) (k : Bool × Kind) → tag_at tag ≡ Ok k → tag ≡ tag_for k.0 (number_of k.1)
tag_takes (suc zero) k e = subst (λ (k : Bool × Kind). 1 ≡ tag_for k.0 (number_of k.1)) (ok_is _ k e) refl
tag_takes (suc (suc zero)) k e = subst (λ (k : Bool × Kind). 2 ≡ tag_for k.0 (number_of k.1)) (ok_is _ k e) refl
tag_takes (suc (suc (suc zero))) k e = subst (λ (k : Bool × Kind). 3 ≡ tag_for k.0 (number_of k.1)) (ok_is _ k e) refl
tag_takes (suc (suc (suc (suc zero)))) k e = subst (λ (k : Bool × Kind). 4 ≡ tag_for k.0 (number_of k.1))
    (ok_is _ k e) refl
tag_takes (suc (suc (suc (suc (suc zero))))) k e = subst (λ (k : Bool × Kind). 5 ≡ tag_for k.0 (number_of k.1))
    (ok_is _ k e) refl
tag_takes (suc (suc (suc (suc (suc (suc zero)))))) k e = subst (λ (k : Bool × Kind). 6 ≡ tag_for k.0 (number_of k.1))
    (ok_is _ k e) refl
tag_takes _ k e = absurd cc

tag_again : (time : Option (List ℕ)) (deed : Deed) → tag_at (tag_of time (deed_number deed)) ≡ Ok (
  is_timed time,
  kind_of deed,
)
tag_again None (Called transaction) = refl
tag_again None (Denied code) = refl
tag_again None (Released value) = refl
tag_again (Some time) (Called transaction) = refl
tag_again (Some time) (Denied code) = refl
tag_again (Some time) (Released value) = refl

-- ---- entries

record TakesEntry (bytes : List ℕ) (e : Entry) (rest : List ℕ) : Type 0 where
  takes : Takes bytes (entry_spelling e) rest
  fits : HasSpelling e

front_takes : (bytes : List ℕ) (x : Entry × List ℕ) → IsBytes bytes → front_at bytes ≡ Ok x → TakesEntry bytes x.0 x.1
unfolding front_at
front_takes [] x fits e = absurd cc
front_takes (tag ∷ bytes) x fits e =
    let k = bind_ok (tag_at tag) _ x e in
    let h = bind_ok (head_at k.0.0 bytes) _ x k.2 in
    let d = bind_ok (deed_at k.0.1 h.0.1) _ x h.2 in
    let head = head_takes k.0.0 bytes h.0 (λ i. fits (suc i)) h.1 in
    let deed = deed_takes k.0.1 h.0.1 d.0 head.takes.rest_fits d.1 in
    let tagged : tag ≡ tag_of h.0.0.time (deed_number d.0.0) =
    tag_takes tag k.0 k.1 ∙ head.tagged (number_of k.0.1) ∙ ap (tag_of h.0.0.time) (sym deed.numbered) in
    let spelled = Takes-then bytes (head_spelling h.0.0.label h.0.0.time h.0.0.user h.0.0.session) h.0.1
    (deed_spelling d.0.0) d.0.1 head.takes deed.takes in
    let all = Takes-more tag bytes _ _ spelled in
    subst (λ (p : Entry × List ℕ). TakesEntry (tag ∷ bytes) p.0 p.1) (ok_is _ _ d.2) (record {
      takes = subst (λ (n : ℕ). Takes (tag ∷ bytes) (n ∷ (head_spelling h.0.0.label h.0.0.time h.0.0.user h.0.0.session
          ++ deed_spelling d.0.0)) d.0.1) tagged all;
      fits = ((head.whole, deed.whole), (head.form, head.user, head.session, deed.short));
    })

front_again : (e : Entry) (rest : List ℕ) → HasSpelling e → front_at (entry_spelling e ++ rest) ≡ Ok (e, rest)
unfolding front_at
front_again e rest fits =
    let h : Head = record { label = e.label; time = e.time; user = e.user; session = e.session } in
    let split = append_assoc (head_spelling e.label e.time e.user e.session) (deed_spelling e.deed) rest in
    ap (λ (bs : List ℕ). front_at (tag_of e.time (deed_number e.deed) ∷ bs)) split
    ∙ rw (
      tag_again e.time e.deed,
      head_again h (deed_spelling e.deed ++ rest) fits.0.0 fits.1.0,
      deed_again e.deed rest fits.0.1 fits.1.3,
    ) refl

-- ---- all of the bytes

entry_found : (bytes : List ℕ) (e : Entry) → IsBytes bytes → entry_at bytes ≡ Ok e → HasSpelling e
    × (bytes ≡ entry_spelling e)
unfolding entry_at
entry_found bytes e fits read =
    let f = bind_ok (front_at bytes) _ e read in
    let c = pass_ok (length f.0.1 == 0) Trailing (Ok f.0.0) e f.2 in
    let none : f.0.1 ≡ [] = nil_from_length f.0.1 (eqb-true _ 0 c.0) in
    let t = front_takes bytes f.0 fits f.1 in
    subst (λ (d : Entry). HasSpelling d × (bytes ≡ entry_spelling d)) (ok_is f.0.0 e c.1) (
      t.fits,
      t.takes.parts
          ∙ ap (λ (r : List ℕ). entry_spelling f.0.0 ++ r) none ∙ append-nil (entry_spelling f.0.0),
    )

pub entry_again : (e : Entry) → HasSpelling e → entry_at (entry_spelling e) ≡ Ok e
unfolding entry_at
entry_again e fits =
    ap (λ (bs : List ℕ). front_at bs >>= (λ front. cond (length front.1 == 0) (Ok front.0) (Err Trailing)))
    (sym (append-nil (entry_spelling e)))
    ∙ rw (front_again e [] fits) refl

pub is_found : (bytes : List ℕ) (r : Result Entry KeyFault) → IsBytes bytes → GivesKey (λ e. e) r (entry_at bytes)
    → IfOk r (λ e. HasSpelling e × (bytes ≡ entry_spelling e))
is_found bytes (Ok e) fits given = entry_found bytes e fits given
is_found bytes (Err d) fits given = tt

pub unambiguous : AreUnambiguous
unambiguous d e a b same = ok_is d e (sym (entry_again d a) ∙ ap entry_at same ∙ entry_again e b)
