-- Lines of a reader: byte by byte.
use Rattle.std.proofs.Common.{◌≡◌, ◌≢◌, ℕ, ◌<◌, ◌≤◌, Bool, true, false, true≢false, List, [], ◌∷◌, ◌++◌, length, Option, Some, None, Result, Ok, Err, OnErr, refl, sym, ap, ◌∙◌, subst, inl, inr, append_assoc, arith, length-append}
use Rattle.std.specs.Io.KnownBytes.{Appends, Consumes, IsAtEnd, Keeps}
use Rattle.std.proofs.KnownBytes.{Appends-nil, Consumes-nil, Consumes-trans, Appends-kept}
use Rattle.mls_tokens.specs.declared.typed.Typed.{Typed}
use Rattle.mls_tokens.specs.declared.typed.Typed.TheVariants as typed
use Rattle.mls_tokens.specs.Typing.{HasNoFeed, IsNext, IsLong, IsTaken, IsSkipped, IsTyped, left_of, IsLost}

pub kept_written : (a b : Option (List ℕ)) → Keeps a b → Appends a b []
kept_written a b h = Appends-kept a a b [] (Appends-nil a) h

pub one_more : (a b c : Option (List ℕ)) (bytes : List ℕ) (byte : ℕ) → Consumes a b bytes → Consumes b c (byte ∷ [])
    → Consumes a c (bytes ++ byte ∷ [])
one_more a b c bytes byte h k = Consumes-trans a b c bytes (byte ∷ []) h k

pub feedless_more : (text : List ℕ) (byte : ℕ) → HasNoFeed text → byte ≢ 10 → HasNoFeed (text ++ byte ∷ [])
feedless_more [] byte h n = (n, tt)
feedless_more (x ∷ xs) byte h n = (h.0, feedless_more xs byte h.1 n)

pub feedless_append : (xs ys : List ℕ) → HasNoFeed xs → HasNoFeed ys → HasNoFeed (xs ++ ys)
feedless_append [] ys h k = k
feedless_append (x ∷ xs) ys h k = (h.0, feedless_append xs ys h.1 k)

-- ---- lines

all_read : (a b : Option (List ℕ)) (bytes : List ℕ) → Consumes a b bytes → IsAtEnd b → Consumes a (Some []) bytes
all_read None b bytes h e = tt
all_read (Some xs) None bytes h e = absurd h
all_read (Some xs) (Some ys) bytes h e = h ∙ ap (λ l. bytes ++ l) e

-- a line comes next, with its LF, or without one at the end
abbrev IsShort : Option (List ℕ) → Option (List ℕ) → List ℕ → Type 0
IsShort a b line = (n : IsNext a b line) × Unit {0} × (length n.text < 1048576)

pub line_read : (a b : Option (List ℕ)) (line text : List ℕ) → HasNoFeed text → line ≡ text ++ 10 ∷ []
    → Consumes a b line → length text < 1048576 → IsShort a b line
line_read a b line text one is read short = (record { text = text; one = one; read = read; whole = inl is }, tt, short)

pub last_read : (a b : Option (List ℕ)) (line : List ℕ) → HasNoFeed line → Consumes a b line → IsAtEnd b → length line
    < 1048576 → IsShort a (Some []) line
last_read a b line one read end short = (
  record {
    text = line;
    one = one;
    read = all_read a b line read end;
    whole =
        inr (refl, refl);
  },
  tt,
  short,
)

-- behind the end an empty one comes, without a read
pub at_end : (over : Bool) (a was is : Option (List ℕ)) (line : List ℕ) → over ≡ true → line ≡ [] → Keeps was is
    → (n : IsNext (left_of over a) (left_of over a) line) × Appends was is [] × (length n.text < 1048576)
at_end true a was is line e none h =
    subst (λ xs. (n : IsNext (Some []) (Some []) xs) × Appends was is [] × (length n.text < 1048576)) (sym none) (
      record { text = []; one = tt; read = Consumes-nil (Some []); whole = inr (refl, refl) },
      kept_written was is h,
      omega arith,
    )
at_end false a was is line e none h = absurd (true≢false (sym e))

-- where the end has not come, what is read is typed
pub typed_on : (over : Bool) (a b was is : Option (List ℕ)) (t : Typed) → over ≡ false → Keeps was is
    → IsTyped (λ _. []) a b None None t → IsTyped (λ _. []) (left_of over a) b was is t
typed_on true a b was is t e k h = absurd (true≢false e)
typed_on false a b was is (typed.Line line) e k h = (h.0, kept_written was is k, h.2)
typed_on false a b was is typed.TooLong e k h = (h.0, h.1, kept_written was is k)

module _ (a b c : Option (List ℕ)) (text : List ℕ) (one : HasNoFeed text) (long : 1048576 ≤ length text)
    (read : Consumes a b text) where
  longer : (more : List ℕ) → 1048576 ≤ length (text ++ more)
  longer more = subst (λ n. 1048576 ≤ n) (sym (length-append text more)) (omega arith)

  -- so many bytes of a line, and its rest
  pub long_line : (over : Bool) → IsSkipped b c over → (x : List ℕ) × IsLong a (left_of over c) x × Unit {0}
  long_line true h = (
    text ++ h.0,
    record {
      long = longer h.0;
      next = record {
        text = text ++ h.0;
        one = feedless_append text h.0 one h.1;
        read = all_read a c (text ++ h.0)
            (Consumes-trans a b c text h.0 read h.2) h.3;
        whole = inr (refl, refl);
      };
    },
    tt,
  )
  long_line false h =
      let rest = h.0 ++ 10 ∷ [] in (
        text ++ rest,
        record {
          long = longer h.0;
          next = record {
            text = text ++ h.0;
            one = feedless_append text h.0 one h.1;
            read =
                Consumes-trans a b c text rest read h.2;
            whole = inl (sym (append_assoc text h.0 (10 ∷ [])));
          };
        },
        tt,
      )

pub taken_more : (a b c : Option (List ℕ)) (text : List ℕ) → Consumes a b text → IsTaken b c → IsTaken a c
taken_more a b c text h k = (text ++ k.0, Consumes-trans a b c text k.0 h k.1)

-- ---- lines that are lost

pub on_err : {A F P : Type 0} (r : Result A F) → P → OnErr r P
on_err (Ok x) p = tt
on_err (Err e) p = p

pub lost_none : (a was is : Option (List ℕ)) → Keeps was is → IsLost (λ _. []) a a was is
lost_none a was is h = record {
  bytes = [];
  line = [];
  shown = [];
  rest = [];
  read = Consumes-nil a;
  written =
      kept_written was is h;
  part = refl;
}

pub lost_taken : (over : Bool) (a b was is : Option (List ℕ)) → over ≡ false → IsTaken a b → Keeps was is
    → IsLost (λ _. []) (left_of over a) (left_of over b) was is
lost_taken over a b was is e h k =
    subst (λ (o : Bool). IsLost (λ _. []) (left_of o a) (left_of o b) was is) (sym e)
    (record { bytes = h.0; line = []; shown = []; rest = []; read = h.1; written = kept_written was is k; part = refl })
