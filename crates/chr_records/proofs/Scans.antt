-- Reading records, byte by byte.
use Rattle.std.proofs.Common.{◌≡◌, ◌≢◌, inl, inr, ℕ, ◌+◌, ◌<◌, List, [], ◌∷◌, ◌++◌, length, get_or, take, drop, refl}
use Rattle.std.proofs.Common.{sym, ◌∙◌, ap, subst, arith, append_assoc, length-append, Option, Some, None}
use Rattle.std.proofs.lemmas.List.{append-nil, drop_at, take_more, drop_more}
use Rattle.std.proofs.lemmas.List.Sums.{sum_by-cons}
use Rattle.std.proofs.lemmas.Bool.{cases_eq}
use Rattle.std.specs.Prelude.{◌==◌, if◌then◌else◌}
use Rattle.std.proofs.lemmas.Bool.Decides.{nat_tests}
use Rattle.chr_records.specs.Records.{gate, line_feed, blank, record_bytes, bytes_of, read_from, records_of, size_of}
use Rattle.chr_records.specs.Records.{IsText, IsWhole, AreTexts, IsFront, IsFaded}
use Rattle.chr_records.specs.Laws.{AreSplit}
use Rattle.chr_records.specs.Damages.{line_count}

abbrev none : Option (List ℕ)
none = None

-- one step of each kind
pub opens : (bytes : List ℕ) → read_from None (61 ∷ bytes) ≡ read_from (Some []) bytes
opens bytes = refl

pub shut : (b : ℕ) (bytes : List ℕ) → b ≢ gate → read_from None (b ∷ bytes) ≡ []
shut b bytes other = grind (arith, nat_tests)

pub ends : (text bytes : List ℕ) (b : ℕ) → b ≡ line_feed
    → read_from (Some text) (b ∷ bytes) ≡ text ∷ read_from None bytes
ends text bytes b is = grind (arith, nat_tests)

pub fades : (text bytes : List ℕ) (b : ℕ) → b ≡ blank → read_from (Some text) (b ∷ bytes) ≡ []
fades text bytes b is = grind (arith, nat_tests)

pub grows : (text bytes : List ℕ) (b : ℕ) → b ≢ line_feed → b ≢ blank
    → read_from (Some text) (b ∷ bytes) ≡ read_from (Some (text ++ b ∷ [])) bytes
grows text bytes b a c = grind (arith, nat_tests)

-- a text that is there as a whole
pub read_text : (front text rest : List ℕ) → IsText text
    → read_from (Some front) (text ++ line_feed ∷ rest) ≡ (front ++ text) ∷ read_from None rest
read_text front [] rest is = ends front rest 10 refl
    ∙ ap (λ (t : List ℕ). t ∷ read_from None rest) (sym (append-nil front))
read_text front (b ∷ text) rest is =
    grows front (text ++ line_feed ∷ rest) b is.0 is.1
    ∙ read_text (front ++ b ∷ []) text rest is.2
    ∙ ap (λ (t : List ℕ). t ∷ read_from None rest) (append_assoc front (b ∷ []) text)

record_split : (text rest : List ℕ) → record_bytes text ++ rest ≡ gate ∷ text ++ line_feed ∷ rest
record_split text rest = ap (λ (l : List ℕ). gate ∷ l) (append_assoc text (line_feed ∷ []) rest)

pub read_record : (text rest : List ℕ) → IsText text → records_of (record_bytes text ++ rest) ≡ text ∷ records_of rest
read_record text rest is = ap records_of (record_split text rest) ∙ read_text [] text rest is

pub read_back : (texts : List (List ℕ)) (rest : List ℕ) → AreTexts texts
    → records_of (bytes_of texts ++ rest) ≡ texts ++ records_of rest
read_back [] rest are = refl
read_back (text ∷ texts) rest are =
    ap records_of (append_assoc (record_bytes text) (bytes_of texts) rest)
    ∙ read_record text (bytes_of texts ++ rest) are.0
    ∙ ap (λ (l : List (List ℕ)). text ∷ l) (read_back texts rest are.1)

pub ended : (texts : List (List ℕ)) (b : ℕ) (rest : List ℕ) → AreTexts texts → b ≢ gate
    → records_of (bytes_of texts ++ b ∷ rest) ≡ texts
ended texts b rest are other =
    read_back texts (b ∷ rest) are ∙ ap (λ (l : List (List ℕ)). texts ++ l) (shut b rest other) ∙ append-nil texts

pub IsFront-refl : {A : Type 0} (xs : List A) → IsFront xs xs
IsFront-refl xs = ([], sym (append-nil xs))

cons_front : {A : Type 0} (x : A) (xs ys : List A) → IsFront xs ys → IsFront (x ∷ xs) (x ∷ ys)
cons_front {A} x xs ys front = (front.0, ap (λ (l : List A). x ∷ l) front.1)

-- a front that stands for a front, in whatever state
pub front_from : (s : Option (List ℕ)) (front rest : List ℕ) → IsFront (read_from s front) (read_from s (front ++ rest))
front_from s [] rest = (read_from s rest, refl)
front_from None (b ∷ front) rest = elim (cases_eq b gate) [
  | inl is ↦ subst (λ (x : ℕ). IsFront (read_from None (x ∷ front)) (read_from None (x ∷ front ++ rest))) (sym is)
      (front_from (Some []) front rest)
  | inr other ↦ (
    read_from None (b ∷ front ++ rest),
    sym
        (ap (λ (l : List (List ℕ)). l ++ read_from None (b ∷ front ++ rest)) (shut b front other)),
  )
]
front_from (Some text) (b ∷ front) rest = elim (cases_eq b line_feed) [
  | inl is ↦ subst (λ (x : ℕ). IsFront (read_from (Some text) (x ∷ front))
      (read_from (Some text) (x ∷ front ++ rest))) (sym is) (cons_front text _ _ (front_from None front rest))
  | inr other ↦ elim (cases_eq b blank) [
    | inl is ↦ (
      read_from (Some text) (b ∷ front ++ rest),
      sym
          (ap (λ (l : List (List ℕ)). l ++ read_from (Some text) (b ∷ front ++ rest)) (fades text front b is)),
    )
    | inr not ↦
        let small = grows text front b other not in
        let large = grows text (front ++ rest) b other not in
        let inner = front_from (Some (text ++ b ∷ [])) front rest in
        (inner.0, large ∙ inner.1 ∙ ap (λ (l : List (List ℕ)). l ++ inner.0) (sym small))
  ]
]

-- bytes of which some are missing or blank
pub faded_from : (s : Option (List ℕ)) (bytes whole : List ℕ) → IsFaded bytes whole
    → IsFront (read_from s bytes) (read_from s whole)
faded_from s [] whole faded = (read_from s whole, refl)
faded_from None (b ∷ bytes) [] faded = (
  [],
  sym
      (append-nil (read_from None (b ∷ bytes)) ∙ shut b bytes (λ is. absurd (omega arith))),
)
faded_from (Some text) (b ∷ bytes) [] faded =
    ([], sym (append-nil (read_from (Some text) (b ∷ bytes)) ∙ fades text bytes b faded))
faded_from None (b ∷ bytes) (w ∷ whole) (inl is) = (
  read_from None (w ∷ whole),
  sym (ap (λ (l : List (List ℕ)). l ++ read_from None (w ∷ whole))
      (shut b bytes (λ open_gate. absurd (omega arith)))),
)
faded_from None (b ∷ bytes) (w ∷ whole) (inr same) = elim (cases_eq b gate) [
  | inl is ↦
      let there : w ≡ gate = sym same.0 ∙ is in
      let inner = faded_from (Some []) bytes whole same.1 in
      let small : read_from None (b ∷ bytes)
      ≡ read_from (Some []) bytes = ap (λ (x : ℕ). read_from None (x ∷ bytes)) is in
      let large : read_from None (w ∷ whole)
      ≡ read_from (Some []) whole = ap (λ (x : ℕ). read_from None (x ∷ whole)) there in
      (inner.0, large ∙ inner.1 ∙ ap (λ (l : List (List ℕ)). l ++ inner.0) (sym small))
  | inr other ↦ (
    read_from None (w ∷ whole),
    sym
        (ap (λ (l : List (List ℕ)). l ++ read_from None (w ∷ whole)) (shut b bytes other)),
  )
]
faded_from (Some text) (b ∷ bytes) (w ∷ whole) (inl is) = (
  read_from (Some text) (w ∷ whole),
  sym
      (ap (λ (l : List (List ℕ)). l ++ read_from (Some text) (w ∷ whole)) (fades text bytes b is)),
)
faded_from (Some text) (b ∷ bytes) (w ∷ whole) (inr same) = elim (cases_eq b line_feed) [
  | inl is ↦
      let there : w ≡ line_feed = sym same.0 ∙ is in
      let inner = faded_from None bytes whole same.1 in
      let small = ends text bytes b is in
      let large = ends text whole w there in (
        inner.0,
        large ∙ ap (λ (l : List (List ℕ)). text ∷ l) inner.1
            ∙ ap (λ (l : List (List ℕ)). l ++ inner.0) (sym small),
      )
  | inr other ↦ elim (cases_eq b blank) [
    | inl is ↦ (
      read_from (Some text) (w ∷ whole),
      sym
          (ap (λ (l : List (List ℕ)). l ++ read_from (Some text) (w ∷ whole)) (fades text bytes b is)),
    )
    | inr not ↦
        let small = grows text bytes b other not in
        let large = grows text whole w (λ is. other (same.0 ∙ is)) (λ is. not (same.0 ∙ is)) in
        let into : read_from (Some (text ++ w ∷ [])) whole ≡ read_from (Some (text ++ b ∷ [])) whole =
        ap (λ (x : ℕ). read_from (Some (text ++ x ∷ [])) whole) (sym same.0) in
        let inner = faded_from (Some (text ++ b ∷ [])) bytes whole same.1 in
        (inner.0, large ∙ into ∙ inner.1 ∙ ap (λ (l : List (List ℕ)). l ++ inner.0) (sym small))
  ]
]

-- the bytes of a text are walked through
walked : (front text bytes : List ℕ) → IsText text
    → read_from (Some front) (text ++ bytes) ≡ read_from (Some (front ++ text)) bytes
walked front [] bytes is = ap (λ (t : List ℕ). read_from (Some t) bytes) (sym (append-nil front))
walked front (b ∷ text) bytes is =
    grows front (text ++ bytes) b is.0 is.1
    ∙ walked (front ++ b ∷ []) text bytes is.2
    ∙ ap (λ (t : List ℕ). read_from (Some t) bytes) (append_assoc front (b ∷ []) text)

pub text-push : (text : List ℕ) (b : ℕ) → IsText text → b ≢ line_feed → b ≢ blank → IsText (text ++ b ∷ [])
text-push [] b is other not = (other, not, tt)
text-push (x ∷ text) b is other not = (is.0, is.1, text-push text b is.2 other not)

-- the bytes that were read before those that are still to be read
abbrev before : Option (List ℕ) → List ℕ
before None = []
before (Some text) = gate ∷ text

abbrev IsSound : Option (List ℕ) → Type 0
IsSound None = Unit {0}
IsSound (Some text) = IsText text

record Parts (s : Option (List ℕ)) (bytes : List ℕ) : Type 0 where
  end : List ℕ
  split : before s ++ bytes ≡ bytes_of (read_from s bytes) ++ end
  texts : AreTexts (read_from s bytes)
  nothing : records_of end ≡ []

-- none of the records is whole
stuck : (s : Option (List ℕ)) (bytes : List ℕ) → IsSound s → read_from s bytes ≡ [] → Parts s bytes
stuck None bytes sound none_whole = record {
  end = bytes;
  split = ap (λ (l : List (List ℕ)). bytes_of l ++ bytes) (sym none_whole);
  texts = subst AreTexts (sym none_whole) tt;
  nothing = none_whole;
}
stuck (Some text) bytes sound none_whole = record {
  end = gate ∷ (text ++ bytes);
  split = ap (λ (l : List (List ℕ)). bytes_of l ++ (gate ∷ (text ++ bytes))) (sym none_whole);
  texts = subst AreTexts (sym none_whole) tt;
  nothing = walked [] text bytes sound ∙ none_whole;
}

parts : (s : Option (List ℕ)) (bytes : List ℕ) → IsSound s → Parts s bytes
parts s [] sound = stuck s [] sound refl
parts None (b ∷ bytes) sound = elim (cases_eq b gate) [
  | inr other ↦ stuck None (b ∷ bytes) tt (shut b bytes other)
  | inl is ↦
      let inner = parts (Some []) bytes tt in
      let read : read_from None (b ∷ bytes)
      ≡ read_from (Some []) bytes = ap (λ (x : ℕ). read_from None (x ∷ bytes)) is in
      record {
        end = inner.end;
        split = ap (λ (x : ℕ). x ∷ bytes) is ∙ inner.split
            ∙ ap (λ (l : List (List ℕ)). bytes_of l ++ inner.end) (sym read);
        texts = subst AreTexts (sym read) inner.texts;
        nothing = inner.nothing;
      }
]
parts (Some text) (b ∷ bytes) sound = elim (cases_eq b line_feed) [
  | inl is ↦
      let inner = parts None bytes tt in
      let read = ends text bytes b is in
      record {
        end = inner.end;
        split =
            ap (λ (x : ℕ). gate ∷ text ++ x ∷ bytes) is
            ∙ sym (record_split text bytes)
            ∙ ap (λ (l : List ℕ). record_bytes text ++ l) inner.split
            ∙ sym (append_assoc (record_bytes text) (bytes_of (read_from None bytes)) inner.end)
            ∙ ap (λ (l : List (List ℕ)). bytes_of l ++ inner.end) (sym read);
        texts = subst AreTexts (sym read) (sound, inner.texts);
        nothing = inner.nothing;
      }
  | inr other ↦ elim (cases_eq b blank) [
    | inl is ↦ stuck (Some text) (b ∷ bytes) sound (fades text bytes b is)
    | inr not ↦
        let inner = parts (Some (text ++ b ∷ [])) bytes (text-push text b sound other not) in
        let read = grows text bytes b other not in
        record {
          end = inner.end;
          split =
              ap (λ (l : List ℕ). gate ∷ l) (sym (append_assoc text (b ∷ []) bytes))
              ∙ inner.split
              ∙ ap (λ (l : List (List ℕ)). bytes_of l ++ inner.end) (sym read);
          texts = subst AreTexts (sym read) inner.texts;
          nothing = inner.nothing;
        }
  ]
]

pub all_split : (bytes : List ℕ) → AreSplit bytes
all_split bytes =
    let all = parts None bytes tt in
    record { end = all.end; split = all.split; texts = all.texts; nothing = all.nothing }

pub goes_on : (front rest : List ℕ) → records_of (front ++ rest) ≡ records_of front ++ records_of
    (drop (size_of front) (front ++ rest))
goes_on front rest =
    let all = all_split front in
    let texts = records_of front in
    let whole : front ++ rest ≡ bytes_of texts ++ (all.end ++ rest) = ap (λ (l : List ℕ). l ++ rest) all.split
    ∙ append_assoc (bytes_of texts) all.end rest in
    let behind : drop (size_of front) (front ++ rest) ≡ all.end ++ rest =
    ap (λ (l : List ℕ). drop (size_of front) l) whole
    ∙ drop_at (bytes_of texts) (all.end ++ rest) (size_of front) refl in
    ap records_of whole ∙ read_back texts (all.end ++ rest) all.texts
    ∙ ap (λ (l : List ℕ). texts ++ records_of l) (sym behind)

-- one byte more of a text
pub read_more : (bytes : List ℕ) (i : ℕ) → i < length bytes → get_or bytes i 0 ≢ line_feed → get_or bytes i 0 ≢ blank
    → IsText (take i bytes)
    → read_from (Some []) bytes ≡ read_from (Some (take i bytes)) (drop i bytes)
    → IsText (take (i + 1) bytes) × (read_from (Some []) bytes ≡ read_from (Some (take (i + 1) bytes))
    (drop (i + 1) bytes))
read_more bytes i low other not is read =
    let more = take_more bytes i 0 low in
    let b = get_or bytes i 0 in (
      subst IsText (sym more) (text-push (take i bytes) b is other not),
      read
          ∙ ap (λ (l : List ℕ). read_from (Some (take i bytes)) l) (drop_more bytes i 0 low)
          ∙ grows (take i bytes) (drop (i + 1) bytes) b other not
          ∙ ap (λ (l : List ℕ). read_from (Some l) (drop (i + 1) bytes)) (sym more),
    )

pub bytes_of-push : (texts : List (List ℕ)) (text : List ℕ) (rest : List ℕ)
    → bytes_of (texts ++ text ∷ []) ++ rest ≡ bytes_of texts ++ (record_bytes text ++ rest)
bytes_of-push [] text rest = ap (λ (l : List ℕ). l ++ rest) (append-nil (record_bytes text))
bytes_of-push (t ∷ texts) text rest =
    append_assoc (record_bytes t) (bytes_of (texts ++ text ∷ [])) rest
    ∙ ap (λ (l : List ℕ). record_bytes t ++ l) (bytes_of-push texts text rest)
    ∙ sym (append_assoc (record_bytes t) (bytes_of texts) (record_bytes text ++ rest))

pub bytes_of-append : (texts more : List (List ℕ)) → bytes_of (texts ++ more) ≡ bytes_of texts ++ bytes_of more
bytes_of-append [] more = refl
bytes_of-append (t ∷ texts) more =
    ap (λ (l : List ℕ). record_bytes t ++ l) (bytes_of-append texts more)
    ∙ sym (append_assoc (record_bytes t) (bytes_of texts) (bytes_of more))

-- whole records, and one more
pub whole_more : (bytes text new : List ℕ) → new ≡ bytes ++ record_bytes text → IsWhole bytes → IsText text
    → IsWhole new × (records_of new ≡ records_of bytes ++ text ∷ [])
whole_more bytes text new is whole one =
    let texts = records_of bytes in
    let back : new ≡ bytes_of texts ++ (record_bytes text ++ []) = is
    ∙ ap (λ (l : List ℕ). l ++ record_bytes text) whole
    ∙ ap (λ (l : List ℕ). bytes_of texts ++ l) (sym (append-nil (record_bytes text))) in
    let read : records_of new ≡ texts ++ text ∷ [] =
    ap records_of back ∙ read_back texts (record_bytes text ++ []) (all_split bytes).texts
    ∙ ap (λ (l : List (List ℕ)). texts ++ l) (read_record text [] one) in
    (back ∙ sym (bytes_of-append texts (text ∷ [])) ∙ ap bytes_of (sym read), read)

-- whoever goes on from the end of a front's records reads the rest of them
pub read_on : (bytes front rest : List ℕ) (size : ℕ) → bytes ≡ front ++ rest → size ≡ size_of front
    → (records_of bytes ≡ records_of front ++ records_of (drop size bytes)) ×
    (size_of bytes ≡ size + size_of (drop size bytes))
read_on bytes front rest size is whole =
    let texts = records_of front in
    let read : records_of bytes ≡ texts ++ records_of (drop size bytes) =
    ap records_of is ∙ goes_on front rest ∙ ap (λ (l : List ℕ). texts ++ records_of (drop (size_of front) l)) (sym is)
    ∙ ap (λ (n : ℕ). texts ++ records_of (drop n bytes)) (sym whole) in (
      read,
      ap (λ (l : List (List ℕ)). length (bytes_of l)) read
          ∙ ap length (bytes_of-append texts (records_of (drop size bytes)))
          ∙ length-append (bytes_of texts) (bytes_of (records_of (drop size bytes)))
          ∙ ap (λ (n : ℕ). n + size_of (drop size bytes)) (sym whole),
    )

pub AreTexts-append : (texts more : List (List ℕ)) → AreTexts texts → AreTexts more → AreTexts (texts ++ more)
AreTexts-append [] more a b = b
AreTexts-append (t ∷ texts) more a b = (a.0, AreTexts-append texts more a.1 b)

-- one byte more
counted : (b : ℕ) (bytes : List ℕ) → line_count (b ∷ bytes) ≡ (if b == line_feed then 1 else 0) + line_count bytes
counted b bytes = sum_by-cons _ b bytes

passed : (b : ℕ) (bytes : List ℕ) → b ≢ line_feed → line_count (b ∷ bytes) ≡ line_count bytes
passed b bytes other = let more = counted b bytes in grind (arith, nat_tests)

text_line : (text rest : List ℕ) → IsText text → line_count (text ++ line_feed ∷ rest) ≡ 1 + line_count rest
text_line [] rest is = counted line_feed rest
text_line (b ∷ text) rest is = passed b (text ++ line_feed ∷ rest) is.0 ∙ text_line text rest is.2

pub lines_are : (texts : List (List ℕ)) (rest : List ℕ) → AreTexts texts
    → line_count (bytes_of texts ++ rest) ≡ length texts + line_count rest
lines_are [] rest are = omega arith
lines_are (text ∷ texts) rest are =
    ap line_count (append_assoc (record_bytes text) (bytes_of texts) rest ∙ record_split text (bytes_of texts ++ rest))
    ∙ text_line text (bytes_of texts ++ rest) are.0
    ∙ omega (arith, lines_are texts rest are.1)
