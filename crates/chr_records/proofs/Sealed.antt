-- Messages in their texts, and logs that begin with records of messages.
use Rattle.std.proofs.Common.{◌≡◌, ◌≢◌, ℕ, ◌+◌, ◌/◌, ◌%◌, ◌≤◌, List, [], ◌∷◌, ◌++◌, length, map, get_or, sym, ◌∙◌, ap}
use Rattle.std.proofs.Common.{subst, arith, append_assoc, length-append}
use Rattle.std.proofs.lemmas.List.{map-append}
use Rattle.std.proofs.lemmas.Bool.Decides.{nat_tests}
use Rattle.chr_records.specs.Records.{line_feed, blank, record_bytes, bytes_of, records_of, IsText, IsWhole}
use Rattle.chr_records.specs.Checksums.{hex_digit, digit_of, crc_of, checksum_of, text_of}
use Rattle.chr_records.specs.Damages.{BeginsWithMessage, BeginsWithNone, HasMessages}
use Rattle.chr_records.proofs.Scans.{read_record, bytes_of-push, whole_more, AreTexts-append}

digit : (n : ℕ) → (hex_digit n ≢ line_feed) × (hex_digit n ≢ blank)
digit n = (grind (arith, nat_tests), grind (arith, nat_tests))

with_digits : (crc : ℕ) (places text : List ℕ) → IsText text → IsText (map (digit_of crc) places ++ text)
with_digits crc [] text is = is
with_digits crc (p ∷ places) text is =
    let d = digit (crc / p % 16) in (d.0, d.1, with_digits crc places text is)

pub sealed : (message : List ℕ) → IsText message → IsText (text_of message)
sealed m is =
    with_digits (crc_of m) (268435456 ∷ 16777216 ∷ 1048576 ∷ 65536 ∷ 4096 ∷ 256 ∷ 16 ∷ 1 ∷ []) (32 ∷ m) (
      (λ wrong. absurd (omega (arith, wrong))),
      (λ wrong. absurd (omega (arith, wrong))),
      is,
    )

behind : (front text : List ℕ) → IsText (front ++ text) → IsText text
behind [] text is = is
behind (b ∷ front) text is = behind front text is.2

pub none_whole : (bytes : List ℕ) → records_of bytes ≡ [] → BeginsWithNone bytes
none_whole bytes none_there m rest begins =
    let read = ap records_of begins.split ∙ read_record (text_of m) rest (sealed m begins.text) in
    omega (arith, ap length (sym none_there ∙ read))

pub other_text : (bytes text rest : List ℕ) → records_of bytes ≡ text ∷ records_of rest
    → ((m : List ℕ) → text ≢ text_of m) → BeginsWithNone bytes
other_text bytes text rest first other m more begins =
    let read = ap records_of begins.split ∙ read_record (text_of m) more (sealed m begins.text) in
    other m (ap (λ (l : List (List ℕ)). get_or l 0 []) (sym first ∙ read))

pub begins_with : (bytes text message rest : List ℕ) → bytes ≡ record_bytes text ++ rest → IsText text
    → text ≡ text_of message → BeginsWithMessage bytes message rest
begins_with bytes text message rest split is same = record {
  split = split ∙ ap (λ (t : List ℕ). record_bytes t ++ rest) same;
  text = behind (checksum_of message) message (subst IsText same is);
}

-- one message more stands in front
pub one_more : (bytes rest message behind : List ℕ) (messages : List (List ℕ)) → HasMessages bytes messages rest
    → BeginsWithMessage rest message behind → HasMessages bytes (messages ++ message ∷ []) behind
one_more bytes rest message behind messages front first =
    let old = map text_of messages in
    let new = map-append text_of messages (message ∷ []) in
    record {
      split =
          front.split
          ∙ ap (λ (l : List ℕ). bytes_of old ++ l) first.split
          ∙ sym (bytes_of-push old (text_of message) behind)
          ∙ ap (λ (l : List (List ℕ)). bytes_of l ++ behind) (sym new);
      texts = AreTexts-append messages (message ∷ []) front.texts (first.text, tt);
    }

pub shorter : (rest message behind : List ℕ) → BeginsWithMessage rest message behind → 1 + length behind ≤ length rest
shorter rest message behind first =
    omega (arith, ap length first.split, length-append (record_bytes (text_of message)) behind)

-- whole records, and the record of a message behind them
pub message_more : (old message gate checked more new : List ℕ) → gate ≡ old ++ 61 ∷ []
    → checked ≡ gate ++ checksum_of message → more ≡ checked ++ message → new ≡ more ++ 10 ∷ []
    → IsWhole old → IsText message
    → IsWhole new × (records_of new ≡ records_of old ++ text_of message ∷ [])
message_more old message gate checked more new a b c d whole is =
    let word = checksum_of message in
    let joined : new ≡ old ++ record_bytes (text_of message) =
    d
    ∙ ap (λ (l : List ℕ). l ++ 10 ∷ []) (c ∙ ap (λ (l : List ℕ). l ++ message) (b ∙ ap (λ (l : List ℕ). l ++ word) a))
    ∙ ap (λ (l : List ℕ). (l ++ message) ++ 10 ∷ []) (append_assoc old (61 ∷ []) word)
    ∙ ap (λ (l : List ℕ). l ++ 10 ∷ []) (append_assoc old (61 ∷ word) message)
    ∙ append_assoc old (61 ∷ (word ++ message)) (10 ∷ []) in
    whole_more old (text_of message) new joined whole (sealed message is)
