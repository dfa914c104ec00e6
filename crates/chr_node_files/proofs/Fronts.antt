-- The whole records in front of bytes, by themselves.
use Rattle.std.specs.Prelude.{◌≡◌, ℕ, List, [], ◌++◌, take}
use Rattle.std.proofs.Common.{sym, ap, ◌∙◌}
use Rattle.std.proofs.lemmas.List.{append-nil}
use Rattle.std.proofs.Math.Seq.{take-append_seam}
use Rattle.chr_records.specs.Records.{bytes_of, records_of, size_of, IsWhole}
use Rattle.chr_records.proofs.Scans.{all_split, read_back}

pub front_is_whole : (bytes : List ℕ) → IsWhole (take (size_of bytes) bytes)
front_is_whole bytes =
    let parts = all_split bytes in
    let texts = records_of bytes in
    let front : take (size_of bytes) bytes ≡ bytes_of texts =
    ap (λ (l : List ℕ). take (size_of bytes) l) parts.split ∙ take-append_seam (bytes_of texts) parts.end in
    let read : records_of (bytes_of texts) ≡ texts =
    ap records_of (sym (append-nil (bytes_of texts))) ∙ read_back texts [] parts.texts ∙ append-nil texts in
    front ∙ ap bytes_of (sym (ap records_of front ∙ read))
