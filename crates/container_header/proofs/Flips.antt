-- A flip changes the active byte and the hash, in the fields and in the bytes alike.
use Rattle.std.proofs.Common.{◌≡◌, ℕ, ◌+◌, ◌-◌, ◌<◌, ◌≤◌, List, [], ◌∷◌, ◌++◌, length, get_or, take, drop, set, refl}
use Rattle.std.proofs.Common.{sym, ap, ◌∙◌, arith, append_assoc, length-append, add-one, lit<, lit≤}
use Rattle.std.proofs.lemmas.List.{places, take-append-le, take-take, set_split, drop-drop, take_at, drop_at}
use Rattle.std.proofs.lemmas.List.{length-take, length-take-le, length-drop}
use borrow.Rule.Slice.PartMut.{put_mid}
use Rattle.save_bytes.specs.Fields.{number_at, with_bytes}
use Rattle.container_header.specs.declared.header.Kind.{Kind}
use Rattle.container_header.specs.declared.header.Kind.TheVariants.{Disa, Diff}
use Rattle.container_header.specs.declared.header.Header.{Header}
use Rattle.container_header.specs.Conditions.{kind_named, fields_of}
use Rattle.container_header.specs.Fields.{header_bytes, header_byte}
use Rattle.container_header.specs.Raw.{header_image, IsOfRaw, active_place, hash_place, other_table, flipped}
use Rattle.save_bytes.proofs.FieldLemmas.{number_at-same}
use Rattle.container_header.proofs.HeaderBytes.{header_byte-raw, number_at-raw, header_bytes-raw, disa_from, diff_from}
use Rattle.container_header.proofs.HeaderRead.{raw_of-header_image}

-- one byte written, as a piece of one
set_byte : (raw : List ℕ) (at x : ℕ) → at < length raw → set raw at x ≡ with_bytes raw at (x ∷ [])
set_byte raw at x h = set_split raw at x h ∙ rw (append_assoc, add-one) refl

-- a part that was written whole
put_whole : (raw piece : List ℕ) (at : ℕ) → put_mid at (at + length piece - at) raw piece ≡ with_bytes raw at piece
put_whole raw piece at =
    let size : at + length piece - at ≡ length piece = omega arith in
    rw (size, drop-drop, append_assoc) refl

-- what the two writes leave
pub flip_bytes : (raw hash part : List ℕ) (at place x : ℕ) → at < length raw → length hash ≡ 32 → part ≡ hash
    → put_mid place (place + 32 - place) (set raw at x) part ≡ with_bytes (with_bytes raw at (x ∷ [])) place hash
flip_bytes raw hash part at place x inside size is =
    ap (λ (p : List ℕ). put_mid place (place + 32 - place) (set raw at x) p) is
    ∙ ap (λ (n : ℕ). put_mid place (place + n - place) (set raw at x) hash) (sym size)
    ∙ put_whole (set raw at x) hash place
    ∙ ap (λ (bytes : List ℕ). with_bytes bytes place hash) (set_byte raw at x inside)

pub places_fit : (kind : Kind) → (active_place kind < hash_place kind) × (hash_place kind + 32 ≤ 256)
places_fit Disa = (lit< tt, lit≤ tt)
places_fit Diff = (lit< tt, lit≤ tt)

length-with_bytes : (xs : List ℕ) (at : ℕ) (piece : List ℕ) → at + length piece ≤ length xs
    → length (with_bytes xs at piece) ≡ length xs
length-with_bytes xs at piece fits = simp (length-append, length-take, length-drop) (omega arith)

-- the bytes before a piece stay, and those behind it
with_bytes-below : (xs : List ℕ) (at : ℕ) (piece : List ℕ) (k : ℕ) → at + length piece ≤ length xs
    → k < at → get_or (with_bytes xs at piece) k 0 ≡ get_or xs k 0
with_bytes-below xs at piece k fits h = grind (arith, places)

with_bytes-above : (xs : List ℕ) (at : ℕ) (piece : List ℕ) (k : ℕ) → at + length piece ≤ length xs
    → at + length piece ≤ k → get_or (with_bytes xs at piece) k 0 ≡ get_or xs k 0
with_bytes-above xs at piece k fits h = grind (arith, places)

take-with_bytes : (xs : List ℕ) (at : ℕ) (piece : List ℕ) (n : ℕ) → at + length piece ≤ length xs → n ≤ at
    → take n (with_bytes xs at piece) ≡ take n xs
take-with_bytes xs at piece n fits h =
    let long : length (take at xs) ≡ at = length-take-le at xs (omega arith) in
    let rest = drop (at + length piece) xs in
    ap (λ (ys : List ℕ). take n ys) (append_assoc (take at xs) piece rest)
    ∙ take-append-le n (take at xs) (piece ++ rest) (omega arith)
    ∙ take-take n at xs h

-- a piece stands where it was put
with_bytes-piece : (xs : List ℕ) (at : ℕ) (piece : List ℕ) → at + length piece ≤ length xs
    → take (length piece) (drop at (with_bytes xs at piece)) ≡ piece
with_bytes-piece xs at piece fits =
    let long : length (take at xs) ≡ at = length-take-le at xs (omega arith) in
    let rest = drop (at + length piece) xs in
    ap (λ (ys : List ℕ). take (length piece) (drop at ys)) (append_assoc (take at xs) piece rest)
    ∙ ap (λ (ys : List ℕ). take (length piece) ys) (drop_at (take at xs) (piece ++ rest) at long)
    ∙ take_at piece rest (length piece) refl

-- the bytes with one of them and the hash put
abbrev with_both : List ℕ → ℕ → ℕ → ℕ → List ℕ → List ℕ
with_both raw at x place hash = with_bytes (with_bytes raw at (x ∷ [])) place hash

module _ (raw hash : List ℕ) (at place x : ℕ) (long : length raw ≡ 256) (size : length hash ≡ 32) (apart : at < place)
    (fits : place + 32 ≤ 256) where
  one_long : length (with_bytes raw at (x ∷ [])) ≡ 256
  one_long = length-with_bytes raw at (x ∷ []) (omega arith) ∙ long

  both_long : length (with_both raw at x place hash) ≡ 256
  both_long = length-with_bytes (with_bytes raw at (x ∷ [])) place hash (omega (arith, one_long)) ∙ one_long

  both-below : (k : ℕ) → k < at → get_or (with_both raw at x place hash) k 0 ≡ get_or raw k 0
  both-below k h =
      with_bytes-below (with_bytes raw at (x ∷ [])) place hash k (omega (arith, one_long)) (omega arith)
      ∙ with_bytes-below raw at (x ∷ []) k (omega arith) h

  both-above : (k : ℕ) → place + 32 ≤ k → get_or (with_both raw at x place hash) k 0 ≡ get_or raw k 0
  both-above k h =
      with_bytes-above (with_bytes raw at (x ∷ [])) place hash k (omega (arith, one_long)) (omega arith)
      ∙ with_bytes-above raw at (x ∷ []) k (omega arith) (omega arith)

  both-active : get_or (with_both raw at x place hash) at 0 ≡ x
  both-active = with_bytes-below (with_bytes raw at (x ∷ [])) place hash at (omega (arith, one_long)) apart
      ∙ grind (arith, places)

  both-hash : take 32 (drop place (with_both raw at x place hash)) ≡ hash
  both-hash =
      ap (λ (n : ℕ). take n (drop place (with_both raw at x place hash))) (sym size)
      ∙ with_bytes-piece (with_bytes raw at (x ∷ [])) place hash (omega (arith, one_long))

-- the fields of a header's bytes
module _ (raw : List ℕ) (long : length raw ≡ 256) where
  number_of : (n off : ℕ) → off + n ≤ 256 → number_at n (header_image raw) (256 + off) ≡ number_at n raw off
  number_of n off fits = number_at-raw (header_image raw) n off fits
      ∙ ap (λ (bytes : List ℕ). number_at n bytes off) (raw_of-header_image raw long)

  byte_of : (off : ℕ) → off < 256 → header_byte (header_image raw) off ≡ get_or raw off 0
  byte_of off fits = header_byte-raw (header_image raw) off fits
      ∙ ap (λ (bytes : List ℕ). get_or bytes off 0) (raw_of-header_image raw long)

  bytes_of : (off n : ℕ) → off + n ≤ 256 → header_bytes (header_image raw) off n ≡ take n (drop off raw)
  bytes_of off n fits = header_bytes-raw (header_image raw) off n fits
      ∙ ap (λ (bytes : List ℕ). take n (drop off bytes)) (raw_of-header_image raw long)

-- a number all of whose bytes are as they were
number_kept : (raw new : List ℕ) → length raw ≡ 256 → length new ≡ 256 → (n off : ℕ) → off + n ≤ 256
    → ((k : ℕ) → k < n → get_or new (off + k) 0 ≡ get_or raw (off + k) 0)
    → number_at n (header_image new) (256 + off) ≡ number_at n (header_image raw) (256 + off)
number_kept raw new long new_long n off fits keeps = number_of new new_long n off fits
    ∙ number_at-same n new raw off off keeps ∙ sym (number_of raw long n off fits)

-- the fields after the change: the numbers before the active byte and behind the hash stay
module _ (raw hash : List ℕ) (at place x : ℕ) (long : length raw ≡ 256) (size : length hash ≡ 32) (apart : at < place)
    (fits : place + 32 ≤ 256) where
  new_long : length (with_both raw at x place hash) ≡ 256
  new_long = both_long raw hash at place x long size apart fits

  before : (n off : ℕ) → off + n ≤ at → number_at n (header_image (with_both raw at x place hash)) (256 + off)
      ≡ number_at n (header_image raw) (256 + off)
  before n off h = number_kept raw (with_both raw at x place hash) long new_long n off (omega arith)
      (λ k l. both-below raw hash at place x long size apart fits (off + k) (omega arith))

  behind : (n off : ℕ) → place + 32 ≤ off → off + n ≤ 256
      → number_at n (header_image (with_both raw at x place hash)) (256 + off)
      ≡ number_at n (header_image raw) (256 + off)
  behind n off h in_raw = number_kept raw (with_both raw at x place hash) long new_long n off in_raw
      (λ k l. both-above raw hash at place x long size apart fits (off + k) (omega arith))

  new_active : header_byte (header_image (with_both raw at x place hash)) at ≡ x
  new_active = byte_of (with_both raw at x place hash) new_long at (omega arith)
      ∙ both-active raw hash at place x long size apart fits

  new_hash : header_bytes (header_image (with_both raw at x place hash)) place 32 ≡ hash
  new_hash = bytes_of (with_both raw at x place hash) new_long place 32 fits
      ∙ both-hash raw hash at place x long size apart fits

  new_front : (n : ℕ) → n ≤ at → header_bytes (header_image (with_both raw at x place hash)) 0 n
      ≡ header_bytes (header_image raw) 0 n
  new_front n h =
      bytes_of (with_both raw at x place hash) new_long 0 n (omega arith)
      ∙ take-with_bytes (with_bytes raw at (x ∷ [])) place hash n
      (omega (arith, one_long raw hash at place x long size apart fits)) (omega arith)
      ∙ take-with_bytes raw at (x ∷ []) n (omega arith) h
      ∙ sym (bytes_of raw long 0 n (omega arith))

-- the fields after a flip, of either kind
flip_fields : (kind : Kind) (raw hash : List ℕ) (x : ℕ) → length raw ≡ 256 → length hash ≡ 32
    → let new : List ℕ = with_both raw (active_place kind) x (hash_place kind) hash in fields_of kind
    (header_image new) ≡ record (fields_of kind (header_image raw)) { active = x; hash = hash; raw = new }
flip_fields Disa raw hash x long size =
    let new = with_both raw 0x68 x 0x6C hash in
    disa_from (header_image raw) (header_image new) x hash new
    (before raw hash 0x68 0x6C x long size (lit< tt) (lit≤ tt))
    (new_active raw hash 0x68 0x6C x long size (lit< tt) (lit≤ tt))
    (new_hash raw hash 0x68 0x6C x long size (lit< tt) (lit≤ tt))
    (raw_of-header_image new (new_long raw hash 0x68 0x6C x long size (lit< tt) (lit≤ tt)))
flip_fields Diff raw hash x long size =
    let new = with_both raw 0x30 x 0x34 hash in
    diff_from (header_image raw) (header_image new) x hash new
    (before raw hash 0x30 0x34 x long size (lit< tt) (lit≤ tt))
    (behind raw hash 0x30 0x34 x long size (lit< tt) (lit≤ tt) 8 0x54 (lit≤ tt) (lit≤ tt))
    (new_active raw hash 0x30 0x34 x long size (lit< tt) (lit≤ tt))
    (new_hash raw hash 0x30 0x34 x long size (lit< tt) (lit≤ tt))
    (raw_of-header_image new (new_long raw hash 0x30 0x34 x long size (lit< tt) (lit≤ tt)))

front_fits : (kind : Kind) → 8 ≤ active_place kind
front_fits Disa = lit≤ tt
front_fits Diff = lit≤ tt

-- a flipped header's fields are those of its bytes
pub flipped-of_raw : (header : Header) (hash : List ℕ) → length hash ≡ 32 → IsOfRaw header
    → IsOfRaw (flipped header hash)
flipped-of_raw header hash size h =
    let kind = header.kind in
    let raw = header.raw in
    let x = other_table header.active in
    let fit = places_fit kind in
    let front = front_fits kind in
    let at = active_place kind in
    let place = hash_place kind in
    record {
      size_is = new_long raw hash at place x h.size_is size fit.0 fit.1;
      kind_is = ap kind_named (new_front raw hash at place x h.size_is size fit.0 fit.1 4 (omega arith)) ∙ h.kind_is;
      version_is = before raw hash at place x h.size_is size fit.0 fit.1 4 0x04 front ∙ h.version_is;
      fields_are = flip_fields kind raw hash x h.size_is size
          ∙ ap (λ (found : Header). record found { active = x; hash = hash; raw = with_both raw at x place hash })
          h.fields_are;
    }
