-- The fields of an image are those of the header's 256 bytes in it.
use Rattle.std.proofs.Common.{◌≡◌, ℕ, ◌+◌, ◌-◌, ◌<◌, ◌≤◌, eqb, ltb, cond, Option, Some, None, Result, Err, inl, inr}
use Rattle.std.proofs.Common.{List, ◌++◌, length, get_or, take, drop, replicate, refl, sym, ap, ◌∙◌, arith}
use Rattle.std.proofs.Common.{get_or-take, get_or-drop, take-take, lit<, lit≤}
use Rattle.std.proofs.Math.Nat.{add_assoc}
use Rattle.std.proofs.lemmas.List.{append-nil, drop-take, drop-drop}
use Rattle.save_bytes.specs.Fields.{number_at}
use Rattle.save_bytes.proofs.FieldLemmas.{number_at-same}
use Rattle.container_header.specs.declared.header.Kind.{Kind}
use Rattle.container_header.specs.declared.header.Kind.TheVariants.{Disa, Diff}
use Rattle.container_header.specs.Fields.{header_bytes, header_byte, header_word, header_long, disa_fields, diff_fields}
use Rattle.container_header.specs.Conditions.{kind_named, kind_of, version_of, fields_of, layout_faults}
use Rattle.container_header.specs.Conditions.{first_failing, checked, reading_as, reading_of, reading, first_bytes}
use Rattle.container_header.specs.declared.header.Header.{Header}
use Rattle.container_header.specs.declared.fault.HeaderFault.{HeaderFault}
use Rattle.container_header.specs.declared.fault.HeaderFault.TheVariants.{NotImage, Version}
use Rattle.std.proofs.lemmas.Bool.{cases_lt, lt-ltb}

-- the header's bytes
abbrev pub raw_of : List ℕ → List ℕ
raw_of image = header_bytes image 0 256

-- a part of a front is that part of the whole
take-drop-take : (n off m : ℕ) (xs : List ℕ) → off + n ≤ m → take n (drop off (take m xs)) ≡ take n (drop off xs)
take-drop-take n off m xs fits =
    let whole : off + (m - off) ≡ m = omega arith in
    ap (λ (k : ℕ). take n (drop off (take k xs))) (sym whole)
    ∙ ap (λ (ys : List ℕ). take n ys) (drop-take off (m - off) xs)
    ∙ take-take n (m - off) (drop off xs) (omega arith)

module _ (image : List ℕ) where
  pub header_byte-raw : (at : ℕ) → at < 256 → header_byte image at ≡ get_or (raw_of image) at 0
  header_byte-raw at h = sym (get_or-take 256 (drop 256 image) at 0 h ∙ get_or-drop 256 image at 0)

  pub number_at-raw : (n at : ℕ) → at + n ≤ 256 → number_at n image (256 + at) ≡ number_at n (raw_of image) at
  number_at-raw n at fits = number_at-same n image (raw_of image) (256 + at)
      at (λ k h. ap (λ (i : ℕ). get_or image i 0) (add_assoc 256 at k) ∙ header_byte-raw (at + k) (omega arith))

  pub header_bytes-raw : (at n : ℕ) → at + n ≤ 256 → header_bytes image at n ≡ take n (drop at (raw_of image))
  header_bytes-raw at n fits = sym (take-drop-take n at 256 (drop 256 image) fits
      ∙ ap (λ (ys : List ℕ). take n ys) (drop-drop at 256 image))

-- The fields of an image that has the numbers before the active byte of another one: a DISA's, and a DIFF's.
pub disa_from : (image new : List ℕ) (active : ℕ) (hash raw : List ℕ)
    → ((n at : ℕ) → at + n ≤ 0x68 → number_at n new (256 + at) ≡ number_at n image (256 + at))
    → header_byte new 0x68 ≡ active → header_bytes new 0x6C 32 ≡ hash → raw_of new ≡ raw
    → disa_fields new ≡ record (disa_fields image) { active = active; hash = hash; raw = raw }
disa_from image new active hash raw numbers is_active is_hash is_raw =
    let parts = numbers 4 0x08 (lit≤ tt) in
    let secondary = numbers 8 0x10 (lit≤ tt) in
    let primary = numbers 8 0x18 (lit≤ tt) in
    let table_size = numbers 8 0x20 (lit≤ tt) in
    let a_at = numbers 8 0x28 (lit≤ tt) in
    let a_size = numbers 8 0x30 (lit≤ tt) in
    let b_at = numbers 8 0x38 (lit≤ tt) in
    let b_size = numbers 8 0x40 (lit≤ tt) in
    let part_a_at = numbers 8 0x48 (lit≤ tt) in
    let part_a_size = numbers 8 0x50 (lit≤ tt) in
    let part_b_at = numbers 8 0x58 (lit≤ tt) in
    let part_b_size = numbers 8 0x60 (lit≤ tt) in
    cc

pub diff_from : (image new : List ℕ) (active : ℕ) (hash raw : List ℕ)
    → ((n at : ℕ) → at + n ≤ 0x30 → number_at n new (256 + at) ≡ number_at n image (256 + at))
    → header_long new 0x54 ≡ header_long image 0x54 → header_byte new 0x30 ≡ active → header_bytes new 0x34 32 ≡ hash
    → raw_of new ≡ raw → diff_fields new ≡ record (diff_fields image) { active = active; hash = hash; raw = raw }
diff_from image new active hash raw numbers is_unique is_active is_hash is_raw =
    let secondary = numbers 8 0x08 (lit≤ tt) in
    let primary = numbers 8 0x10 (lit≤ tt) in
    let table_size = numbers 8 0x18 (lit≤ tt) in
    let part_at = numbers 8 0x20 (lit≤ tt) in
    let part_size = numbers 8 0x28 (lit≤ tt) in
    cc

-- two images with the same header bytes
module _ (one other : List ℕ) (same : raw_of one ≡ raw_of other) where
  byte_same : (at : ℕ) → at < 256 → header_byte one at ≡ header_byte other at
  byte_same at h = header_byte-raw one at h ∙ ap (λ (raw : List ℕ). get_or raw at 0) same
      ∙ sym (header_byte-raw other at h)

  number_same : (n at : ℕ) → at + n ≤ 256 → number_at n one (256 + at) ≡ number_at n other (256 + at)
  number_same n at fits = number_at-raw one n at fits ∙ ap (λ (raw : List ℕ). number_at n raw at) same
      ∙ sym (number_at-raw other n at fits)

  bytes_same : (at n : ℕ) → at + n ≤ 256 → header_bytes one at n ≡ header_bytes other at n
  bytes_same at n fits = header_bytes-raw one at n fits ∙ ap (λ (raw : List ℕ). take n (drop at raw)) same
      ∙ sym (header_bytes-raw other at n fits)

  disa_same : disa_fields one ≡ disa_fields other
  disa_same = disa_from other one (header_byte other 0x68) (header_bytes other 0x6C 32) (raw_of other)
      (λ n at fits. number_same n at (omega arith)) (byte_same 0x68 (lit< tt)) (bytes_same 0x6C 32 (lit≤ tt)) same

  diff_same : diff_fields one ≡ diff_fields other
  diff_same = diff_from other one (header_byte other 0x30) (header_bytes other 0x34 32) (raw_of other)
      (λ n at fits. number_same n at (omega arith)) (number_same 8 0x54 (lit≤ tt)) (byte_same 0x30 (lit< tt))
      (bytes_same 0x34 32 (lit≤ tt)) same

  pub fields_same : (kind : Kind) → fields_of kind one ≡ fields_of kind other
  fields_same Disa = disa_same
  fields_same Diff = diff_same

  pub kind_same : kind_of one ≡ kind_of other
  kind_same = ap kind_named (bytes_same 0 4 (lit≤ tt))

  pub version_same : header_word one 0x04 ≡ header_word other 0x04
  version_same = number_same 4 0x04 (lit≤ tt)

  reading_as_same : (kind : Option Kind) (n : ℕ) → reading_as kind one n ≡ reading_as kind other n
  reading_as_same None n = refl
  reading_as_same (Some kind) n =
      let outcome : ℕ → Header → Result Header HeaderFault =
      λ version header. cond (eqb version (version_of kind))
      (checked header (first_failing 1 (layout_faults header n))) (Err Version) in
      ap (λ (version : ℕ). outcome version (fields_of kind one)) version_same
      ∙ ap (λ (header : Header). outcome (header_word other 0x04) header) (fields_same kind)

  pub reading_same : (n : ℕ) → reading_of one n ≡ reading_of other n
  unfolding reading_of
  reading_same n =
      let by_kind : reading_as (kind_of one) one n ≡ reading_as (kind_of other) other n =
      ap (λ (kind : Option Kind). reading_as kind one n) kind_same ∙ reading_as_same (kind_of other) n in
      ap (λ (answer : Result Header HeaderFault). cond (ltb n 512) (Err NotImage) answer) by_kind

reading_of-short : (image : List ℕ) (n : ℕ) → n < 512 → reading_of image n ≡ Err NotImage
unfolding reading_of
reading_of-short image n short = rw (lt-ltb n 512 short) refl

-- where the image is long enough, its first 512 bytes have its header
first_raw : (image : List ℕ) → 512 ≤ length image → raw_of (first_bytes image) ≡ raw_of image
first_raw image long =
    let none : 512 - length image ≡ 0 = omega arith in
    let front : first_bytes image ≡ take 512 image = ap (λ (n : ℕ). take 512 image ++ replicate n 0) none
    ∙ append-nil (take 512 image) in
    ap raw_of front ∙ take-drop-take 256 256 512 image (lit≤ tt)

-- what the first 512 bytes say of an image, with zeros after its end, is what the image says
pub reading_of-first : (image : List ℕ) → reading_of (first_bytes image) (length image) ≡ reading image
reading_of-first image = elim (cases_lt (length image) 512) [
  | inl short ↦ reading_of-short (first_bytes image) (length image) short
      ∙ sym (reading_of-short image (length image) short)
  | inr long ↦ reading_same (first_bytes image) image (first_raw image long) (length image)
]
