-- What is read is the image's header exactly where that is sound, and its fields are those of its bytes.
use Rattle.std.proofs.Common.{◌≡◌, ℕ, ◌≤◌, Bool, true, false, eqb, ltb, cond, Option, Some, None, Result, Ok, Err}
use Rattle.std.proofs.Common.{IfOk, List, ◌++◌, length, take, drop, replicate, refl, sym, ap, ◌∙◌, arith}
use Rattle.std.proofs.lemmas.Bool.{le-ltb, eq-eqb, eqb-true, ltb-false}
use Rattle.std.proofs.lemmas.List.{drop_at, length-replicate, length-take-le, length-drop, take_all}
use Rattle.container_header.specs.declared.header.Kind.{Kind}
use Rattle.container_header.specs.declared.header.Kind.TheVariants.{Disa, Diff}
use Rattle.container_header.specs.declared.header.Header.{Header}
use Rattle.container_header.specs.declared.fault.HeaderFault.{HeaderFault}
use Rattle.container_header.specs.declared.fault.HeaderFault.TheVariants.{NotImage, Version}
use Rattle.container_header.specs.Fields.{header_word}
use Rattle.container_header.specs.Conditions.{kind_of, version_of, fields_of, layout_faults, first_failing, checked}
use Rattle.container_header.specs.Conditions.{reading_as, reading_of, reading}
use Rattle.container_header.specs.Sound.{IsSoundHeader, IsHeaderOf}
use Rattle.container_header.specs.Raw.{header_image, IsOfRaw}
use Rattle.container_header.proofs.HeaderBytes.{raw_of, kind_same, version_same, fields_same}
use Rattle.container_header.proofs.Soundness.{sound_from, sound_to}

-- the header that these bytes give an image of a length
pub record IsRead (bytes : List ℕ) (n : ℕ) (header : Header) : Type 0 where
  pub longer : 512 ≤ n
  pub kind_is : kind_of bytes ≡ Some header.kind
  pub version_is : header_word bytes 0x04 ≡ version_of header.kind
  pub fields_are : fields_of header.kind bytes ≡ header
  pub none_fails : first_failing 1 (layout_faults header n) ≡ None

checked-ok : (header found : Header) (fault : Option ℕ) → checked header fault ≡ Ok found → (header ≡ found)
    × (fault ≡ None)
checked-ok header found None e = (cc, refl)
checked-ok header found (Some c) e = cc

kind_kept : (kind : Kind) (bytes : List ℕ) → (fields_of kind bytes).kind ≡ kind
kind_kept Disa bytes = refl
kind_kept Diff bytes = refl

-- by the test of the version
versioned : (test : Bool) (x : Result Header HeaderFault) (header : Header) → cond test x (Err Version) ≡ Ok header
    → (test ≡ true) × (x ≡ Ok header)
versioned true x header e = (refl, e)
versioned false x header e = cc

reading_as-ok : (found : Option Kind) (bytes : List ℕ) (n : ℕ) (header : Header) → 512 ≤ n → kind_of bytes ≡ found
    → reading_as found bytes n ≡ Ok header → IsRead bytes n header
reading_as-ok None bytes n header long is e = cc
reading_as-ok (Some kind) bytes n header long is e =
    let by_version = versioned (eqb (header_word bytes 0x04) (version_of kind))
    (checked (fields_of kind bytes) (first_failing 1 (layout_faults (fields_of kind bytes) n))) header e in
    let by_fault = checked-ok (fields_of kind bytes) header (first_failing 1 (layout_faults (fields_of kind bytes) n))
    by_version.1 in
    let same : kind ≡ header.kind = sym (kind_kept kind bytes) ∙ ap (λ (h : Header). h.kind) by_fault.0 in
    record {
      longer = long;
      kind_is = is ∙ ap (λ (k : Kind). Some k) same;
      version_is = eqb-true _ _ by_version.0 ∙ ap version_of same;
      fields_are = ap (λ (k : Kind). fields_of k bytes) (sym same) ∙ by_fault.0;
      none_fails = ap (λ (h : Header). first_failing 1 (layout_faults h n)) (sym by_fault.0) ∙ by_fault.1;
    }

short_first : (test : Bool) (x : Result Header HeaderFault) (header : Header) → cond test (Err NotImage) x ≡ Ok header
    → (test ≡ false) × (x ≡ Ok header)
short_first true x header e = cc
short_first false x header e = (refl, e)

pub reading_of-ok : (bytes : List ℕ) (n : ℕ) (header : Header) → reading_of bytes n ≡ Ok header → IsRead bytes n header
unfolding reading_of
reading_of-ok bytes n header e =
    let parts = short_first (ltb n 512) (reading_as (kind_of bytes) bytes n) header e in
    reading_as-ok (kind_of bytes) bytes n header (ltb-false n 512 parts.0) refl parts.1

pub reading_of-is : (bytes : List ℕ) (n : ℕ) (header : Header) → IsRead bytes n header → reading_of bytes n ≡ Ok header
unfolding reading_of
reading_of-is bytes n header h =
    let kind = header.kind in
    let fault : Header → Option ℕ = λ found. first_failing 1 (layout_faults found n) in
    let by_version : Bool → Header → Result Header HeaderFault = λ test found.
    cond test (checked found (fault found)) (Err Version) in
    let known : eqb (header_word bytes 0x04) (version_of kind) ≡ true =
    eq-eqb (header_word bytes 0x04) (version_of kind) h.version_is in
    ap (λ (test : Bool). cond test (Err NotImage) (reading_as (kind_of bytes) bytes n)) (le-ltb n 512 h.longer)
    ∙ ap (λ (found : Option Kind). reading_as found bytes n) h.kind_is
    ∙ ap (λ (test : Bool). by_version test (fields_of kind bytes)) known
    ∙ ap (λ (found : Header). by_version true found) h.fields_are
    ∙ ap (λ (found : Option ℕ). checked header found) h.none_fails

behind_zeros : (n : ℕ) (xs : List ℕ) → drop n (replicate n 0 ++ xs) ≡ xs
behind_zeros n xs = drop_at (replicate n 0) xs n (length-replicate n 0)

-- the header's bytes in an image that holds them
pub raw_of-header_image : (raw : List ℕ) → length raw ≡ 256 → raw_of (header_image raw) ≡ raw
unfolding header_image
raw_of-header_image raw size = ap (λ (bytes : List ℕ). take 256 bytes) (behind_zeros 256 raw)
    ∙ take_all 256 raw (omega arith)

raw_kept : (kind : Kind) (bytes : List ℕ) → (fields_of kind bytes).raw ≡ raw_of bytes
raw_kept Disa bytes = refl
raw_kept Diff bytes = refl

-- the fields of a header that was read are those of its bytes
pub read_of_raw : (bytes : List ℕ) (n : ℕ) (header : Header) → 512 ≤ length bytes → reading_of bytes n ≡ Ok header
    → IsOfRaw header
read_of_raw bytes n header long e =
    let h = reading_of-ok bytes n header e in
    let raw : header.raw ≡ raw_of bytes = ap (λ (found : Header). found.raw) (sym h.fields_are)
    ∙ raw_kept header.kind bytes in
    let size : length header.raw ≡ 256 = ap length raw
    ∙ length-take-le 256 (drop 256 bytes) (omega (arith, length-drop 256 bytes)) in
    let held = header_image header.raw in
    let same : raw_of held ≡ raw_of bytes = raw_of-header_image header.raw size ∙ raw in
    record {
      size_is = size;
      kind_is = kind_same held bytes same ∙ h.kind_is;
      version_is = version_same held bytes same ∙ h.version_is;
      fields_are = fields_same held bytes same header.kind ∙ h.fields_are;
    }

pub read_sound : (bytes : List ℕ) (n : ℕ) (header : Header) → reading_of bytes n ≡ Ok header → IsSoundHeader header n
read_sound bytes n header e = sound_from header n (reading_of-ok bytes n header e).none_fails

-- an image that holds a header's bytes has that header, where it is sound there
pub reading-raw : (header : Header) (image : List ℕ) → IsOfRaw header → 512 ≤ length image → raw_of image ≡ header.raw
    → first_failing 1 (layout_faults header (length image)) ≡ None → reading image ≡ Ok header
reading-raw header image h long holds sound =
    let held = header_image header.raw in
    let same : raw_of image ≡ raw_of held = holds ∙ sym (raw_of-header_image header.raw h.size_is) in
    reading_of-is image (length image) header (record {
      longer = long;
      kind_is = kind_same image held same ∙ h.kind_is;
      version_is = version_same image held same ∙ h.version_is;
      fields_are = fields_same image held same header.kind ∙ h.fields_are;
      none_fails = sound;
    })

-- what is read is the image's header exactly where that is sound
pub reading-ok : (image : List ℕ) (header : Header) → reading image ≡ Ok header → IsHeaderOf header image
reading-ok image header e =
    let h = reading_of-ok image (length image) header e in
    record {
      longer = h.longer;
      kind_is = h.kind_is;
      version_is = h.version_is;
      fields_are = h.fields_are;
      sound =
          sound_from header (length image) h.none_fails;
    }

pub reading-is : (image : List ℕ) (header : Header) → IsHeaderOf header image → reading image ≡ Ok header
reading-is image header h =
    reading_of-is image (length image) header
    (record {
      longer = h.longer;
      kind_is = h.kind_is;
      version_is = h.version_is;
      fields_are =
          h.fields_are;
      none_fails = sound_to header (length image) h.sound;
    })

pub ok_of_raw : (bytes : List ℕ) (n : ℕ) (result : Result Header HeaderFault) → 512 ≤ length bytes
    → result ≡ reading_of bytes n → IfOk result IsOfRaw
ok_of_raw bytes n (Ok header) long e = read_of_raw bytes n header long (sym e)
ok_of_raw bytes n (Err fault) long e = tt

pub ok_sound : (bytes : List ℕ) (n : ℕ) (result : Result Header HeaderFault) → result ≡ reading_of bytes n
    → IfOk result (λ header. IsSoundHeader header n)
ok_sound bytes n (Ok header) e = read_sound bytes n header (sym e)
ok_sound bytes n (Err fault) e = tt
