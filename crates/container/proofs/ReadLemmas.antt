-- Bytes of the image that a disk tells.
use Rattle.std.proofs.Common.{◌≡◌, ℕ, ◌+◌, ◌-◌, ◌/◌, ◌%◌, ◌<◌, ◌≤◌, List, ◌++◌, length, take, drop, Option, IsTrue}
use Rattle.std.proofs.Common.{refl, sym, ◌∙◌, ap, subst, arith, rules, replicate, Result, Err, lt-ltb}
use Rattle.std.proofs.Math.Seq.{take-add}
use Rattle.std.proofs.lemmas.List.{places, same_lists, take_all, take-append-le, drop-drop, append-nil}
use Rattle.std.proofs.lemmas.Nat.{div-add-mod'}
use borrow.Rule.Slice.PartMut.{put_mid}
use Rattle.container_header.specs.declared.header.Header.{Header}
use Rattle.container_header.specs.declared.fault.HeaderFault.{HeaderFault}
use Rattle.container_header.specs.declared.fault.HeaderFault.TheVariants.{NotImage}
use Rattle.container_header.specs.Conditions.{reading, reading_of, first_bytes}
use Rattle.save_disk.specs.Trace.{Told, sector_of}
use Rattle.save_disk.specs.State.{State, IsSound, IsQuiet, IsRead}
use Rattle.save_disk.specs.Tells.{tells, image_of, image_told}
use Rattle.save_disk.proofs.Told.{tells-told, tells-sure, told_grain, now_size, read_sure}
use Rattle.save_disk.proofs.Pieces.{piece_of_sector}

-- a disk of the same length that tells the same trace tells each read as well
pub tells_same : (one two : State) → IsQuiet one two → two.size ≡ one.size → IsTrue (tells one) → IsTrue (tells two)
tells_same one two quiet size sure = rw (quiet, size) sure

pub told_same : (one two : State) → IsQuiet one two → image_told two ≡ image_told one
told_same one two quiet = ap image_of quiet

-- the image is as long as the disk
pub told_size : (disk : State) → IsSound disk → IsTrue (tells disk) → length (image_told disk) ≡ disk.size
told_size disk sound sure =
    let told = tells-told disk.told disk.size sure in
    ap (λ (o : Option Told). length (image_of o)) told.1 ∙ now_size disk told.0 sound told.1

-- a read gives the sector of the image
pub sector_told : (disk : State) (at : ℕ) (bytes : List ℕ) → IsSound disk → IsTrue (tells disk) → at < disk.size
    → IsRead disk (at / disk.grain) bytes → bytes ≡ sector_of disk.grain (image_told disk) (at / disk.grain)
sector_told disk at bytes sound sure inside read =
    let told = tells-told disk.told disk.size sure in
    let there = tells-sure disk told.0 at told.1 sure inside in
    let grain : told.0.grain ≡ disk.grain = told_grain disk told.0 sound told.1 in
    read_sure disk told.0 (at / disk.grain) bytes sound told.1 (rw grain at there) read
    ∙ ap (λ (o : Option Told). sector_of disk.grain (image_of o) (at / disk.grain)) (sym told.1)

-- what a piece within a sector has, the image has at its place
pub piece_told : (disk : State) (grain at n : ℕ) (bytes : List ℕ) → IsSound disk → IsTrue (tells disk)
    → grain ≡ disk.grain → 1 ≤ grain → 1 ≤ n → at % grain + n ≤ grain → at + n ≤ disk.size
    → IsRead disk (at / grain) bytes
    → take (at % grain + n - at % grain) (drop (at % grain) bytes) ≡ take n (drop at (image_told disk))
piece_told disk grain at n bytes sound sure same some more short inside read =
    let whole : bytes ≡ sector_of grain (image_told disk) (at / grain) = rw same (sector_told disk at bytes sound sure (omega arith) (rw same at read)) in
    ap (λ (l : List ℕ). take (at % grain + n - at % grain) (drop (at % grain) l)) whole
    ∙ piece_of_sector grain disk.size (image_told disk) (at / grain) (at % grain) n at (told_size disk sound sure) (div-add-mod' at grain) short inside

-- a piece before what was there
pub front_of_piece : (n : ℕ) (piece rest wanted : List ℕ) → length piece ≡ n → piece ≡ wanted → take n (piece ++ rest) ≡ wanted
front_of_piece n piece rest wanted long is = take-append-le n piece rest (omega arith) ∙ take_all n piece (omega arith) ∙ is

take-put_mid_more : (done n : ℕ) (out part : List ℕ) → done ≤ length out → length part ≡ length out - done
    → n ≤ length part → take (done + n) (put_mid done (length out - done) out part) ≡ take done out ++ take n part
take-put_mid_more done n out part inside long fits = same_lists _ _ (search (rules, places)) (λ k d h. grind (arith, places))

-- n bytes more of the image
pub read_more : (done n at : ℕ) (out part image : List ℕ) → done ≤ length out → length part ≡ length out - done
    → n ≤ length part → take done out ≡ take done (drop at image) → take n part ≡ take n (drop (at + done) image)
    → take (done + n) (put_mid done (length out - done) out part) ≡ take (done + n) (drop at image)
read_more done n at out part image inside long fits front next =
    take-put_mid_more done n out part inside long fits
    ∙ ap (λ (l : List ℕ). l ++ take n part) front
    ∙ ap (λ (l : List ℕ). take done (drop at image) ++ l) (next ∙ ap (λ (l : List ℕ). take n l) (sym (drop-drop done at image)))
    ∙ sym (take-add done n (drop at image))

-- what a disk that tells the same trace shows of its image
pub shown_before : (P : List ℕ → Type 0) (one two : State) → IsQuiet one two → two.size ≡ one.size
    → (IsTrue (tells two) → P (image_told two)) → IsTrue (tells one) → P (image_told one)
shown_before P one two quiet size shown sure = subst P (told_same one two quiet) (shown (tells_same one two quiet size sure))

-- where there are so many, no zeros stand behind them
pub front_whole : (image front : List ℕ) → 512 ≤ length image → front ≡ take 512 image → front ≡ first_bytes image
front_whole image front long is =
    let none : 512 - length image ≡ 0 = omega arith in
    is ∙ sym (ap (λ (k : ℕ). take 512 image ++ replicate k 0) none ∙ append-nil (take 512 image))

-- an image that is shorter is none
pub reading_short : (image : List ℕ) → length image < 512 → reading image ≡ Err NotImage
unfolding reading_of
reading_short image short = rw (lt-ltb (length image) 512 short) refl

-- what is read of the first 512 bytes is the image's header, or its fault
pub header_told : (one two : State) (len : ℕ) (front : List ℕ) (result : Result Header HeaderFault) → IsSound one
    → IsQuiet one two → two.size ≡ one.size → len ≡ one.size → 512 ≤ len
    → (IsTrue (tells two) → front ≡ take 512 (drop 0 (image_told two)))
    → ((image : List ℕ) → length image ≡ len → front ≡ first_bytes image → result ≡ reading image)
    → IsTrue (tells one) → result ≡ reading (image_told one)
header_told one two len front result sound quiet size same whole read exact = λ sure.
    let long : length (image_told one) ≡ len = told_size one sound sure ∙ sym same in
    exact (image_told one) long (front_whole (image_told one) front (omega arith)
    (shown_before (λ (l : List ℕ). front ≡ take 512 l) one two quiet size read sure))
