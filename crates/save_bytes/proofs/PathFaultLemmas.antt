-- The laws of the first fault of a path's text.
use Rattle.std.proofs.Common.{◌≡◌, ◌≢◌, ℕ, zero, suc, ◌+◌, ◌-◌, ◌<◌, ◌≤◌, ◌==◌, Bool, true, false}
use Rattle.std.proofs.Common.{List, [], ◌∷◌, ◌++◌, length, replicate, Option, Some, None, Result, Ok, Err, refl, sym}
use Rattle.std.proofs.Common.{◌∙◌, ap, subst}
use Rattle.std.proofs.Common.{arith, append_assoc, length-append, inl, inr, ◌⊎◌, if◌then◌else◌}
use Rattle.std.proofs.lemmas.Bool.{eqb-true, eqb-false, false_from_ne_true}
use Rattle.std.proofs.lemmas.List.{append-nil}
use Rattle.save_bytes.specs.declared.path.PathFault.{PathFault}
use Rattle.save_bytes.specs.declared.path.PathFault.TheVariants.{Empty, NoSlash, EmptyName, LongName, BadEscape}
use Rattle.save_bytes.specs.declared.path.PathFault.TheVariants.{TooDeep}
use Rattle.save_bytes.specs.Paths.{filled, IsByteText, AreByteTexts, NoByte, OneByte, IsNameText, AreNameTexts}
use Rattle.save_bytes.specs.Paths.{NoName, OneName}
use Rattle.save_bytes.specs.PathFaults.{path_fault_number, is_name_end, IsSoundTo, Begins, NoText, OtherFirst}
use Rattle.save_bytes.specs.PathFaults.{NoNonzero, OneMore, NoByteText, OneDeeper, IsFirstPathFault}
use Rattle.save_bytes.specs.PathReading.{byte_from, behind_bytes, with_byte, name_from, behind_names, with_name}
use Rattle.save_bytes.specs.PathReading.{names_from, path_from}
use Rattle.save_bytes.proofs.PathLemmas.{byte_from-text, byte_is, IsByteFront, name_from-end, name_from-full}
use Rattle.save_bytes.proofs.PathLemmas.{name_from-bad, name_from-text, IsNameFront, name_is_front}
use Rattle.save_bytes.proofs.PathLemmas.{names_from-none, names_from-name, names_from-deep, names_from-text}
use Rattle.save_bytes.proofs.PathLemmas.{path_from-names, with_name_zero, with_name_some, zeros_or_not}
use Rattle.save_bytes.proofs.PathLemmas.{name_texts_end}

-- the two parts in which a number names a fault
fault_of_number : ℕ → PathFault
fault_of_number n = if n == 1 then Empty else (if n == 2 then NoSlash else (if n == 3 then EmptyName
    else (if n == 4 then LongName else (if n == 5 then BadEscape else TooDeep))))

fault_of_own : (fault : PathFault) → fault_of_number (path_fault_number fault) ≡ fault
unfolding fault_of_number
fault_of_own Empty = refl
fault_of_own NoSlash = refl
fault_of_own EmptyName = refl
fault_of_own LongName = refl
fault_of_own BadEscape = refl
fault_of_own TooDeep = refl

same_fault : (one other : PathFault) → path_fault_number one ≡ path_fault_number other → one ≡ other
same_fault one other same = sym (fault_of_own one) ∙ ap fault_of_number same ∙ fault_of_own other

none_long : (xs : List ℕ) → length xs ≡ 0 → xs ≡ []
none_long [] e = refl
none_long (x ∷ xs) e = absurd (omega arith)

not_ended : (rest : List ℕ) → is_name_end rest ≡ false → rest ≢ []
not_ended [] inside e = absurd (cc inside)
not_ended (x ∷ xs) inside e = absurd (cc e)

not_slash : (byte : ℕ) → byte ≢ 47 → (byte == 47) ≡ false
not_slash byte ne = false_from_ne_true (byte == 47) (λ e. ne (eqb-true byte 47 e))

no_byte : (rest : List ℕ) (o : Option (ℕ × List ℕ)) → byte_from rest ≡ o
    → ((byte : ℕ) (piece more : List ℕ) → IsByteText byte piece → rest ≢ piece ++ more) → o ≡ None
no_byte rest None is bad = refl
no_byte rest (Some read) is bad = let front = byte_is rest read is in absurd
    (bad read.0 front.piece read.1 front.texts front.is)

module _ (text : List ℕ) (at : ℕ) (names : List (List ℕ)) (bytes rest : List ℕ)
    (sound : IsSoundTo text at names bytes rest) where
  -- something stands behind the first `/`
  sound_is_more : rest ≢ [] → text ≢ 47 ∷ []
  sound_is_more some e =
      let long : length (sound.done ++ (47 ∷ (sound.begun ++ rest))) ≡ 1 = ap length (sym sound.is ∙ e) in
      let parts : length sound.done + suc (length sound.begun + length rest) ≡ 1 = simp length-append at long in
      some (none_long rest (omega arith))

  sound_is_some : text ≢ []
  sound_is_some e =
      let long : length (sound.done ++ (47 ∷ (sound.begun ++ rest))) ≡ 0 = ap length (sym sound.is ∙ e) in
      let parts : length sound.done + suc (length sound.begun + length rest) ≡ 0 = simp length-append at long in
      absurd (omega arith)

  -- a text that has no fault up to a place is read up to there
  sound_read : text ≢ 47 ∷ [] → path_from text
      ≡ behind_names names (with_name (behind_bytes bytes (name_from (16 - length bytes) rest))
      (names_from (63 - length names)))
  sound_read more =
      let few = sound.few in
      let short = sound.short in
      let tail = 47 ∷ (sound.begun ++ rest) in
      let ends : is_name_end text ≡ true = rw sound.is (name_texts_end names sound.done sound.names_done tail refl) in
      let room : length names + suc (63 - length names) ≡ 64 = omega arith in
      let name_room : length bytes + (16 - length bytes) ≡ 16 = omega arith in
      let whole : names_from (length names + suc (63 - length names)) (sound.done ++ tail)
      ≡ behind_names names (names_from (suc (63 - length names)) tail) =
      names_from-text names sound.done sound.names_done (suc (63 - length names)) tail refl in
      let name : name_from (length bytes + (16 - length bytes)) (sound.begun ++ rest)
      ≡ behind_bytes bytes (name_from (16 - length bytes) rest) =
      name_from-text bytes sound.begun sound.bytes_begun (16 - length bytes) rest in
      let here : name_from 16 (sound.begun ++ rest) ≡ behind_bytes bytes (name_from (16 - length bytes) rest) =
      ap (λ (n : ℕ). name_from n (sound.begun ++ rest)) (sym name_room) ∙ name in
      path_from-names text ends sound_is_some more
      ∙ ap (names_from 64) sound.is
      ∙ ap (λ (n : ℕ). names_from n (sound.done ++ tail)) (sym room)
      ∙ whole
      ∙ ap (behind_names names) (names_from-name (63 - length names) 47 (sound.begun ++ rest)
      ∙ ap (λ (r : Result (List ℕ × List ℕ) PathFault). with_name r (names_from (63 - length names))) here)

  -- where the name ends
  ended_read : text ≢ 47 ∷ [] → is_name_end rest ≡ true
      → path_from text ≡ behind_names names (with_name (Ok (bytes, rest)) (names_from (63 - length names)))
  ended_read more ends = sound_read more
      ∙ ap (λ (r : Result (List ℕ × List ℕ) PathFault). behind_names names
      (with_name (behind_bytes bytes r) (names_from (63 - length names))))
      (name_from-end (16 - length bytes) rest ends)
      ∙ ap (λ (b : List ℕ). behind_names names (with_name (Ok (b, rest)) (names_from (63 - length names))))
      (append-nil bytes)

  zeros_read : text ≢ 47 ∷ [] → is_name_end rest ≡ true → filled bytes ≡ replicate 16 0 → path_from text ≡ Err EmptyName
  zeros_read more ends zeros = ended_read more ends
      ∙ ap (behind_names names) (with_name_zero bytes rest (names_from (63 - length names)) zeros)

  -- where the name goes on, and reading it fails
  inside_read : is_name_end rest ≡ false → (fault : PathFault) → name_from (16 - length bytes) rest ≡ Err fault
      → path_from text ≡ Err fault
  inside_read inside fault read = sound_read (sound_is_more (λ e. not_ended rest inside e))
      ∙ ap (λ (r : Result (List ℕ × List ℕ) PathFault). behind_names names
      (with_name (behind_bytes bytes r) (names_from (63 - length names)))) read

-- the fault that reading comes to where one begins
record IsFaultRead (text : List ℕ) (at : ℕ) (other : PathFault) : Type 0 where
  pub fault : PathFault
  pub read : path_from text ≡ Err fault
  pub begins : Begins text at fault
  pub low : path_fault_number fault ≤ path_fault_number other

module _ (text : List ℕ) (at : ℕ) (names : List (List ℕ)) (bytes rest : List ℕ) where
  long_is_read : (other : PathFault) → 4 ≤ path_fault_number other → IsSoundTo text at names bytes rest
      → is_name_end rest ≡ false
      → length bytes ≡ 16 → IsFaultRead text at other
  long_is_read other later sound inside full = record {
    fault = LongName;
    read = inside_read text at names bytes rest sound inside LongName
        (ap (λ (n : ℕ). name_from n rest) (let none : 16 - length bytes ≡ 0 = omega arith in none)
        ∙ name_from-full rest inside);
    begins = OneMore text at names bytes rest sound inside full;
    low = later;
  }

  bad_is_read : IsSoundTo text at names bytes rest → is_name_end rest ≡ false
      → ((byte : ℕ) (piece more : List ℕ) → IsByteText byte piece → rest ≢ piece ++ more) → (room : ℕ)
      → length bytes + room ≡ 16
      → IsFaultRead text at BadEscape
  bad_is_read sound inside bad zero room = long_is_read BadEscape (omega arith) sound inside (omega arith)
  bad_is_read sound inside bad (suc room) same = record {
    fault = BadEscape;
    read = inside_read text at names bytes rest sound inside BadEscape
        (ap (λ (n : ℕ). name_from n rest) (let left : 16 - length bytes ≡ suc room = omega arith in left)
        ∙ name_from-bad room rest inside (no_byte rest (byte_from rest) refl bad));
    begins = NoByteText text at names bytes rest sound inside bad;
    low = omega arith;
  }

deep_is_read : (text : List ℕ) (at : ℕ) (names : List (List ℕ)) (bytes rest : List ℕ)
    → IsSoundTo text at names bytes (47 ∷ rest)
    → length names ≡ 63 → (filled bytes ≡ replicate 16 0) ⊎ (filled bytes ≢ replicate 16 0)
    → IsFaultRead text at TooDeep
deep_is_read text at names bytes rest sound last (inl zeros) =
    let more = sound_is_more text at names bytes (47 ∷ rest) sound (λ e. absurd (cc e)) in
    record {
      fault = EmptyName;
      read = zeros_read text at names bytes (47 ∷ rest) sound more refl zeros;
      begins = NoNonzero text at names bytes (47 ∷ rest) sound refl zeros more;
      low = omega arith;
    }
deep_is_read text at names bytes rest sound last (inr some) =
    let more = sound_is_more text at names bytes (47 ∷ rest) sound (λ e. absurd (cc e)) in
    let none : 63 - length names ≡ 0 = omega arith in
    record {
      fault = TooDeep;
      read = ended_read text at names bytes (47 ∷ rest) sound more refl
          ∙ ap (behind_names names) (with_name_some bytes (47 ∷ rest) (names_from (63 - length names)) some
          ∙ ap (λ (n : ℕ). behind_names (filled bytes ∷ []) (names_from n (47 ∷ rest))) none
          ∙ ap (behind_names (filled bytes ∷ [])) (names_from-deep 47 rest));
      begins = OneDeeper text at names bytes rest sound last;
      low = omega arith;
    }

other_first : (byte : ℕ) (rest : List ℕ) → byte ≢ 47 → path_from (byte ∷ rest) ≡ Err NoSlash
other_first byte [] ne = rw (not_slash byte ne) refl
other_first byte (second ∷ rest) ne = rw (not_slash byte ne) refl

is_read : (text : List ℕ) (at : ℕ) (other : PathFault) → Begins text at other → IsFaultRead text at other
is_read _ _ _ NoText = record { fault = Empty; read = refl; begins = NoText; low = omega arith }
is_read _ _ _ (OtherFirst byte rest ne) = record {
  fault = NoSlash;
  read = other_first byte rest ne;
  begins = OtherFirst byte rest ne;
  low = omega arith;
}
is_read _ _ _ (NoNonzero text at names bytes rest sound ends zeros more) = record {
  fault = EmptyName;
  read = zeros_read text at names bytes rest sound more ends zeros;
  begins = NoNonzero text at names bytes rest sound ends zeros more;
  low = omega arith;
}
is_read _ _ _ (OneMore text at names bytes rest sound inside full) =
    long_is_read text at names bytes rest LongName (omega arith) sound inside full
is_read _ _ _ (NoByteText text at names bytes rest sound inside bad) =
    let short = sound.short in
    bad_is_read text at names bytes rest sound inside bad (16 - length bytes) (omega arith)
is_read _ _ _ (OneDeeper text at names bytes rest sound last) = deep_is_read text at names bytes rest sound last
    (zeros_or_not bytes)

-- ---- where a fault begins that reading comes to

byte_texts_push : (bytes text : List ℕ) → AreByteTexts bytes text → (byte : ℕ) (piece : List ℕ) → IsByteText byte piece
    → AreByteTexts (bytes ++ byte ∷ []) (text ++ piece)
byte_texts_push _ _ NoByte byte piece is = subst (AreByteTexts (byte ∷ [])) (append-nil piece)
    (OneByte byte [] piece [] is NoByte)
byte_texts_push _ _ (OneByte first bytes front text is others) byte piece last =
    subst (AreByteTexts (first ∷ (bytes ++ byte ∷ []))) (sym (append_assoc front text piece))
    (OneByte first (bytes ++ byte ∷ []) front (text ++ piece) is (byte_texts_push bytes text others byte piece last))

name_texts_push : (names : List (List ℕ)) (text : List ℕ) → AreNameTexts names text → (name piece : List ℕ)
    → IsNameText name piece
    → AreNameTexts (names ++ name ∷ []) (text ++ (47 ∷ piece))
name_texts_push _ _ NoName name piece is =
    subst (λ (xs : List ℕ). AreNameTexts (name ∷ []) (47 ∷ xs)) (append-nil piece) (OneName name piece [] [] is NoName)
name_texts_push _ _ (OneName first text names more is others) name piece last =
    subst (λ (xs : List ℕ). AreNameTexts (first ∷ (names ++ name ∷ [])) (47 ∷ xs))
    (sym (append_assoc text more (47 ∷ piece)))
    (OneName first text (names ++ name ∷ []) (more ++ (47 ∷ piece)) is
    (name_texts_push names more others name piece last))

-- what fails behind what was read failed by itself
behind_fails : (bytes : List ℕ) (r : Result (List ℕ × List ℕ) PathFault) (fault : PathFault)
    → behind_bytes bytes r ≡ Err fault → r ≡ Err fault
behind_fails bytes (Ok read) fault h = absurd (cc h)
behind_fails bytes (Err first) fault h = h

names_fail : (names : List (List ℕ)) (r : Result (List (List ℕ)) PathFault) (fault : PathFault)
    → behind_names names r ≡ Err fault → r ≡ Err fault
names_fail names (Ok read) fault h = absurd (cc h)
names_fail names (Err first) fault h = h

-- a fault begins somewhere
record HasPathFault (text : List ℕ) (fault : PathFault) : Type 0 where
  pub at : ℕ
  pub begins : Begins text at fault

-- the text has no fault up to the end of what was read of a name
sound_name : (text : List ℕ) (names : List (List ℕ)) (done more : List ℕ) → AreNameTexts names done → length names < 64
    → text ≡ done ++ (47 ∷ more) → (room : ℕ) → room ≤ 16 → (bytes piece rest : List ℕ) → AreByteTexts bytes piece
    → length bytes ≤ room → more ≡ piece ++ rest
    → IsSoundTo text (length (done ++ (47 ∷ piece))) names bytes rest
sound_name text names done more texts few is room small bytes piece rest read short split = record {
  done = done;
  begun = piece;
  names_done = texts;
  few = few;
  bytes_begun = read;
  short = omega arith;
  is = is ∙ ap (λ (xs : List ℕ). done ++ (47 ∷ xs)) split;
  place = refl;
}

module _ (text : List ℕ) (names : List (List ℕ)) where
  sound_byte : (at : ℕ) (bytes rest : List ℕ) (sound : IsSoundTo text at names bytes rest) (read : ℕ × List ℕ)
      (front : IsByteFront rest read) → length bytes < 16
      → IsSoundTo text (length (sound.done ++ (47 ∷ (sound.begun ++ front.piece)))) names (bytes ++ read.0 ∷ []) read.1
  sound_byte at bytes rest sound read front short = record {
    done = sound.done;
    begun = sound.begun ++ front.piece;
    names_done = sound.names_done;
    few = sound.few;
    bytes_begun = byte_texts_push bytes sound.begun sound.bytes_begun read.0 front.piece front.texts;
    short = omega (arith, length-append bytes (read.0 ∷ []));
    is = sound.is ∙ ap (λ (xs : List ℕ). sound.done ++ (47 ∷ (sound.begun ++ xs))) front.is
        ∙ ap (λ (xs : List ℕ). sound.done ++ (47 ∷ xs)) (sym (append_assoc sound.begun front.piece read.1));
    place = refl;
  }

  full_faults : (at : ℕ) (bytes rest : List ℕ) → IsSoundTo text at names bytes rest → length bytes ≡ 16
      → (fault : PathFault)
      → (b : Bool) → is_name_end rest ≡ b
      → if◌then◌else◌ {A = Result (List ℕ × List ℕ) PathFault} b (Ok ([], rest)) (Err LongName) ≡ Err fault
      → HasPathFault text fault
  full_faults at bytes rest sound full fault true ends h = absurd (cc h)
  full_faults at bytes rest sound full fault false inside h =
      let same : LongName ≡ fault = cc h in
      subst (HasPathFault text) same (record { at = at; begins = OneMore text at names bytes rest sound inside full })

  -- no text of a byte stands where none is read
  none_stands : (rest : List ℕ) → byte_from rest ≡ None → (byte : ℕ) (piece more : List ℕ) → IsByteText byte piece
      → rest ≢ piece ++ more
  none_stands rest none byte piece more texts same =
      let read = (byte_from-text byte piece texts more).0 in
      let e : byte_from rest ≡ byte_from (piece ++ more) = ap byte_from same in
      absurd (cc (none, read, e))

  -- what reading the rest of a name shows
  abbrev NameFaults : ℕ → PathFault → Type 0
  NameFaults room fault = (at : ℕ) (bytes rest : List ℕ) → IsSoundTo text at names bytes rest → length bytes + room ≡ 16
      → name_from room rest ≡ Err fault → HasPathFault text fault

  later_faults : (room : ℕ) (fault : PathFault) → NameFaults room fault → (at : ℕ) (bytes rest : List ℕ)
      → IsSoundTo text at names bytes rest
      → length bytes + suc room ≡ 16 → (o : Option (ℕ × List ℕ)) → byte_from rest ≡ o → is_name_end rest ≡ false
      → with_byte o (name_from room) ≡ Err fault → HasPathFault text fault
  later_faults room fault known at bytes rest sound left None none inside h =
      let same : BadEscape ≡ fault = cc h in
      subst (HasPathFault text) same (record {
        at = at;
        begins = NoByteText text at names bytes rest sound inside
            (none_stands rest none);
      })
  later_faults room fault known at bytes rest sound left (Some read) some inside h =
      let front = byte_is rest read some in
      known (length (sound.done ++ (47 ∷ (sound.begun ++ front.piece)))) (bytes ++ read.0 ∷ []) read.1
      (sound_byte at bytes rest sound read front (omega arith)) (omega (arith, length-append bytes (read.0 ∷ [])))
      (behind_fails (read.0 ∷ []) (name_from room read.1) fault h)

  name_faults_at : (room : ℕ) (fault : PathFault) → NameFaults room fault → (at : ℕ) (bytes rest : List ℕ)
      → IsSoundTo text at names bytes rest
      → length bytes + suc room ≡ 16 → (b : Bool) → is_name_end rest ≡ b
      → (if b then Ok ([], rest) else with_byte (byte_from rest) (name_from room)) ≡ Err fault → HasPathFault text fault
  name_faults_at room fault known at bytes rest sound left true ends h = absurd (cc h)
  name_faults_at room fault known at bytes rest sound left false inside h =
      later_faults room fault known at bytes rest sound left (byte_from rest) refl inside h

  name_faults : (room : ℕ) (fault : PathFault) → NameFaults room fault
  unfolding name_from
  name_faults zero fault at bytes rest sound left h = full_faults at bytes rest sound (omega arith) fault
      (is_name_end rest) refl h
  name_faults (suc room) fault at bytes rest sound left h =
      name_faults_at room fault (name_faults room fault) at bytes rest sound left (is_name_end rest) refl h

-- what reading the rest of a path shows
abbrev PathFaults : List ℕ → PathFault → ℕ → Type 0
PathFaults text fault room = (names : List (List ℕ)) (done rest : List ℕ) → AreNameTexts names done
    → length names + suc room ≡ 64
    → text ≡ done ++ rest → is_name_end rest ≡ true → text ≢ 47 ∷ [] → names_from (suc room) rest ≡ Err fault
    → HasPathFault text fault

module _ (text : List ℕ) (fault : PathFault) (names : List (List ℕ)) (done more : List ℕ)
    (texts : AreNameTexts names done)
    (is : text ≡ done ++ (47 ∷ more)) where
  named_text : (read : List ℕ × List ℕ) (front : IsNameFront 16 more read) → filled read.0 ≢ replicate 16 0
      → IsNameText (filled read.0) front.piece
  named_text read front some = record {
    bytes = read.0;
    texts = front.texts;
    short = front.short;
    is = refl;
    some = some;
  }

  deep_faults : (read : List ℕ × List ℕ) (front : IsNameFront 16 more read) → length names ≡ 63 → (later : List ℕ)
      → read.1 ≡ later
      → names_from 0 later ≡ Err fault → HasPathFault text fault
  unfolding names_from
  deep_faults read front last [] none h = absurd (cc h)
  deep_faults read front last (slash ∷ later) same h =
      let slash_is : slash ≡ 47 = eqb-true slash 47 (ap is_name_end (sym same) ∙ front.ends) in
      let at_slash : read.1 ≡ 47 ∷ later = same ∙ ap (λ (x : ℕ). x ∷ later) slash_is in
      let fault_is : TooDeep ≡ fault = cc h in
      let sound = sound_name text names done more texts (omega arith) is 16 (omega arith) read.0 front.piece
      (47 ∷ later) front.texts front.short
      (front.is ∙ ap (λ (xs : List ℕ). front.piece ++ xs) at_slash) in
      subst (HasPathFault text) fault_is (record {
        at = length (done ++ (47 ∷ front.piece));
        begins = OneDeeper text (length (done ++ (47 ∷ front.piece))) names read.0 later sound last;
      })

  next_faults : (room : ℕ) → ((less : ℕ) → room ≡ suc less → PathFaults text fault less)
      → length names + suc room ≡ 64 → text ≢ 47 ∷ []
      → (read : List ℕ × List ℕ) (front : IsNameFront 16 more read) → filled read.0 ≢ replicate 16 0
      → names_from room read.1 ≡ Err fault
      → HasPathFault text fault
  next_faults zero known left not_root read front some h = deep_faults read front (omega arith) read.1 refl h
  next_faults (suc room) known left not_root read front some h =
      known room refl (names ++ filled read.0 ∷ []) (done ++ (47 ∷ front.piece)) read.1
      (name_texts_push names done texts (filled read.0) front.piece (named_text read front some))
      (omega (arith, length-append names (filled read.0 ∷ [])))
      (is ∙ ap (λ (xs : List ℕ). done ++ (47 ∷ xs)) front.is ∙ sym (append_assoc done (47 ∷ front.piece) read.1))
      front.ends not_root h

  some_faults : (room : ℕ) → ((less : ℕ) → room ≡ suc less → PathFaults text fault less)
      → length names + suc room ≡ 64 → text ≢ 47 ∷ []
      → (read : List ℕ × List ℕ) → IsNameFront 16 more read
      → (filled read.0 ≡ replicate 16 0) ⊎ (filled read.0 ≢ replicate 16 0)
      → with_name (Ok read) (names_from room) ≡ Err fault → HasPathFault text fault
  some_faults room known left not_root read front (inl zeros) h =
      let zero_read = with_name_zero read.0 read.1 (names_from room) zeros in
      let same : EmptyName ≡ fault = cc (zero_read, h) in
      let sound = sound_name text names done more texts (omega arith) is 16
      (omega arith) read.0 front.piece read.1 front.texts front.short front.is in
      subst (HasPathFault text) same (record {
        at = length (done ++ (47 ∷ front.piece));
        begins = NoNonzero text (length
            (done ++ (47 ∷ front.piece))) names read.0 read.1 sound front.ends zeros not_root;
      })
  some_faults room known left not_root read front (inr some) h =
      next_faults room known left not_root read front some
      (names_fail (filled read.0 ∷ []) (names_from room read.1) fault
      (sym (with_name_some read.0 read.1 (names_from room) some) ∙ h))

  read_faults : (room : ℕ) → ((less : ℕ) → room ≡ suc less → PathFaults text fault less)
      → length names + suc room ≡ 64 → text ≢ 47 ∷ []
      → (r : Result (List ℕ × List ℕ) PathFault) → name_from 16 more ≡ r → with_name r (names_from room) ≡ Err fault
      → HasPathFault text fault
  read_faults room known left not_root (Err first) failed h =
      let same : first ≡ fault = cc h in
      let sound = sound_name text names done more texts (omega arith) is 16 (omega arith) [] [] more NoByte
      (omega arith) refl in
      name_faults text names 16 fault (length (done ++ (47 ∷ []))) [] more sound (omega arith)
      (failed ∙ ap (λ (f : PathFault). Err f) same)
  read_faults room known left not_root (Ok read) ok h =
      some_faults room known left not_root read (name_is_front 16 more read ok) (zeros_or_not read.0) h

path_faults : (text : List ℕ) (fault : PathFault) (room : ℕ) → PathFaults text fault room
path_faults text fault room names done [] texts left is ends not_root h =
    let none = names_from-none (suc room) in absurd (cc (none, h))
path_faults text fault zero names done (slash ∷ more) texts left is ends not_root h =
    let slash_is : slash ≡ 47 = eqb-true slash 47 ends in
    read_faults text fault names done more texts (is ∙ ap (λ (x : ℕ). done ++ (x ∷ more)) slash_is) 0
    (λ less e. absurd (cc e)) left not_root (name_from 16 more) refl (sym (names_from-name 0 slash more) ∙ h)
path_faults text fault (suc room) names done (slash ∷ more) texts left is ends not_root h =
    let slash_is : slash ≡ 47 = eqb-true slash 47 ends in
    read_faults text fault names done more texts (is ∙ ap (λ (x : ℕ). done ++ (x ∷ more)) slash_is) (suc room)
    (λ less e. let same : room ≡ less = cc e in subst (PathFaults text fault) same (path_faults text fault room))
    left not_root (name_from 16 more) refl (sym (names_from-name (suc room) slash more) ∙ h)

first_faults : (first : ℕ) (fault : PathFault) (b : Bool) → (first == 47) ≡ b
    → if◌then◌else◌ {A = Result (List (List ℕ)) PathFault} b (Ok []) (Err NoSlash) ≡ Err fault
    → HasPathFault (first ∷ []) fault
first_faults first fault true slash h = absurd (cc h)
first_faults first fault false other h =
    let same : NoSlash ≡ fault = cc h in
    subst (HasPathFault (first ∷ [])) same (record { at = 0; begins = OtherFirst first [] (eqb-false first 47 other) })

more_faults : (first second : ℕ) (rest : List ℕ) (fault : PathFault) (b : Bool) → (first == 47) ≡ b
    → (if b then names_from 64 (first ∷ second ∷ rest) else Err NoSlash) ≡ Err fault
    → HasPathFault (first ∷ second ∷ rest) fault
more_faults first second rest fault true slash h =
    path_faults (first ∷ second ∷ rest) fault 63 [] [] (first ∷ second ∷ rest) NoName refl refl slash
    (λ e. absurd (cc e)) h
more_faults first second rest fault false other h =
    let same : NoSlash ≡ fault = cc h in
    subst (HasPathFault (first ∷ second ∷ rest)) same
    (record { at = 0; begins = OtherFirst first (second ∷ rest) (eqb-false first 47 other) })

read_has_fault : (text : List ℕ) (fault : PathFault) → path_from text ≡ Err fault → HasPathFault text fault
read_has_fault [] fault h = let same : Empty
    ≡ fault = cc h in subst (HasPathFault []) same (record { at = 0; begins = NoText })
read_has_fault (first ∷ []) fault h = first_faults first fault (first == 47) refl h
read_has_fault (first ∷ second ∷ rest) fault h = more_faults first second rest fault (first == 47) refl h

-- reading fails by the first fault, and by no other
pub first_fault : (text : List ℕ) (fault : PathFault) → path_from text ≡ Err fault → IsFirstPathFault text fault
first_fault text fault h =
    let has = read_has_fault text fault h in
    record {
      at = has.at;
      begins = has.begins;
      lowest = λ other begins.
          let read = is_read text has.at other begins in
          let same : fault ≡ read.fault = cc (h, read.read) in
          subst (λ (f : PathFault). path_fault_number f ≤ path_fault_number other) (sym same) read.low;
    }

pub fault_from : (text : List ℕ) (fault : PathFault) → IsFirstPathFault text fault → path_from text ≡ Err fault
fault_from text fault first =
    let read = is_read text first.at fault first.begins in
    let low = read.low in
    let lowest = first.lowest read.fault read.begins in
    read.read ∙ ap (λ (f : PathFault). Err f) (same_fault read.fault fault (omega arith))
