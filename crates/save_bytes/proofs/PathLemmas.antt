-- The laws of reading a path's text from the left.
use Rattle.std.proofs.Common.{◌≡◌, ◌≢◌, ℕ, zero, suc, ◌+◌, ◌-◌, ◌*◌, ◌<◌, ◌≤◌, ◌==◌, ◌&&◌, nat_lt, Bool, true, false}
use Rattle.std.proofs.Common.{bytes_eq}
use Rattle.std.proofs.Common.{List, [], ◌∷◌, ◌++◌, length, replicate, Option, Some, None, Result, Ok, Err, refl, sym}
use Rattle.std.proofs.Common.{◌∙◌, ap, subst}
use Rattle.std.proofs.Common.{arith, append_assoc, zero-add, inl, inr, ◌⊎◌, if◌then◌else◌}
use Rattle.std.proofs.lemmas.Bool.{eqb-true, ltb-true, lt-ltb, false_from_ne_true}
use Rattle.std.proofs.Math.Nat.{suc-add}
use Rattle.std.proofs.lemmas.Slice.Eq.{bytes_eq-Decides}
use Rattle.std.proofs.lemmas.List.{append-nil}
use Rattle.std.specs.Bool.{Decides}
use Rattle.std.specs.Char.{digit_value}
use Rattle.save_bytes.specs.declared.path.PathFault.{PathFault}
use Rattle.save_bytes.specs.declared.path.PathFault.TheVariants.{NoSlash, EmptyName, LongName, BadEscape, TooDeep}
use Rattle.save_bytes.specs.Paths.{filled, is_plain, IsByteText, Itself, Escape, AreByteTexts, NoByte, OneByte}
use Rattle.save_bytes.specs.Paths.{IsNameText, AreNameTexts, NoName, OneName, IsPathText}
use Rattle.save_bytes.specs.PathFaults.{is_name_end}
use Rattle.save_bytes.specs.PathReading.{escape_from, byte_from, behind_bytes, with_byte, name_from, behind_names}
use Rattle.save_bytes.specs.PathReading.{with_name, names_from, path_from}

pub behind_bytes-join : (xs ys : List ℕ) (r : Result (List ℕ × List ℕ) PathFault)
    → behind_bytes xs (behind_bytes ys r) ≡ behind_bytes (xs ++ ys) r
behind_bytes-join xs ys (Ok read) = ap (λ (bytes : List ℕ). Ok (bytes, read.1)) (sym (append_assoc xs ys read.0))
behind_bytes-join xs ys (Err fault) = refl

pub behind_names-join : (xs ys : List (List ℕ)) (r : Result (List (List ℕ)) PathFault)
    → behind_names xs (behind_names ys r) ≡ behind_names (xs ++ ys) r
behind_names-join xs ys (Ok read) = ap (λ (names : List (List ℕ)). Ok names) (sym (append_assoc xs ys read))
behind_names-join xs ys (Err fault) = refl

pub behind_bytes-none : (r : Result (List ℕ × List ℕ) PathFault) → behind_bytes [] r ≡ r
behind_bytes-none (Ok read) = refl
behind_bytes-none (Err fault) = refl

pub behind_names-none : (r : Result (List (List ℕ)) PathFault) → behind_names [] r ≡ r
behind_names-none (Ok read) = refl
behind_names-none (Err fault) = refl

-- ---- a byte

-- a byte that stands for itself ends no name
plain_is_inside : (byte : ℕ) → is_plain byte ≡ true → (byte == 47) ≡ false
plain_is_inside byte plain = grind arith

escape_picks : (high low : ℕ) (read : ℕ × List ℕ) → high < 16 → low < 16
    → (if (120 == 120 && nat_lt high 16) && nat_lt low 16 then Some read else None) ≡ Some read
escape_picks high low read h l = rw (lt-ltb high 16 h, lt-ltb low 16 l) refl

-- what is read at a text of a byte
pub byte_from-text : (byte : ℕ) (piece : List ℕ) → IsByteText byte piece → (more : List ℕ)
    → (byte_from (piece ++ more) ≡ Some (byte, more)) × (is_name_end (piece ++ more) ≡ false)
byte_from-text _ _ (Itself byte plain) more = (rw plain refl, plain_is_inside byte plain)
byte_from-text _ _ (Escape high low h l) more =
    (escape_picks (digit_value high) (digit_value low) (digit_value high * 16 + digit_value low, more) h l, refl)

-- what was read is a text of a byte
pub record IsByteFront (text : List ℕ) (read : ℕ × List ℕ) : Type 0 where
  pub piece : List ℕ
  pub texts : IsByteText read.0 piece
  pub is : text ≡ piece ++ read.1

escape_tests : (x high low : Bool) (value read : ℕ × List ℕ)
    → (if (x && high) && low then Some value else None) ≡ Some read
    → (x ≡ true) × (high ≡ true) × (low ≡ true) × (value ≡ read)
escape_tests true true true value read h = (refl, refl, refl, cc h)
escape_tests true true false value read h = absurd (cc h)
escape_tests true false low value read h = absurd (cc h)
escape_tests false high low value read h = absurd (cc h)

escape_is : (rest : List ℕ) (read : ℕ × List ℕ) → escape_from rest ≡ Some read → IsByteFront (92 ∷ rest) read
escape_is [] read h = absurd (cc h)
escape_is (x ∷ []) read h = absurd (cc h)
escape_is (x ∷ high ∷ []) read h = absurd (cc h)
escape_is (x ∷ high ∷ low ∷ more) read h =
    let parts = escape_tests (x == 120) (nat_lt (digit_value high) 16) (nat_lt (digit_value low) 16)
    (digit_value high * 16 + digit_value low, more) read h in
    let letter : x ≡ 120 = eqb-true x 120 parts.0 in
    subst (IsByteFront (92 ∷ x ∷ high ∷ low ∷ more)) parts.3 (record {
      piece = 92 ∷ 120 ∷ high ∷ low ∷ [];
      texts = Escape high low (ltb-true (digit_value high) 16 parts.1) (ltb-true (digit_value low) 16 parts.2);
      is = ap (λ (y : ℕ). 92 ∷ y ∷ high ∷ low ∷ more) letter;
    })

byte_tests : (plain slash : Bool) (itself read : ℕ × List ℕ) (escape : Option (ℕ × List ℕ))
    → (if plain then Some itself else (if slash then escape else None)) ≡ Some read
    → ((plain ≡ true) × (itself ≡ read)) ⊎ ((slash ≡ true) × (escape ≡ Some read))
byte_tests true slash itself read escape h = inl (refl, cc h)
byte_tests false true itself read escape h = inr (refl, h)
byte_tests false false itself read escape h = absurd (cc h)

pub byte_is : (text : List ℕ) (read : ℕ × List ℕ) → byte_from text ≡ Some read → IsByteFront text read
byte_is [] read h = absurd (cc h)
byte_is (first ∷ more) read h = elim
    (byte_tests (is_plain first) (first == 92) (first, more) read (escape_from more) h) [
      | inl itself ↦ subst (IsByteFront (first ∷ more)) itself.1
          (record { piece = first ∷ []; texts = Itself first itself.0; is = refl })
      | inr escape ↦
          let front = escape_is more read escape.1 in
          let slash : first ≡ 92 = eqb-true first 92 escape.0 in
          record { piece = front.piece; texts = front.texts; is = ap (λ (x : ℕ). x ∷ more) slash ∙ front.is }
    ]

-- ---- a name

-- reading ends where a name does
pub name_from-end : (room : ℕ) (rest : List ℕ) → is_name_end rest ≡ true → name_from room rest ≡ Ok ([], rest)
unfolding name_from
name_from-end zero rest e = rw e refl
name_from-end (suc room) rest e = rw e refl

-- and goes on where a byte is read
pub name_from-byte : (room : ℕ) (text : List ℕ) (byte : ℕ) (rest : List ℕ) → is_name_end text ≡ false
    → byte_from text ≡ Some (byte, rest)
    → name_from (suc room) text ≡ behind_bytes (byte ∷ []) (name_from room rest)
unfolding name_from
name_from-byte room text byte rest inside read = rw (inside, read) refl

pub name_from-full : (text : List ℕ) → is_name_end text ≡ false → name_from 0 text ≡ Err LongName
unfolding name_from
name_from-full text inside = rw inside refl

pub name_from-bad : (room : ℕ) (text : List ℕ) → is_name_end text ≡ false → byte_from text ≡ None
    → name_from (suc room) text ≡ Err BadEscape
unfolding name_from
name_from-bad room text inside bad = rw (inside, bad) refl

pub name_from-text : (bytes text : List ℕ) → AreByteTexts bytes text → (room : ℕ) (rest : List ℕ)
    → name_from (length bytes + room) (text ++ rest) ≡ behind_bytes bytes (name_from room rest)
name_from-text _ _ NoByte room rest = rw zero-add (sym (behind_bytes-none (name_from room rest)))
name_from-text _ _ (OneByte byte bytes piece text is others) room rest =
    let front = byte_from-text byte piece is (text ++ rest) in
    rw (suc-add, append_assoc) (name_from-byte (length bytes + room) (piece ++ (text ++ rest)) byte
    (text ++ rest) front.1 front.0
    ∙ ap (behind_bytes (byte ∷ [])) (name_from-text bytes text others room rest)
    ∙ behind_bytes-join (byte ∷ []) bytes (name_from room rest))

-- what was read is texts of bytes, and a name ends behind them
pub record IsNameFront (room : ℕ) (text : List ℕ) (read : List ℕ × List ℕ) : Type 0 where
  pub piece : List ℕ
  pub texts : AreByteTexts read.0 piece
  pub is : text ≡ piece ++ read.1
  pub short : length read.0 ≤ room
  pub ends : is_name_end read.1 ≡ true

name_is_none : (room : ℕ) (text : List ℕ) (read : List ℕ × List ℕ) → is_name_end text ≡ true → ([], text) ≡ read
    → IsNameFront room text read
name_is_none room text read ends same = subst (IsNameFront room text) same
    (record { piece = []; texts = NoByte; is = refl; short = omega arith; ends = ends })

name_is_joined : (room : ℕ) (text : List ℕ) (byte : ℕ × List ℕ) (read : List ℕ × List ℕ) → IsByteFront text byte
    → IsNameFront room byte.1 read → IsNameFront (suc room) text (byte.0 ∷ read.0, read.1)
name_is_joined room text byte read front more = record {
  piece = front.piece ++ more.piece;
  texts = OneByte byte.0 read.0 front.piece more.piece front.texts more.texts;
  is = front.is ∙ ap (λ (xs : List ℕ). front.piece ++ xs) more.is ∙ sym (append_assoc front.piece more.piece read.1);
  short = omega (arith, more.short);
  ends = more.ends;
}

name_is_later : (room : ℕ) (text : List ℕ) (read : List ℕ × List ℕ) (byte : ℕ × List ℕ) → IsByteFront text byte
    → (r : Result (List ℕ × List ℕ) PathFault) → ((more : List ℕ × List ℕ) → r ≡ Ok more → IsNameFront room byte.1 more)
    → behind_bytes (byte.0 ∷ []) r ≡ Ok read → IsNameFront (suc room) text read
name_is_later room text read byte front (Err fault) known h = absurd (cc h)
name_is_later room text read byte front (Ok more) known h =
    let same : (byte.0 ∷ more.0, more.1) ≡ read = cc h in
    subst (IsNameFront (suc room) text) same (name_is_joined room text byte more front (known more refl))

name_is_byte : (room : ℕ) (text : List ℕ) (read : List ℕ × List ℕ) (o : Option (ℕ × List ℕ)) → byte_from text ≡ o
    → ((later : List ℕ) (more : List ℕ × List ℕ) → name_from room later ≡ Ok more → IsNameFront room later more)
    → with_byte o (name_from room) ≡ Ok read → IsNameFront (suc room) text read
name_is_byte room text read None is known h = absurd (cc h)
name_is_byte room text read (Some byte) is known h =
    name_is_later room text read byte (byte_is text byte is) (name_from room byte.1) (known byte.1) h

name_is_full : (text : List ℕ) (read : List ℕ × List ℕ) (b : Bool) → is_name_end text ≡ b
    → (if b then Ok ([], text) else Err LongName) ≡ Ok read → IsNameFront 0 text read
name_is_full text read true ends h = name_is_none 0 text read ends (cc h)
name_is_full text read false ends h = absurd (cc h)

name_is_more : (room : ℕ) (text : List ℕ) (read : List ℕ × List ℕ) (b : Bool) → is_name_end text ≡ b
    → ((later : List ℕ) (more : List ℕ × List ℕ) → name_from room later ≡ Ok more → IsNameFront room later more)
    → (if b then Ok ([], text) else with_byte (byte_from text) (name_from room)) ≡ Ok read
    → IsNameFront (suc room) text read
name_is_more room text read true ends known h = name_is_none (suc room) text read ends (cc h)
name_is_more room text read false ends known h = name_is_byte room text read (byte_from text) refl known h

pub name_is_front : (room : ℕ) (text : List ℕ) (read : List ℕ × List ℕ) → name_from room text ≡ Ok read
    → IsNameFront room text read
unfolding name_from
name_is_front zero text read h = name_is_full text read (is_name_end text) refl h
name_is_front (suc room) text read h = name_is_more room text read (is_name_end text) refl (name_is_front room) h

-- ---- names

-- behind texts of names comes a name's end, where the text behind them is one
pub name_texts_end : (names : List (List ℕ)) (text : List ℕ) → AreNameTexts names text → (rest : List ℕ)
    → is_name_end rest ≡ true
    → is_name_end (text ++ rest) ≡ true
name_texts_end _ _ NoName rest ends = ends
name_texts_end _ _ (OneName name text names more is others) rest ends = refl

pub names_from-none : (room : ℕ) → names_from room [] ≡ Ok []
unfolding names_from
names_from-none zero = refl
names_from-none (suc room) = refl

pub names_from-name : (room : ℕ) (slash : ℕ) (rest : List ℕ)
    → names_from (suc room) (slash ∷ rest) ≡ with_name (name_from 16 rest) (names_from room)
unfolding names_from
names_from-name room slash rest = refl

pub names_from-deep : (slash : ℕ) (rest : List ℕ) → names_from 0 (slash ∷ rest) ≡ Err TooDeep
unfolding names_from
names_from-deep slash rest = refl

-- what comes of a name's bytes that are not all zero
pub with_name_some : (bytes rest : List ℕ) (later : List ℕ → Result (List (List ℕ)) PathFault)
    → filled bytes ≢ replicate 16 0
    → with_name (Ok (bytes, rest)) later ≡ behind_names (filled bytes ∷ []) (later rest)
with_name_some bytes rest later some =
    let test = bytes_eq-Decides (filled bytes) (replicate 16 0) in
    rw (false_from_ne_true (bytes_eq (filled bytes) (replicate 16 0)) (λ e. some (test.0 e))) refl

pub with_name_zero : (bytes rest : List ℕ) (later : List ℕ → Result (List (List ℕ)) PathFault)
    → filled bytes ≡ replicate 16 0
    → with_name (Ok (bytes, rest)) later ≡ Err EmptyName
with_name_zero bytes rest later zeros =
    rw ((bytes_eq-Decides (filled bytes) (replicate 16 0)).1 zeros) refl

-- the bytes of a name's text
pub name_from-name : (bytes text : List ℕ) → AreByteTexts bytes text → length bytes ≤ 16 → (rest : List ℕ)
    → is_name_end rest ≡ true
    → name_from 16 (text ++ rest) ≡ Ok (bytes, rest)
name_from-name bytes text texts short rest ends =
    let room : length bytes + (16 - length bytes) ≡ 16 = omega arith in
    let read : name_from (length bytes + (16 - length bytes)) (text ++ rest) ≡ Ok (bytes ++ [], rest) =
    name_from-text bytes text texts (16 - length bytes) rest
    ∙ ap (behind_bytes bytes) (name_from-end (16 - length bytes) rest ends) in
    rw (room, append-nil) at read

pub names_from-text : (names : List (List ℕ)) (text : List ℕ) → AreNameTexts names text → (room : ℕ) (rest : List ℕ)
    → is_name_end rest ≡ true → names_from (length names + room) (text ++ rest)
    ≡ behind_names names (names_from room rest)
names_from-text _ _ NoName room rest ends = rw zero-add (sym (behind_names-none (names_from room rest)))
names_from-text _ _ (OneName name text names more is others) room rest ends =
    let read = name_from-name is.bytes text is.texts is.short (more ++ rest)
    (name_texts_end names more others rest ends) in
    let some : filled is.bytes ≢ replicate 16 0 = rw is.is at is.some in
    let here : names_from (suc (length names + room)) (47 ∷ (text ++ (more ++ rest)))
    ≡ behind_names (filled is.bytes ∷ []) (names_from (length names + room) (more ++ rest)) =
    names_from-name (length names + room) 47 (text ++ (more ++ rest))
    ∙ ap (λ (r : Result (List ℕ × List ℕ) PathFault). with_name r (names_from (length names + room))) read
    ∙ with_name_some is.bytes (more ++ rest) (names_from (length names + room)) some in
    rw (suc-add, append_assoc) (here
    ∙ ap (behind_names (filled is.bytes ∷ [])) (names_from-text names more others room rest ends)
    ∙ behind_names-join (filled is.bytes ∷ []) names (names_from room rest)
    ∙ ap (λ (first : List ℕ). behind_names (first ∷ names) (names_from room rest)) (sym is.is))

-- what was read is texts of names
pub record AreNamesRead (room : ℕ) (text : List ℕ) (names : List (List ℕ)) : Type 0 where
  pub texts : AreNameTexts names text
  pub few : length names ≤ room

names_are_joined : (room : ℕ) (text : List ℕ) (read : List ℕ × List ℕ) (names : List (List ℕ))
    → IsNameFront 16 text read
    → filled read.0 ≢ replicate 16 0 → AreNamesRead room read.1 names
    → AreNamesRead (suc room) (47 ∷ text) (filled read.0 ∷ names)
names_are_joined room text read names front some more =
    let name : IsNameText (filled read.0) front.piece =
    record { bytes = read.0; texts = front.texts; short = front.short; is = refl; some = some } in
    record {
      texts = subst (λ (xs : List ℕ). AreNameTexts (filled read.0 ∷ names) (47 ∷ xs)) (sym front.is)
          (OneName (filled read.0) front.piece names read.1 name more.texts);
      few = omega (arith, more.few);
    }

names_are_later : (room : ℕ) (text : List ℕ) (read : List ℕ × List ℕ) (names : List (List ℕ)) → IsNameFront 16 text read
    → filled read.0 ≢ replicate 16 0 → (r : Result (List (List ℕ)) PathFault)
    → ((more : List (List ℕ)) → r ≡ Ok more → AreNamesRead room read.1 more)
    → behind_names (filled read.0 ∷ []) r ≡ Ok names → AreNamesRead (suc room) (47 ∷ text) names
names_are_later room text read names front some (Err fault) known h = absurd (cc h)
names_are_later room text read names front some (Ok more) known h =
    let same : filled read.0 ∷ more ≡ names = cc h in
    subst (AreNamesRead (suc room) (47 ∷ text)) same (names_are_joined room text read more front some (known more refl))

names_are_some : (room : ℕ) (text : List ℕ) (names : List (List ℕ)) (read : List ℕ × List ℕ) → IsNameFront 16 text read
    → ((later : List ℕ) (more : List (List ℕ)) → is_name_end later ≡ true → names_from room later ≡ Ok more
    → AreNamesRead room later more)
    → (filled read.0 ≡ replicate 16 0) ⊎ (filled read.0 ≢ replicate 16 0)
    → with_name (Ok read) (names_from room) ≡ Ok names → AreNamesRead (suc room) (47 ∷ text) names
names_are_some room text names read front known (inl zeros) h =
    let e = with_name_zero read.0 read.1 (names_from room) zeros in absurd (cc (e, h))
names_are_some room text names read front known (inr some) h =
    names_are_later room text read names front some (names_from room read.1) (λ more e. known read.1 more front.ends e)
    (sym (with_name_some read.0 read.1 (names_from room) some) ∙ h)

-- all zero, or not
decided : (b : Bool) (P : Type 0) → Decides b P → P ⊎ (P → ⊥)
decided true P d = inl (d.0 refl)
decided false P d = inr (λ p. let e : false ≡ true = d.1 p in absurd (cc e))

pub zeros_or_not : (bytes : List ℕ) → (filled bytes ≡ replicate 16 0) ⊎ (filled bytes ≢ replicate 16 0)
zeros_or_not bytes = decided (bytes_eq (filled bytes) (replicate 16 0)) (filled bytes ≡ replicate 16 0)
    (bytes_eq-Decides (filled bytes) (replicate 16 0))

names_are_name : (room : ℕ) (text : List ℕ) (names : List (List ℕ)) (r : Result (List ℕ × List ℕ) PathFault)
    → name_from 16 text ≡ r
    → ((later : List ℕ) (more : List (List ℕ)) → is_name_end later ≡ true → names_from room later ≡ Ok more
    → AreNamesRead room later more)
    → with_name r (names_from room) ≡ Ok names → AreNamesRead (suc room) (47 ∷ text) names
names_are_name room text names (Err fault) is known h = absurd (cc h)
names_are_name room text names (Ok read) is known h =
    names_are_some room text names read (name_is_front 16 text read is) known (zeros_or_not read.0) h

pub names_are : (room : ℕ) (text : List ℕ) (names : List (List ℕ)) → is_name_end text ≡ true
    → names_from room text ≡ Ok names
    → AreNamesRead room text names
unfolding names_from
names_are zero [] names ends h = let same : [] ≡ names = cc h in
    subst (AreNamesRead 0 []) same (record { texts = NoName; few = omega arith })
names_are zero (slash ∷ rest) names ends h = absurd (cc h)
names_are (suc room) [] names ends h = let same : [] ≡ names = cc h in
    subst (AreNamesRead (suc room) []) same (record { texts = NoName; few = omega arith })
names_are (suc room) (slash ∷ rest) names ends h =
    let slash_is : slash ≡ 47 = eqb-true slash 47 ends in
    subst (λ (x : ℕ). AreNamesRead (suc room) (x ∷ rest) names) (sym slash_is)
    (names_are_name room rest names (name_from 16 rest) refl (names_are room) h)

-- ---- a path

-- a text of more than `/` is read as names
pub path_from-names : (text : List ℕ) → is_name_end text ≡ true → text ≢ [] → text ≢ 47 ∷ []
    → path_from text ≡ names_from 64 text
path_from-names [] ends some more = absurd (some refl)
path_from-names (first ∷ []) ends some more = absurd (more (ap (λ (x : ℕ). x ∷ []) (eqb-true first 47 ends)))
path_from-names (first ∷ second ∷ rest) ends some more = rw ends refl

root_names : names_from 64 (47 ∷ []) ≡ Err EmptyName
root_names = names_from-name 63 47 []
    ∙ ap (λ (r : Result (List ℕ × List ℕ) PathFault). with_name r (names_from 63)) (name_from-end 16 [] refl)
    ∙ with_name_zero [] [] (names_from 63) refl

name_texts_begin : (name : List ℕ) (names : List (List ℕ)) (text : List ℕ) → AreNameTexts (name ∷ names) text
    → (is_name_end text ≡ true) × (text ≢ [])
name_texts_begin _ _ _ (OneName name text names more is others) = (refl, λ e. absurd (cc e))

-- each text of a path is read as the path
pub path_from-text : (names : List (List ℕ)) (text : List ℕ) → IsPathText names text → path_from text ≡ Ok names
path_from-text [] text h = ap path_from h
path_from-text (name ∷ names) text h =
    let room : length (name ∷ names) + (64 - length (name ∷ names)) ≡ 64 = omega (arith, h.0) in
    let all : names_from (length (name ∷ names) + (64 - length (name ∷ names))) (text ++ [])
    ≡ Ok ((name ∷ names) ++ []) =
    names_from-text (name ∷ names) text h.1 (64 - length (name ∷ names)) [] refl
    ∙ ap (behind_names (name ∷ names)) (names_from-none (64 - length (name ∷ names))) in
    let read : names_from 64 text ≡ Ok (name ∷ names) = rw (room, append-nil text, append-nil (name ∷ names)) at all in
    let begins = name_texts_begin name names text h.1 in
    let root = root_names in
    path_from-names text begins.0 begins.1
    (λ e. let f : names_from 64 text
    ≡ names_from 64 (47 ∷ []) = ap (names_from 64) e in absurd (cc (f, read, root)))
    ∙ read

no_names_text : (names : List (List ℕ)) (text : List ℕ) → AreNameTexts names text → names ≡ [] → text ≡ []
no_names_text _ _ NoName e = refl
no_names_text _ _ (OneName name text names more is others) e = absurd (cc e)

names_are_path : (names : List (List ℕ)) (text : List ℕ) → text ≢ [] → AreNamesRead 64 text names
    → IsPathText names text
names_are_path [] text some read = absurd (some (no_names_text [] text read.texts refl))
names_are_path (name ∷ names) text some read = (read.few, read.texts)

root_is : (first : ℕ) (names : List (List ℕ)) (b : Bool) → (first == 47) ≡ b
    → (if b then Ok [] else Err NoSlash) ≡ Ok names → IsPathText names (first ∷ [])
root_is first names true slash h =
    let same : [] ≡ names = cc h in
    subst (λ (n : List (List ℕ)). IsPathText n (first ∷ [])) same (ap (λ (x : ℕ). x ∷ []) (eqb-true first 47 slash))
root_is first names false slash h = absurd (cc h)

path_is_names : (first : ℕ) (more : List ℕ) (names : List (List ℕ)) (b : Bool) → (first == 47) ≡ b
    → (if b then names_from 64 (first ∷ more) else Err NoSlash) ≡ Ok names → IsPathText names (first ∷ more)
path_is_names first more names true slash h = names_are_path names (first ∷ more) (λ e. absurd (cc e))
    (names_are 64 (first ∷ more) names slash h)
path_is_names first more names false slash h = absurd (cc h)

-- what is read as a path is a text of it
pub path_is : (text : List ℕ) (names : List (List ℕ)) → path_from text ≡ Ok names → IsPathText names text
path_is [] names h = absurd (cc h)
path_is (first ∷ []) names h = root_is first names (first == 47) refl h
path_is (first ∷ second ∷ rest) names h = path_is_names first (second ∷ rest) names (first == 47) refl h
