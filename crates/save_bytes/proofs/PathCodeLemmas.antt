-- What the steps of reading and writing a path come to.
use Rattle.std.proofs.Common.{◌≡◌, ◌≢◌, ℕ, zero, suc, ◌+◌, ◌-◌, ◌*◌, ◌<◌, ◌≤◌, ◌==◌, Bool, true, false}
use Rattle.std.proofs.Common.{List, [], ◌∷◌, ◌++◌, length, take, drop, set, replicate, get_or, Some, None, Result, Ok}
use Rattle.std.proofs.Common.{Err, refl, sym, ◌∙◌, ap, subst}
use Rattle.std.proofs.Common.{arith, append_assoc, length-append, map, if◌then◌else◌}
use Rattle.std.proofs.Common.{◌/◌, ◌%◌, add-one, drop-cons, length-take-le, get_or-take}
use Rattle.std.proofs.lemmas.Bool.{eqb-true, false_from_ne_true}
use Rattle.std.proofs.lemmas.Str.{digit_value-digit_char}
use Rattle.std.proofs.lemmas.List.{append-nil, drop-drop, drop_all, length-take, get_or_append_left, take_more}
use Rattle.std.proofs.lemmas.List.{take_more_set}
use Rattle.std.proofs.lemmas.List.Elements.{All-push, All-head, All-tail}
use Rattle.std.specs.List.{All, flat_map}
use Rattle.std.specs.Char.{digit_value, digit_char}
use Rattle.save_bytes.specs.declared.name.Name.{Name}
use Rattle.save_bytes.specs.declared.path.PathFault.{PathFault}
use Rattle.save_bytes.specs.declared.path.PathFault.TheVariants.{EmptyName, LongName, BadEscape, TooDeep}
use Rattle.save_bytes.specs.Paths.{IsName, IsPath, filled, is_plain, IsByteText, Itself, Escape, AreByteTexts, NoByte}
use Rattle.save_bytes.specs.Paths.{OneByte, IsNameText, AreNameTexts, NoName, OneName, IsPathText, last_used}
use Rattle.save_bytes.specs.Paths.{byte_text, name_text, path_text}
use Rattle.save_bytes.specs.PathFaults.{is_name_end}
use Rattle.save_bytes.specs.PathReading.{byte_from, behind_bytes, name_from, behind_names, with_name, names_from}
use Rattle.save_bytes.proofs.PathLemmas.{behind_bytes-join, behind_names-join, name_from-end, name_from-byte}
use Rattle.save_bytes.proofs.PathLemmas.{name_from-full, name_from-bad}
use Rattle.save_bytes.proofs.PathLemmas.{names_from-none, names_from-name, names_from-deep, with_name_zero}
use Rattle.save_bytes.proofs.PathLemmas.{with_name_some}

-- one more name
pub IsPath-push : (names : List (List ℕ)) (name : List ℕ) → IsPath names → length names < 64 → IsName name
    → IsPath (names ++ name ∷ [])
IsPath-push names name path room is = record {
  few = rw length-append (omega arith);
  named = All-push IsName names name path.named is;
}

-- one name less
pub IsPath-front : (names rest : List (List ℕ)) → IsPath (names ++ rest) → IsPath names
IsPath-front names rest path =
    let few = path.few in
    record {
      few = omega (arith, length-append names rest);
      named = λ k d h. subst IsName (get_or_append_left names rest d k h)
          (path.named k d (omega (arith, length-append names rest)));
    }

used_step : (used more all first : ℕ) (b : Bool) → more ≡ (if b then used else all + 1)
    → (if more == 0 then (if first == 0 then 0 else 1) else more + 1)
    ≡ (if b then (if used == 0 then (if first == 0 then 0 else 1) else used + 1) else suc all + 1)
used_step used more all first true e = rw e refl
used_step used more all first false e = rw e (grind arith)

-- a last byte is the last that is used, or is zero
pub last_used-push : (bytes : List ℕ) (byte : ℕ)
    → last_used (bytes ++ byte ∷ []) ≡ (if byte == 0 then last_used bytes else length bytes + 1)
last_used-push [] byte = refl
last_used-push (first ∷ bytes) byte =
    used_step (last_used bytes) (last_used (bytes ++ byte ∷ [])) (length bytes) first (byte == 0)
    (last_used-push bytes byte)

pub used_more : (bytes : List ℕ) (i : ℕ) → i < length bytes
    → last_used (take (i + 1) bytes) ≡ (if get_or bytes i 0 == 0 then last_used (take i bytes) else i + 1)
used_more bytes i within =
    let long : length (take i bytes) ≡ i = length-take-le i bytes (omega arith) in
    ap last_used (take_more bytes i 0 within) ∙ last_used-push (take i bytes) (get_or bytes i 0)
    ∙ ap (λ (n : ℕ). if get_or bytes i 0 == 0 then last_used (take i bytes) else n + 1) long

-- ---- the bytes of a name, read one by one

module _ (text : List ℕ) (at count : ℕ) (bytes : List ℕ)
    (read : name_from 16 text ≡ behind_bytes (take count bytes) (name_from (16 - count) (drop at text))) where
  pub name_full : count ≡ 16 → is_name_end (drop at text) ≡ false → name_from 16 text ≡ Err LongName
  name_full full inside =
      let none : 16 - count ≡ 0 = omega arith in
      read ∙ ap (behind_bytes (take count bytes))
      (ap (λ (n : ℕ). name_from n (drop at text)) none ∙ name_from-full (drop at text) inside)

  pub name_bad : count < 16 → is_name_end (drop at text) ≡ false → byte_from (drop at text) ≡ None
      → name_from 16 text ≡ Err BadEscape
  name_bad room inside bad =
      let left : 16 - count ≡ suc (15 - count) = omega arith in
      read ∙ ap (behind_bytes (take count bytes))
      (ap (λ (n : ℕ). name_from n (drop at text)) left ∙ name_from-bad (15 - count) (drop at text) inside bad)

  pub name_done : is_name_end (drop at text) ≡ true → name_from 16 text ≡ Ok (take count bytes, drop at text)
  name_done ends = read ∙ ap (behind_bytes (take count bytes)) (name_from-end (16 - count) (drop at text) ends)
      ∙ ap (λ (b : List ℕ). Ok (b, drop at text)) (append-nil (take count bytes))

  pub name_more : count < 16 → length bytes ≡ 16 → is_name_end (drop at text) ≡ false → (byte taken : ℕ)
      → byte_from (drop at text) ≡ Some (byte, drop taken (drop at text))
      → name_from 16 text ≡ behind_bytes (take (count + 1) (set bytes count byte))
      (name_from (16 - (count + 1)) (drop (at + taken) text))
  name_more room long inside byte taken some =
      let left : 16 - count ≡ suc (16 - (count + 1)) = omega arith in
      let more : take (count + 1) (set bytes count byte)
      ≡ take count bytes ++ byte ∷ [] = take_more_set bytes count byte (omega arith) in
      let rest : drop taken (drop at text) ≡ drop (at + taken) text = drop-drop taken at text in
      rw (more, ← rest) (read
      ∙ ap (behind_bytes (take count bytes)) (ap (λ (n : ℕ). name_from n (drop at text)) left
      ∙ name_from-byte (16 - (count + 1)) (drop at text) byte (drop taken (drop at text)) inside some)
      ∙ behind_bytes-join (take count bytes) (byte ∷ []) (name_from (16 - (count + 1)) (drop taken (drop at text))))

set_behind : (xs ys : List ℕ) (old new : ℕ) → set (xs ++ (old ∷ ys)) (length xs) new ≡ xs ++ (new ∷ ys)
set_behind [] ys old new = refl
set_behind (x ∷ xs) ys old new = ap (λ (zs : List ℕ). x ∷ zs) (set_behind xs ys old new)

-- zeros fill the bytes so far also with one more
pub filled_more : (bytes : List ℕ) (count byte : ℕ) → length bytes ≡ 16 → count < 16 → bytes ≡ filled (take count bytes)
    → set bytes count byte ≡ filled (take (count + 1) (set bytes count byte))
filled_more bytes count byte long room is =
    let front = take count bytes in
    let front_long : length front ≡ count = length-take-le count bytes (omega arith) in
    let more : take (count + 1) (set bytes count byte)
    ≡ front ++ byte ∷ [] = take_more_set bytes count byte (omega arith) in
    let rest = replicate (15 - count) 0 in
    let some : 16 - length front ≡ suc (15 - count) = omega arith in
    let split : bytes ≡ front ++ (0 ∷ rest) = is ∙ ap (λ (n : ℕ). front ++ replicate n 0) some in
    let left : 16 - length (front ++ byte ∷ []) ≡ 15 - count = omega (arith, length-append front (byte ∷ [])) in
    ap (λ (xs : List ℕ). set xs count byte) split
    ∙ ap (λ (n : ℕ). set (front ++ (0 ∷ rest)) n byte) (sym front_long)
    ∙ set_behind front rest 0 byte
    ∙ sym (append_assoc front (byte ∷ []) rest)
    ∙ ap (λ (n : ℕ). (front ++ byte ∷ []) ++ replicate n 0) (sym left)
    ∙ ap filled (sym more)

-- ---- the names of a path, read one by one

module _ (text : List ℕ) (at : ℕ) (path : List (List ℕ))
    (read : names_from 64 text ≡ behind_names path (names_from (64 - length path) (drop at text))) where
  pub names_deep : length path ≡ 64 → at < length text → names_from 64 text ≡ Err TooDeep
  names_deep full more =
      let none : 64 - length path ≡ 0 = omega arith in
      read ∙ ap (behind_names path) (ap (λ (n : ℕ). names_from n (drop at text)) none
      ∙ ap (names_from 0) (drop-cons text at 0 more)
      ∙ names_from-deep (get_or text at 0) (drop (suc at) text))

  names_next : length path < 64 → at < length text
      → names_from 64 text ≡ behind_names path
      (with_name (name_from 16 (drop (at + 1) text)) (names_from (64 - (length path + 1))))
  names_next room more =
      let left : 64 - length path ≡ suc (64 - (length path + 1)) = omega arith in
      rw add-one (read ∙ ap (behind_names path) (ap (λ (n : ℕ). names_from n (drop at text)) left
      ∙ ap (names_from (suc (64 - (length path + 1)))) (drop-cons text at 0 more)
      ∙ names_from-name (64 - (length path + 1)) (get_or text at 0) (drop (suc at) text)))

  pub names_fault : length path < 64 → at < length text → (fault : PathFault)
      → name_from 16 (drop (at + 1) text) ≡ Err fault
      → names_from 64 text ≡ Err fault
  names_fault room more fault failed = names_next room more
      ∙ ap (λ (r : Result (List ℕ × List ℕ) PathFault). behind_names path
      (with_name r (names_from (64 - (length path + 1))))) failed

  pub names_zero : length path < 64 → at < length text → (bytes rest : List ℕ)
      → name_from 16 (drop (at + 1) text) ≡ Ok (bytes, rest)
      → filled bytes ≡ replicate 16 0 → names_from 64 text ≡ Err EmptyName
  names_zero room more bytes rest named zeros = names_next room more
      ∙ ap (λ (r : Result (List ℕ × List ℕ) PathFault). behind_names path
      (with_name r (names_from (64 - (length path + 1))))) named
      ∙ ap (behind_names path) (with_name_zero bytes rest (names_from (64 - (length path + 1))) zeros)

  pub names_more : length path < 64 → at < length text → (bytes : List ℕ) (taken : ℕ)
      → name_from 16 (drop (at + 1) text) ≡ Ok (bytes, drop taken (drop (at + 1) text))
      → filled bytes ≢ replicate 16 0 → names_from 64 text
      ≡ behind_names (path ++ filled bytes ∷ [])
      (names_from (64 - length (path ++ filled bytes ∷ [])) (drop (at + (1 + taken)) text))
  names_more room more bytes taken named some =
      let rest = drop taken (drop (at + 1) text) in
      let rest_is : rest ≡ drop (at + (1 + taken)) text =
      drop-drop taken (at + 1) text ∙ ap (λ (n : ℕ). drop n text)
      (let same : (at + 1) + taken ≡ at + (1 + taken) = omega arith in same) in
      let long : length (path ++ filled bytes ∷ []) ≡ length path + 1 = rw length-append refl in
      rw (long, ← rest_is) (names_next room more
      ∙ ap (λ (r : Result (List ℕ × List ℕ) PathFault). behind_names path
      (with_name r (names_from (64 - (length path + 1))))) named
      ∙ ap (behind_names path) (with_name_some bytes rest (names_from (64 - (length path + 1))) some)
      ∙ behind_names-join path (filled bytes ∷ []) (names_from (64 - (length path + 1)) rest))

  pub names_done : length text ≤ at → names_from 64 text ≡ Ok path
  names_done all = read ∙ ap (behind_names path)
      (ap (names_from (64 - length path)) (drop_all at text all) ∙ names_from-none (64 - length path))
      ∙ ap (λ (names : List (List ℕ)). Ok names) (append-nil path)

-- ---- the canonical text

byte_text_is : (byte : ℕ) (b : Bool) → is_plain byte ≡ b → byte < 256 → IsByteText byte (byte_text byte)
byte_text_is byte true plain small = rw plain (Itself byte plain)
byte_text_is byte false escaped small =
    let high = digit_value-digit_char (byte / 16) (omega arith) in
    let low = digit_value-digit_char (byte % 16) (omega arith) in
    let whole : digit_value (digit_char (byte / 16)) * 16 + digit_value (digit_char (byte % 16)) ≡ byte = omega arith in
    rw escaped (subst (λ (x : ℕ). IsByteText x (92 ∷ 120 ∷ digit_char (byte / 16) ∷ digit_char (byte % 16) ∷ [])) whole
    (Escape (digit_char (byte / 16)) (digit_char (byte % 16)) (omega arith) (omega arith)))

bytes_text_is : (bytes : List ℕ) → ((k : ℕ) → k < length bytes → get_or bytes k 0 < 256)
    → AreByteTexts bytes (flat_map byte_text bytes)
bytes_text_is [] small = NoByte
bytes_text_is (byte ∷ bytes) small =
    OneByte byte bytes (byte_text byte) (flat_map byte_text bytes)
    (byte_text_is byte (is_plain byte) refl (small 0 (omega arith)))
    (bytes_text_is bytes (λ k h. small (suc k) (omega arith)))

pub last_used-le : (bytes : List ℕ) → last_used bytes ≤ length bytes
last_used-le [] = omega arith
last_used-le (byte ∷ bytes) = let less = last_used-le bytes in grind arith

zeros_step : (byte : ℕ) (bytes : List ℕ) (used : ℕ) → take used bytes ++ replicate (length bytes - used) 0 ≡ bytes
    → (zero_byte : Bool)
    → (byte == 0) ≡ zero_byte
    → take (if used == 0 then (if zero_byte then 0 else 1) else used + 1) (byte ∷ bytes)
    ++ replicate (suc (length bytes) - (if used == 0 then (if zero_byte then 0 else 1) else used + 1)) 0 ≡ byte ∷ bytes
zeros_step byte bytes zero h true is =
    let whole : suc (length bytes) - 0 ≡ suc (length bytes) = omega arith in
    let all : length bytes ≡ length bytes - 0 = omega arith in
    ap (λ (n : ℕ). replicate n 0) whole ∙ ap (λ (n : ℕ). 0 ∷ replicate n 0) all ∙ ap (λ (xs : List ℕ). 0 ∷ xs) h
    ∙ ap (λ (x : ℕ). x ∷ bytes) (sym (eqb-true byte 0 is))
zeros_step byte bytes zero h false is =
    let all : suc (length bytes) - 1 ≡ length bytes - 0 = omega arith in
    ap (λ (n : ℕ). byte ∷ replicate n 0) all ∙ ap (λ (xs : List ℕ). byte ∷ xs) h
zeros_step byte bytes (suc used) h zero_byte is =
    let more : suc used + 1 ≡ suc (suc used) = omega arith in
    let left : suc (length bytes) - suc (suc used) ≡ length bytes - suc used = omega arith in
    let ne : (suc used == 0) ≡ false =
    false_from_ne_true (suc used == 0)
    (λ e. let same : suc used ≡ 0 = eqb-true (suc used) 0 e in absurd (omega arith)) in
    rw (ne, more, left) (ap (λ (xs : List ℕ). byte ∷ xs) h)

zeros_behind : (bytes : List ℕ) → take (last_used bytes) bytes ++ replicate (length bytes - last_used bytes) 0 ≡ bytes
zeros_behind [] = refl
zeros_behind (byte ∷ bytes) = zeros_step byte bytes (last_used bytes) (zeros_behind bytes) (byte == 0) refl

name_text_is : (name : List ℕ) → IsName name → IsNameText name (name_text name)
name_text_is name is =
    let short = last_used-le name in
    let long = is.long in
    record {
      bytes = take (last_used name) name;
      texts = bytes_text_is (take (last_used name) name)
          (λ k h. rw (get_or-take (last_used name) name k 0 (omega (arith, length-take (last_used name) name)))
          (is.bytes k));
      short = omega (arith, length-take (last_used name) name);
      is = sym (ap (λ (n : ℕ). take (last_used name) name ++ replicate n 0)
          (let left : 16 - length (take (last_used name) name)
          ≡ length name - last_used name = omega (arith, length-take (last_used name) name) in left)
          ∙ zeros_behind name);
      some = is.some;
    }

names_text_are : (names : List (List ℕ)) → All IsName names
    → AreNameTexts names (flat_map (λ name. 47 ∷ name_text name) names)
names_text_are [] named = NoName
names_text_are (name ∷ names) named = OneName name (name_text name) names (flat_map (λ n. 47 ∷ name_text n) names)
    (name_text_is name (All-head IsName name names named)) (names_text_are names (All-tail IsName name names named))

-- the canonical text stands for its path
pub path_text_is : (names : List (List ℕ)) → IsPath names → IsPathText names (path_text names)
path_text_is [] path = refl
path_text_is (name ∷ names) path = (path.few, names_text_are (name ∷ names) path.named)

texts_are : (names : List Name)
    → flat_map (λ (name : Name). 47 ∷ name_text name.0) names
    ≡ flat_map (λ name. 47 ∷ name_text name) (map (λ name. name.0) names)
texts_are [] = refl
texts_are (name ∷ names) = ap (λ (xs : List ℕ). (47 ∷ name_text name.0) ++ xs) (texts_are names)

-- the texts of some names, as one puts them out
pub texts_of : (names : List Name) → names ≢ []
    → flat_map (λ (name : Name). 47 ∷ name_text name.0) names ≡ path_text (map (λ name. name.0) names)
texts_of [] some = absurd (some refl)
texts_of (name ∷ names) some = ap (λ (xs : List ℕ). (47 ∷ name_text name.0) ++ xs) (texts_are names)
