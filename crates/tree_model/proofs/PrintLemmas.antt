-- Printed replies are whole, and what said bytes acknowledge.
use Rattle.std.proofs.Common.{◌≡◌, ◌≢◌, ℕ, ◌+◌, ◌/◌, ◌%◌, Bool, true, false, nat_lt}
use Rattle.std.proofs.Common.{List, [], ◌∷◌, ◌++◌, length, take, codes, refl, sym, ◌∙◌, ap, arith, append_assoc, ⊎_elim}
use Rattle.std.proofs.Common.{if◌then◌else◌}
use Rattle.std.proofs.lemmas.Bool.{cases_Bool, both_ways}
use Rattle.std.proofs.lemmas.List.{append-nil}
use Rattle.std.proofs.lemmas.List.Elements.{All-nil, All-cons, All-append, All-head, All-tail}
use Rattle.std.proofs.lemmas.List.Sums.{sum_by-cons}
use Rattle.std.proofs.lemmas.Slice.Eq.{bytes_eq-Decides}
use Rattle.std.specs.Char.{digit_char}
use Rattle.std.specs.Fmt.{decimal}
use Rattle.std.specs.List.{All, flat_map, count_by}
use Rattle.std.specs.Str.{bytes_eq}
use Rattle.save_bytes.specs.Paths.{is_plain, byte_text, name_text, path_text, last_used}
use Rattle.tree_model.specs.declared.listing.Row.{Row}
use Rattle.tree_model.specs.declared.listing.Row.TheVariants.{Dir, File, Link}
use Rattle.tree_model.specs.declared.refusal.Refusal.{Refusal}
use Rattle.tree_model.specs.declared.refusal.Refusal.TheVariants.{BadPath, NoParent, NotFound, Exists, NotEmpty, Full}
use Rattle.tree_model.specs.declared.refusal.Refusal.TheVariants.{Damaged, WrongKind, IsRoot, NoMemory, Changed}
use Rattle.save_bytes.specs.PathFaults.{path_fault_number}
use Rattle.tree_model.specs.Lines.{full_number, number_text, named_line, refusal_line}
use Rattle.tree_model.specs.Answers.{TreeReply, Rows, RoomIs, FileIs, Done, Refused}
use Rattle.tree_model.specs.Commands.{Lacks}
use Rattle.tree_model.specs.Transcripts.{Reply, Answered, Committed, Aborted, Ended, BadLine, EarlyEnd, LongScript}
use Rattle.tree_model.specs.Transcripts.{counted_line, row_line, answer_text, reply_text, transcript, IsLine, AreLines}
use Rattle.tree_model.specs.Transcripts.{IsWholeReply, WithBytes, WithLines, Alone, NoReply, OneReply}
use Rattle.tree_model.specs.Transcripts.{is_commit, IsAcknowledged, IsPrintable, is_committed}
use Rattle.tree_model.proofs.NumberLemmas.{decimal_lacks}
use Rattle.tree_model.proofs.TranscriptLemmas.{text_lacks, counted_is_line, whole_same, cut_same}

abbrev IsOther : ℕ → Type 0
IsOther byte = byte ≢ 10

-- ---- texts without a line feed

flat_map_lacks : {A : Type 0} (f : A → List ℕ) → ((a : A) → Lacks 10 (f a)) → (all : List A) → Lacks 10 (flat_map f all)
flat_map_lacks f each [] = All-nil IsOther
flat_map_lacks f each (a ∷ all) = All-append IsOther (f a) (flat_map f all) (each a) (flat_map_lacks f each all)

number_lacks : (n : ℕ) → Lacks 10 (number_text n)
number_lacks n = All-cons IsOther 32 (decimal n) (λ is. omega (arith, is)) (decimal_lacks 10 (omega arith) n)

digit_char_lacks : (d : ℕ) → digit_char d ≢ 10
digit_char_lacks d is =
    ⊎_elim (λ (small : nat_lt d 10 ≡ true). let it = rw small at is in omega (arith, it))
    (λ (large : nat_lt d 10 ≡ false). let it = rw large at is in omega (arith, it)) (cases_Bool (nat_lt d 10))

byte_lacks : (byte : ℕ) → Lacks 10 (byte_text byte)
byte_lacks byte =
    ⊎_elim
    (λ (plain : is_plain byte ≡ true).
    rw plain (All-cons IsOther byte [] (λ is. both_ways (is_plain byte) (ap is_plain is) plain) (All-nil IsOther)))
    (λ (escaped : is_plain byte ≡ false).
    let high = digit_char (byte / 16) in
    let low = digit_char (byte % 16) in
    rw escaped (All-cons IsOther 92 (120 ∷ high ∷ low ∷ []) (λ is. omega (arith, is))
    (All-cons IsOther 120 (high ∷ low ∷ []) (λ is. omega (arith, is))
    (All-cons IsOther high (low ∷ []) (digit_char_lacks (byte / 16))
    (All-cons IsOther low [] (digit_char_lacks (byte % 16)) (All-nil IsOther))))))
    (cases_Bool (is_plain byte))

name_lacks : (name : List ℕ) → Lacks 10 (47 ∷ name_text name)
name_lacks name =
    All-cons IsOther 47 (name_text name) (λ is. omega (arith, is))
    (flat_map_lacks byte_text byte_lacks (take (last_used name) name))

path_lacks : (names : List (List ℕ)) → Lacks 10 (path_text names)
path_lacks [] = text_lacks 10 (47 ∷ []) refl
path_lacks (name ∷ names) = flat_map_lacks (λ n. 47 ∷ name_text n) name_lacks (name ∷ names)

-- ---- the lines of rows

row_is_line : (row : Row) → IsLine (row_line row)
row_is_line (Dir path) = record {
  content = codes "dir " ++ path_text path;
  lacks = All-append IsOther (codes "dir ") (path_text path) (text_lacks 10 (codes "dir ") refl) (path_lacks path);
  is = simp append_assoc;
}
row_is_line (File path size) = counted_is_line (codes "file " ++ path_text path)
    (All-append IsOther (codes "file ") (path_text path) (text_lacks 10 (codes "file ") refl) (path_lacks path)) size
row_is_line (Link path id) = counted_is_line (codes "link " ++ path_text path)
    (All-append IsOther (codes "link ") (path_text path) (text_lacks 10 (codes "link ") refl) (path_lacks path)) id

rows_are_lines : (rows : List Row) → AreLines (length rows) (flat_map row_line rows)
rows_are_lines [] = refl
rows_are_lines (row ∷ rows) =
    (row_line row, flat_map row_line rows, row_is_line row, rows_are_lines rows, refl)

-- ---- each printed reply is whole

-- a line that does not begin as the first line of bytes or rows
alone : (line : List ℕ) → IsLine line → bytes_eq (take 3 line) (codes "dat") ≡ false
    → bytes_eq (take 3 line) (codes "row") ≡ false → IsWholeReply line
alone line is_line no_data no_rows = Alone line is_line
    (λ n small is. both_ways (bytes_eq (take 3 line) (codes "dat")) no_data
    ((bytes_eq-Decides (take 3 line) (codes "dat")).1 (ap (take 3) is)))
    (λ n small is. both_ways (bytes_eq (take 3 line) (codes "row")) no_rows
    ((bytes_eq-Decides (take 3 line) (codes "row")).1 (ap (take 3) is)))

-- a name and numbers
numbers_line : (name : List ℕ) → Lacks 10 name → (numbers : List ℕ)
    → IsLine (name ++ flat_map number_text numbers ++ codes "\n")
numbers_line name lacks numbers = record {
  content = name ++ flat_map number_text numbers;
  lacks = All-append IsOther name (flat_map number_text numbers) lacks
      (flat_map_lacks number_text number_lacks numbers);
  is = simp append_assoc;
}

refused_whole : (name : List ℕ) → Lacks 10 name → (numbers : List ℕ) → IsWholeReply (named_line name numbers)
refused_whole name lacks numbers =
    alone (named_line name numbers)
    (record {
      content = codes "refused " ++ name ++ flat_map number_text numbers;
      lacks = All-append IsOther (codes "refused ") (name ++ flat_map number_text numbers)
          (text_lacks 10 (codes "refused ") refl)
          (All-append IsOther name (flat_map number_text numbers) lacks
          (flat_map_lacks number_text number_lacks numbers));
      is = simp append_assoc;
    }) refl refl

refusal_whole : (refusal : Refusal) → IsWholeReply (refusal_line refusal)
refusal_whole (BadPath fault) = refused_whole (codes "BadPath") (text_lacks 10 (codes "BadPath") refl)
    (path_fault_number fault ∷ [])
refusal_whole NoParent = refused_whole (codes "NoParent") (text_lacks 10 (codes "NoParent") refl) []
refusal_whole NotFound = refused_whole (codes "NotFound") (text_lacks 10 (codes "NotFound") refl) []
refusal_whole Exists = refused_whole (codes "Exists") (text_lacks 10 (codes "Exists") refl) []
refusal_whole NotEmpty = refused_whole (codes "NotEmpty") (text_lacks 10 (codes "NotEmpty") refl) []
refusal_whole (Full kind need have) = refused_whole (codes "Full") (text_lacks 10 (codes "Full") refl)
    (full_number kind ∷ need ∷ have ∷ [])
refusal_whole (Damaged part level block) = refused_whole (codes "Damaged") (text_lacks 10 (codes "Damaged") refl)
    (part ∷ level ∷ block ∷ [])
refusal_whole WrongKind = refused_whole (codes "WrongKind") (text_lacks 10 (codes "WrongKind") refl) []
refusal_whole IsRoot = refused_whole (codes "IsRoot") (text_lacks 10 (codes "IsRoot") refl) []
refusal_whole NoMemory = refused_whole (codes "NoMemory") (text_lacks 10 (codes "NoMemory") refl) []
refusal_whole Changed = refused_whole (codes "Changed") (text_lacks 10 (codes "Changed") refl) []

answer_whole : (reply : TreeReply) → IsPrintable (Answered reply) → IsWholeReply (answer_text reply)
answer_whole (Rows rows) small = WithLines (length rows) (flat_map row_line rows) small (rows_are_lines rows)
answer_whole (RoomIs room) small =
    alone (answer_text (RoomIs room)) (numbers_line (codes "room") (text_lacks 10 (codes "room") refl)
    (room.blocks ∷ room.dirs ∷ room.files ∷ [])) refl refl
answer_whole (FileIs bytes) small = WithBytes bytes small
answer_whole Done small =
    alone (codes "ok\n") (record { content = codes "ok"; lacks = text_lacks 10 (codes "ok") refl; is = refl }) refl refl
answer_whole (Refused refusal) small = refusal_whole refusal

pub reply_whole : (reply : Reply) → IsPrintable reply → IsWholeReply (reply_text reply)
reply_whole (Answered reply) small = answer_whole reply small
reply_whole (Committed count) small =
    alone (counted_line (codes "committed") count)
    (counted_is_line (codes "committed") (text_lacks 10 (codes "committed") refl) count) refl refl
reply_whole Aborted small =
    alone (codes "aborted\n")
    (record { content = codes "aborted"; lacks = text_lacks 10 (codes "aborted") refl; is = refl }) refl refl
reply_whole Ended small =
    alone (codes "ended\n")
    (record { content = codes "ended"; lacks = text_lacks 10 (codes "ended") refl; is = refl }) refl refl
reply_whole (BadLine number) small =
    refused_whole (codes "ScriptLine") (text_lacks 10 (codes "ScriptLine") refl) (number ∷ [])
reply_whole EarlyEnd small = refused_whole (codes "EarlyEnd") (text_lacks 10 (codes "EarlyEnd") refl) []
reply_whole LongScript small = refused_whole (codes "ScriptLong") (text_lacks 10 (codes "ScriptLong") refl) []

-- and one that says a commit where it is one
refusal_is_none : (refusal : Refusal) → is_commit (refusal_line refusal) ≡ false
refusal_is_none (BadPath fault) = refl
refusal_is_none NoParent = refl
refusal_is_none NotFound = refl
refusal_is_none Exists = refl
refusal_is_none NotEmpty = refl
refusal_is_none (Full kind need have) = refl
refusal_is_none (Damaged part level block) = refl
refusal_is_none WrongKind = refl
refusal_is_none IsRoot = refl
refusal_is_none NoMemory = refl
refusal_is_none Changed = refl

commit_is : (reply : Reply) → is_commit (reply_text reply) ≡ is_committed reply
commit_is (Answered (Rows rows)) = refl
commit_is (Answered (RoomIs room)) = refl
commit_is (Answered (FileIs bytes)) = refl
commit_is (Answered Done) = refl
commit_is (Answered (Refused refusal)) = refusal_is_none refusal
commit_is (Committed count) = refl
commit_is Aborted = refl
commit_is Ended = refl
commit_is (BadLine number) = refl
commit_is EarlyEnd = refl
commit_is LongScript = refl

-- ---- acknowledged commits

abbrev tally : Bool → ℕ
tally b = if b then 1 else 0

count_more : (replies : List Reply) (pieces : List (List ℕ)) (reply : Reply) (k : ℕ)
    → count_by is_committed replies + k ≡ count_by is_commit pieces
    → count_by is_committed (reply ∷ replies) + k ≡ count_by is_commit (reply_text reply ∷ pieces)
count_more replies pieces reply k before =
    let reported = sum_by-cons (λ (r : Reply). tally (is_committed r)) reply replies in
    let cut = sum_by-cons (λ (text : List ℕ). tally (is_commit text)) (reply_text reply) pieces in
    let same = ap tally (commit_is reply) in
    omega (arith, reported, cut, same, before)

pub acknowledged_one : (said : List ℕ) (j k : ℕ) → IsAcknowledged said j → IsAcknowledged said k → j ≡ k
acknowledged_one said j k first second =
    let same = cut_same said said first.replies second.replies first.rest second.rest first.cut second.cut refl in
    first.counts ∙ ap (count_by is_commit) same.0 ∙ sym second.counts

pub acknowledged_more : (replies : List Reply) (behind : List ℕ) (k : ℕ) → All IsPrintable replies
    → IsAcknowledged behind k → IsAcknowledged (transcript replies ++ behind) (count_by is_committed replies + k)
acknowledged_more [] behind k printable acknowledged =
    let none : 0 + k ≡ k = omega arith in rw none acknowledged
acknowledged_more (reply ∷ replies) behind k printable acknowledged =
    let rest = acknowledged_more replies behind k (All-tail IsPrintable reply replies printable) acknowledged in
    let whole = reply_whole reply (All-head IsPrintable reply replies printable) in
    rw append_assoc (record {
      replies = reply_text reply ∷ rest.replies;
      rest = rest.rest;
      cut = OneReply (reply_text reply) (transcript replies ++ behind) rest.replies rest.rest whole rest.cut;
      counts = count_more replies rest.replies reply k rest.counts;
    })

-- a strict front of a reply acknowledges nothing
pub acknowledged_front : (reply : Reply) (front behind : List ℕ) → IsPrintable reply
    → reply_text reply ≡ front ++ behind → behind ≢ [] → IsAcknowledged front 0
acknowledged_front reply front behind printable is some = record {
  replies = [];
  rest = front;
  cut = NoReply front (λ piece more whole split.
      (let text : reply_text reply ++ [] ≡ piece ++ (more ++ behind) = append-nil (reply_text reply) ∙ is
      ∙ ap (λ (t : List ℕ). t ++ behind) split
      ∙ append_assoc piece more behind in
      let same = whole_same (reply_text reply) piece [] (more ++ behind) (reply_whole reply printable) whole text in
      some (append_nothing more behind (sym same.1))));
  counts = refl;
}
  where
    append_nothing : (a b : List ℕ) → a ++ b ≡ [] → b ≡ []
    append_nothing [] b none = none
    append_nothing (byte ∷ a) b none = absurd (cc)
